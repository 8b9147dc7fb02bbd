-- The objects with which a behaviour begins fit: those of contents, and the one that the method runs on.
use Rattle.std.proofs.Common.{◌≡◌, refl, sym, ◌∙◌, ap, subst, ℕ, zero, suc, ◌+◌, ◌≤◌, Bool as Truth, true, false, not, ◌&&◌, List, [], ◌∷◌}
use Rattle.std.proofs.Common.{length}
use Rattle.std.proofs.Common.{map, filter_map, find, bytes_eq, replicate, Option, Some, None, option_map, slice_get, IsTrue, arith}
use Rattle.std.specs.Prelude.{◌==◌, nat_le}
use Rattle.std.specs.List.{list_all}
use Rattle.std.proofs.lemmas.Bool.{eqb-true, leb-true, not-true}
use Rattle.std.proofs.lemmas.List.{length-map}
use Rattle.std.proofs.lemmas.Option.{same_Some}
use Rattle.rg_base.specs.declared.limits.TheConstants.{ARRAY_SIZE}
use Rattle.rg_base.specs.declared.words.Cap.{Cap}
use Rattle.rg_base.specs.declared.words.Cap.TheVariants.{Mut, Tmp, Paused, Imm, Iso}
use Rattle.rg_base.specs.declared.ty.Ty.{Ty}
use Rattle.rg_base.specs.declared.ty.Ty.TheVariants.{Int, Bool, Ref}
use Rattle.rg_base.specs.declared.fault.Code.TheVariants.{BadType}
use Rattle.rg_base.specs.declared.object.Label.{Label}
use Rattle.rg_base.specs.declared.object.Label.TheVariants.{Region, Temp, Frozen}
use Rattle.rg_base.specs.declared.object.Seen.{Seen}
use Rattle.rg_base.specs.declared.value.Val.{Val}
use Rattle.rg_base.specs.declared.value.Val.TheVariants.{Nil, Int as IntVal, Bool as BoolVal, Obj}
use Rattle.rg_tree.specs.Tree.{Name, Ty as Written, int, bool, ref, Field, Method, Class, Tree}
use Rattle.rg_rules.specs.Types.{type_of, field_member, method_member, members_of, fields_of, method_named}
use Rattle.rg_rules.specs.Headers.{is_iso_written, suits_receiver}
use Rattle.rg_rules.specs.Acceptance.{Accepted}
use Rattle.rg_rules.specs.RightSides.{opening_value}
use Rattle.rg_rules.specs.State.{Window}
use Rattle.rg_rules.proofs.Answers.{test-then}
use Rattle.rg_rules.proofs.Acceptance.{Accepted-parts}
use Rattle.rg_rules.proofs.Header.{judge_headers-method}
use Rattle.rg_sound.specs.Values.{Leads, MeetsBy}
use Rattle.rg_sound.specs.Objects.{RegionFieldFits, FieldFits, FieldsMeet, element_field, fields_declared, ArrayFits, IsTemp, ObjectFits}
use Rattle.rg_sound.proofs.Basics.{none-some}
use Rattle.rg_sound.proofs.Values.Declared.{array-class}
use Rattle.rg_typed.specs.Typed.{is_outside, region_field_fits, field_fits, object_fits, value_fits, fields_fit, values_fit, object_of_class}
use Rattle.rg_typed.specs.Typed.{is_temp, cell_fits}
use Rattle.rg_cown.specs.declared.cargo.CargoCell.{CargoCell}
use Rattle.rg_cown.specs.Cargo.{CargoList, label_of, is_frozen, is_in, SoundCargo}
use Rattle.rg_cown.specs.Cargo.{label_from}
use Rattle.rg_cown.proofs.SoundParts.{parts_of, label_there}
use Rattle.rg_cown.proofs.SoundMade.{is_in_true}
use Rattle.rg_opening.specs.declared.given.Given.{Given}
use Rattle.rg_opening.specs.declared.given.Given.TheVariants.{Start, Held}
use Rattle.rg_opening.specs.Opening.{value_from, object_from, field_values}
use Rattle.rg_opening.specs.Beginning.{bridge_class, FieldsBegin}
use Rattle.rg_opening.proofs.Placed.{objects_before, regions_before}

-- Truth values

pub both : (a b : Truth) → a && b ≡ true → (a ≡ true) × (b ≡ true)
both true b e = (refl, e)
both false b e = absurd cc

pub all_there : {X : Type 0} → (p : X → Truth) (xs : List X) (k : ℕ) (x : X) → list_all p xs ≡ true → slice_get xs k ≡ Some x → p x ≡ true
all_there p [] k x e there = none-some there
all_there p (y ∷ xs) zero x e there = ap p (sym (same_Some y x there)) ∙ (both (p y) (list_all p xs) e).0
all_there p (y ∷ xs) (suc k) x e there = all_there p xs k x (both (p y) (list_all p xs) e).1 there

-- Labels

in_region : (q : ℕ) (l : Label) → is_in q (Some l) ≡ true → l ≡ Region q
in_region q l e = same_Some l (Region q) (is_in_true q (Some l) e)

frozen_is : (l : Label) → is_frozen (Some l) ≡ true → l ≡ Frozen
frozen_is (Region r) e = absurd cc
frozen_is (Temp n) e = absurd cc
frozen_is Frozen e = refl

-- a region other than one
pub outside_is : (q : ℕ) (l : Label) → is_outside q l ≡ true → (p : ℕ) × (l ≡ Region p) × (p == q ≡ false)
outside_is q (Region p) e = (p, refl, not-true (p == q) e)
outside_is q (Temp n) e = absurd cc
outside_is q Frozen e = absurd cc

region-label : (q r : ℕ) (cap : Cap) (l : Label) → region_field_fits q cap l ≡ true → RegionFieldFits (r + q) cap (label_from r l)
region-label q r Mut l e = ap (label_from r) (in_region q l e)
region-label q r Tmp l e = absurd cc
region-label q r Paused l e = absurd cc
region-label q r Imm l e = ap (label_from r) (frozen_is l e)
region-label q r Iso l e = let p = outside_is q l e in (r + p.0, ap (label_from r) p.1)

-- where a field of a content may lead, it may behind other objects and regions
label-fits : (ws : List Window) (r : ℕ) (own : Label) (cap : Cap) (l : Label) → field_fits own cap l ≡ true
    → FieldFits ws (label_from r own) cap (label_from r l)
label-fits ws r (Region q) cap l e = region-label q r cap l e
label-fits ws r (Temp n) cap l e = absurd cc
label-fits ws r Frozen cap l e = ap (label_from r) (frozen_is l e)

-- Objects of a content whose objects stand in a store behind so many others, and its regions behind so many

-- the objects of a content stand in a store
abbrev pub Stand : List Seen → (objects regions : ℕ) → List CargoCell → Type 0
Stand store n r cells = (j : ℕ) (o : CargoCell) → slice_get cells j ≡ Some o → slice_get store (n + j) ≡ Some (object_from n r o)

module _ (classes : List Class) (store : List Seen) (ws : List Window) (cells : List CargoCell) (n r : ℕ) (stand : Stand store n r cells) where
  leads : (own : Label) (cap : Cap) (class a : ℕ) (o : Option CargoCell) → slice_get cells a ≡ o → object_fits own cap class o ≡ true
      → Leads store (n + a) class (FieldFits ws (label_from r own) cap)
  leads own cap class a None at e = absurd cc
  leads own cap class a (Some o) at e =
      let h = both (o.class == class) (field_fits own cap o.label) e in
      record {
        object = object_from n r o;
        there = stand a o at;
        class_is = eqb-true o.class class h.0;
        label_fits = label-fits ws r own cap o.label h.1;
      }

  value-meets : (own : Label) (ty : Ty) (v : Val) → value_fits cells own ty v ≡ true
      → MeetsBy store (FieldFits ws (label_from r own)) ty (value_from n v)
  value-meets own Int Nil e = absurd cc
  value-meets own Int (IntVal z) e = tt
  value-meets own Int (BoolVal b) e = absurd cc
  value-meets own Int (Obj a) e = absurd cc
  value-meets own Bool Nil e = absurd cc
  value-meets own Bool (IntVal z) e = absurd cc
  value-meets own Bool (BoolVal b) e = tt
  value-meets own Bool (Obj a) e = absurd cc
  value-meets own (Ref cap class) Nil e = tt
  value-meets own (Ref cap class) (IntVal z) e = absurd cc
  value-meets own (Ref cap class) (BoolVal b) e = absurd cc
  value-meets own (Ref cap class) (Obj a) e = leads own cap class a (slice_get cells a) refl e

  fields-meet : (own : Label) (fs : List Field) (vs : List Val) → fields_fit classes cells own fs vs ≡ true
      → FieldsMeet classes store (FieldFits ws (label_from r own)) fs (map (value_from n) vs)
  fields-meet own [] [] e = tt
  fields-meet own [] (v ∷ vs) e = absurd cc
  fields-meet own (f ∷ fs) [] e = absurd cc
  fields-meet own (f ∷ fs) (v ∷ vs) e =
      let h = both (value_fits cells own (type_of classes f.ty) v) (fields_fit classes cells own fs vs) e in
      (value-meets own (type_of classes f.ty) v h.0, fields-meet own fs vs h.1)

  elements-meet : (own : Label) (w : Written) (vs : List Val) → list_all (value_fits cells own (type_of classes w)) vs ≡ true
      → FieldsMeet classes store (FieldFits ws (label_from r own)) (replicate (length (map (value_from n) vs)) (element_field w))
      (map (value_from n) vs)
  elements-meet own w [] e = tt
  elements-meet own w (v ∷ vs) e =
      let h = both (value_fits cells own (type_of classes w) v) (list_all (value_fits cells own (type_of classes w)) vs) e in
      (value-meets own (type_of classes w) v h.0, elements-meet own w vs h.1)

-- the values of an object are those of its class
values-meet : (t : Tree) → Accepted t → (store : List Seen) (ws : List Window) (cells : List CargoCell) (n r : ℕ) → Stand store n r cells
    → (o : CargoCell) (c : Class) → slice_get t.classes o.class ≡ Some c → (e : Option Written) → c.element ≡ e
    → values_fit t.classes cells o.label c e o.fields ≡ true
    → FieldsMeet t.classes store (FieldFits ws (label_from r o.label))
    (fields_declared t.classes o.class e (length (map (value_from n) o.fields))) (map (value_from n) o.fields)
    × ArrayFits c e (length (map (value_from n) o.fields))
values-meet t a store ws cells n r stand o c at None is e =
    let P : Option Class → Type 0 = λ q.
    FieldsMeet t.classes store (FieldFits ws (label_from r o.label)) (filter_map field_member (members_of q)) (map (value_from n) o.fields) in
    (subst P (sym at) (fields-meet t.classes store ws cells n r stand o.label (filter_map field_member c.members) o.fields e), tt)
values-meet t a store ws cells n r stand o c at (Some w) is e =
    let few = nat_le (length o.fields) ARRAY_SIZE in
    let all = list_all (value_fits cells o.label (type_of t.classes w)) o.fields in
    let h = both (not (is_iso_written w) && few) all e in
    let g = both (not (is_iso_written w)) few h.0 in
    let P : ℕ → Type 0 = λ q. q ≤ ARRAY_SIZE in (
      elements-meet t.classes store ws cells n r stand o.label w o.fields h.1,
      (
        (array-class t a o.class c at w is).members,
        not-true (is_iso_written w) g.0,
        subst P (sym (length-map o.fields (value_from n))) (leb-true (length o.fields) ARRAY_SIZE g.1),
      ),
    )

is_temp-from : (r : ℕ) (l : Label) → is_temp l ≡ false → IsTemp (label_from r l) → ⊥
is_temp-from r (Region q) e h = h
is_temp-from r (Temp n) e h = absurd cc
is_temp-from r Frozen e h = h

never-true : (b : Truth) → b ≡ false → IsTrue b → ⊥
never-true true e h = absurd cc
never-true false e h = absurd cc

-- an object of a content that fits the program
pub object-fits : (t : Tree) → Accepted t → (store : List Seen) (ws : List Window) (cells : List CargoCell) (n r : ℕ) → Stand store n r cells
    → (o : CargoCell) → cell_fits t.classes cells o ≡ true → ObjectFits t.classes store ws (object_from n r o)
object-fits t a store ws cells n r stand o e =
    let h = both (not (is_temp o.label)) (object_of_class t.classes cells (slice_get t.classes o.class) o) e in
    by (slice_get t.classes o.class) refl (not-true (is_temp o.label) h.0) h.1
  where
    by : (k : Option Class) → slice_get t.classes o.class ≡ k → is_temp o.label ≡ false → object_of_class t.classes cells k o ≡ true
        → ObjectFits t.classes store ws (object_from n r o)
    by None at lasts fits = absurd cc
    by (Some c) at lasts fits =
        let h = both (not c.is_tmp) (values_fit t.classes cells o.label c c.element o.fields) fits in
        let v = values-meet t a store ws cells n r stand o c at c.element refl h.1 in
        record {
          class = c;
          class_is = at;
          label_is = (λ q. absurd (is_temp-from r o.label lasts q), λ q. absurd (never-true c.is_tmp (not-true c.is_tmp h.0) q));
          fields = v.0;
          array = v.1;
        }

-- The object that the method runs on

-- the first object of a sound content
pub record Bridge (c : CargoList) (class : ℕ) : Type 0 where
  pub cell : CargoCell
  pub first : slice_get c.cells 0 ≡ Some cell
  pub class_is : cell.class ≡ class
  pub label_is : cell.label ≡ Region 0

pub bridge-is : (c : CargoList) (class : ℕ) → SoundCargo c → bridge_class c ≡ Some class → Bridge c class
bridge-is c class sound e =
    let l = label_there c.cells 0 (Region 0) (is_in_true 0 (label_of c.cells 0) (parts_of c sound).first) in
    let same : Some l.0.class ≡ Some class = ap (option_map (λ (o : CargoCell). o.class)) (sym l.1) ∙ e in
    record { cell = l.0; first = l.1; class_is = same_Some l.0.class class same; label_is = l.2 }

opening-meets : (classes : List Class) (store : List Seen) (F : Cap → Label → Type 0) (w : Written)
    → MeetsBy store F (type_of classes w) (opening_value w)
opening-meets classes store F int = tt
opening-meets classes store F bool = tt
opening-meets classes store F (ref cap x) = tt

-- the contents of fields stand in a store
abbrev pub AllStand : List Seen → (objects regions : ℕ) → List Given → Type 0
AllStand store n r gs =
    (k : ℕ) (c : CargoList) → slice_get gs k ≡ Some (Held c) → Stand store (objects_before n gs k) (regions_before r gs k) c.cells

-- fields that begin so meet their types
begins-meet : (t : Tree) (store : List Seen) (ws : List Window) (fs : List Field) (gs : List Given) (n r : ℕ) → FieldsBegin t fs gs
    → AllStand store n r gs → FieldsMeet t.classes store (FieldFits ws (Region 0)) fs (field_values n gs)
begins-meet t store ws [] [] n r h all = tt
begins-meet t store ws [] (g ∷ gs) n r h all = absurd h
begins-meet t store ws (f ∷ fs) [] n r h all = absurd h
begins-meet t store ws (f ∷ fs) (Start v ∷ gs) n r h all =
    let P : Val → Type 0 = λ q. MeetsBy store (FieldFits ws (Region 0)) (type_of t.classes f.ty) q in (
      subst P (sym h.0) (opening-meets t.classes store (FieldFits ws (Region 0)) f.ty),
      begins-meet t store ws fs gs n r h.1 (λ k. all (suc k)),
    )
begins-meet t store ws (f ∷ fs) (Held c ∷ gs) n r h all =
    let own = h.0 in
    let b = bridge-is c own.class own.sound own.bridge in
    let P : ℕ → Type 0 = λ q. slice_get store q ≡ Some (object_from n r b.cell) in
    let T : Ty → Type 0 = λ q. MeetsBy store (FieldFits ws (Region 0)) q (Obj n) in
    let meets : MeetsBy store (FieldFits ws (Region 0)) (Ref Iso own.class) (Obj n) = record {
      object = object_from n r b.cell;
      there = subst P (omega arith) (all 0 c refl 0 b.cell b.first);
      class_is = b.class_is;
      label_fits = (r + 0, ap (label_from r) b.label_is);
    } in
    (subst T (sym own.owns) meets, begins-meet t store ws fs gs (n + length c.cells) (r + length c.managers) h.1 (λ k. all (suc k)))

-- a class that has a `mut` method is an ordinary class, and no array class
pub record Ordinary (classes : List Class) (n : ℕ) : Type 0 where
  pub class : Class
  pub class_is : slice_get classes n ≡ Some class
  pub lasts : class.is_tmp ≡ false
  pub no_array : class.element ≡ None

suits-mut : (b : Truth) → suits_receiver Mut b ≡ true → b ≡ false
suits-mut true e = absurd cc
suits-mut false e = refl

pub ordinary : (t : Tree) → Accepted t → (n : ℕ) (x : Name) (m : Method) → method_named t.classes n x ≡ Some m → m.receiver ≡ Mut
    → Ordinary t.classes n
ordinary t a n x m h is =
    let j = judge_headers-method t.classes n x m (Accepted-parts t a).headers h in
    let r = test-then (suits_receiver m.receiver j.class.is_tmp) BadType _ tt j.passed in
    let P : Cap → Type 0 = λ q. suits_receiver q j.class.is_tmp ≡ true in
    record {
      class = j.class;
      class_is = j.at;
      lasts = suits-mut j.class.is_tmp (subst P is r.0);
      no_array = by j.class j.at j.class.element refl;
    }
  where
    by : (c : Class) → slice_get t.classes n ≡ Some c → (e : Option Written) → c.element ≡ e → e ≡ None
    by c at None is = refl
    by c at (Some w) is =
        let none = (array-class t a n c at w is).members in
        let no : method_named t.classes n x ≡ None =
        ap (λ (q : Option Class). find (λ (y : Method). bytes_eq y.name x) (filter_map method_member (members_of q))) at
        ∙ ap (λ ms. find (λ (y : Method). bytes_eq y.name x) (filter_map method_member ms)) none in
        none-some (sym no ∙ h)

pub owner-fits : (t : Tree) (store : List Seen) (ws : List Window) (class : ℕ) (gs : List Given) → Ordinary t.classes class
    → FieldsBegin t (fields_of t.classes class) gs → AllStand store 1 1 gs
    → ObjectFits t.classes store ws (record { class = class; fields = field_values 1 gs; label = Region 0 })
owner-fits t store ws class gs o h all =
    let vs = field_values 1 gs in
    let F : Option Written → Type 0 = λ q.
    FieldsMeet t.classes store (FieldFits ws (Region 0)) (fields_declared t.classes class q (length vs)) vs in
    let A : Option Written → Type 0 = λ q. ArrayFits o.class q (length vs) in
    record {
      class = o.class;
      class_is = o.class_is;
      label_is = (λ q. absurd q, λ q. absurd (never-true o.class.is_tmp o.lasts q));
      fields = subst F (sym o.no_array) (begins-meet t store ws (fields_of t.classes class) gs 1 1 h all);
      array = subst A (sym o.no_array) tt;
    }
