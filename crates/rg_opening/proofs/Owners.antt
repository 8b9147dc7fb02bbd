-- The owner references with which a behaviour begins: those of its object into contents, and those inside of contents.
use Rattle.std.proofs.Common.{◌≡◌, ◌≢◌, refl, sym, ◌∙◌, ap, subst, ◌⊎◌, inl, inr, ℕ, zero, suc, ◌+◌, ◌<◌, true}
use Rattle.std.proofs.Common.{List, [], ◌∷◌, length, filter_map, Option, Some, None, option_map, option_and_then, slice_get, arith}
use Rattle.std.specs.Prelude.{◌==◌, not}
use Rattle.std.proofs.lemmas.Bool.{eqb-false}
use Rattle.std.proofs.lemmas.Option.{same_Some}
use Rattle.rg_base.specs.declared.words.Cap.TheVariants.{Mut, Tmp, Paused, Imm, Iso}
use Rattle.rg_base.specs.declared.ty.Ty.{Ty}
use Rattle.rg_base.specs.declared.ty.Ty.TheVariants.{Int, Bool, Ref}
use Rattle.rg_base.specs.declared.object.Label.{Label}
use Rattle.rg_base.specs.declared.object.Label.TheVariants.{Region, Temp, Frozen}
use Rattle.rg_base.specs.declared.object.Place.{Place}
use Rattle.rg_base.specs.declared.object.Place.TheVariants.{Var, Field}
use Rattle.rg_base.specs.declared.object.Seen.{Seen}
use Rattle.rg_base.specs.declared.value.Val.{Val}
use Rattle.rg_base.specs.declared.value.Val.TheVariants.{Nil, Int as IntVal, Bool as BoolVal, Obj}
use Rattle.rg_tree.specs.Tree.{Ty as Written, int, bool, ref, Field as FieldOfClass, Class, Tree}
use Rattle.rg_rules.specs.Acceptance.{Accepted}
use Rattle.rg_rules.specs.Types.{type_of, field_member, members_of, fields_of}
use Rattle.rg_rules.specs.RightSides.{opening_value}
use Rattle.rg_rules.specs.State.{Drops, Frame}
use Rattle.rg_rules.specs.Regions.{region_of, region_at, owned, owned_as}
use Rattle.rg_rules.specs.Owners.{owned_by_slot, owned_by_field, owned_in_field, leads_into, Parent, Above, direct, further, Forest}
use Rattle.rg_rules.proofs.Point.{and_then-some}
use Rattle.rg_sound.proofs.Basics.{none-some}
use Rattle.rg_sound.proofs.Values.Declared.{array-class}
use Rattle.rg_typed.specs.Typed.{field_fits, object_fits, value_fits, fields_fit, values_fit, object_of_class, is_temp, cell_fits}
use Rattle.rg_cown.specs.declared.cargo.CargoCell.{CargoCell}
use Rattle.rg_cown.specs.Cargo.{CargoList}
use Rattle.rg_cown.specs.Cargo.{label_from}
use Rattle.rg_cown.proofs.GroveLoaded.{first_there}
use Rattle.rg_cown.proofs.SoundParts.{Enters, region_below, one_entry, no_entry, enters_first}
use Rattle.rg_opening.specs.declared.given.Given.{Given}
use Rattle.rg_opening.specs.declared.given.Given.TheVariants.{Start, Held}
use Rattle.rg_opening.specs.Opening.{value_from, object_from, field_values, content_objects}
use Rattle.rg_opening.specs.Beginning.{MayOwn, FieldsBegin}
use Rattle.rg_opening.proofs.Placed.{objects_before, regions_before, IsContent, get-mapped, content-back, value-back, regions_before-more}
use Rattle.rg_opening.proofs.Placed.{regions-apart}
use Rattle.rg_opening.proofs.Objects.{both, all_there, outside_is, AllStand, bridge-is}

-- Owner references of one object

-- an owner reference in a field of an object: a field of the class that is `iso`, and its value
pub record OwnsAt (classes : List Class) (o : Seen) (k a : ℕ) : Type 0 where
  pub field : FieldOfClass
  pub field_is : slice_get (fields_of classes o.class) k ≡ Some field
  pub class : ℕ
  pub type_is : type_of classes field.ty ≡ Ref Iso class
  pub value_is : slice_get o.fields k ≡ Some (Obj a)

iso-is : (t : Ty) (v : Val) (a : ℕ) → owned t v ≡ Some a → (class : ℕ) × (t ≡ Ref Iso class) × (v ≡ Obj a)
iso-is Int v a e = none-some e
iso-is Bool v a e = none-some e
iso-is (Ref Mut k) v a e = none-some e
iso-is (Ref Tmp k) v a e = none-some e
iso-is (Ref Paused k) v a e = none-some e
iso-is (Ref Imm k) v a e = none-some e
iso-is (Ref Iso k) Nil a e = none-some e
iso-is (Ref Iso k) (IntVal z) a e = none-some e
iso-is (Ref Iso k) (BoolVal b) a e = none-some e
iso-is (Ref Iso k) (Obj b) a e = (k, refl, ap Obj (same_Some b a e))

owns-at : (classes : List Class) (o : Seen) (k a : ℕ) → owned_by_slot classes o k ≡ Some a → OwnsAt classes o k a
owns-at classes o k a e =
    let f = and_then-some (slice_get (fields_of classes o.class) k)
    (λ (f : FieldOfClass). option_and_then (owned_as classes f) (slice_get o.fields k)) a e in
    let v = and_then-some (slice_get o.fields k) (owned_as classes f.0) a f.2 in
    let i = iso-is (type_of classes f.0.ty) v.0 a v.2 in
    record { field = f.0; field_is = f.1; class = i.0; type_is = i.1; value_is = v.1 ∙ ap Some i.2 }

-- the region in which an object with a label lies
region-in : (store : List Seen) (a r : ℕ) (o : Seen) → slice_get store a ≡ Some o → o.label ≡ Region r → region_at store a ≡ Some r
region-in store a r o at is = ap (option_and_then (λ (q : Seen). region_of q.label)) at ∙ ap region_of is

-- Fields

-- the field that begins with a content may own it
pub owner-of : (t : Tree) (fs : List FieldOfClass) (gs : List Given) (k : ℕ) (c : CargoList) → FieldsBegin t fs gs → slice_get gs k ≡ Some (Held c)
    → (f : FieldOfClass) × (slice_get fs k ≡ Some f) × MayOwn t (type_of t.classes f.ty) c
owner-of t [] [] k c h at = none-some at
owner-of t [] (g ∷ gs) k c h at = absurd h
owner-of t (f ∷ fs) [] k c h at = absurd h
owner-of t (f ∷ fs) (Start v ∷ gs) zero c h at = absurd cc
owner-of t (f ∷ fs) (Held d ∷ gs) zero c h at =
    let same : d ≡ c = held-is at in
    let P : CargoList → Type 0 = λ q. MayOwn t (type_of t.classes f.ty) q in
    (f, refl, subst P same h.0)
  where
    held-is : Some (Held d) ≡ Some (Held c) → d ≡ c
    held-is e = cc
owner-of t (f ∷ fs) (Start v ∷ gs) (suc k) c h at = owner-of t fs gs k c h.1 at
owner-of t (f ∷ fs) (Held d ∷ gs) (suc k) c h at = owner-of t fs gs k c h.1 at

-- a field that begins with a value leads nowhere
start-leads : {B : Type 0} (t : Tree) (fs : List FieldOfClass) (gs : List Given) (k : ℕ) (a : ℕ) → FieldsBegin t fs gs
    → slice_get gs k ≡ Some (Start (Obj a)) → B
start-leads t [] [] k a h at = none-some at
start-leads t [] (g ∷ gs) k a h at = absurd h
start-leads t (f ∷ fs) [] k a h at = absurd h
start-leads t (f ∷ fs) (Start v ∷ gs) zero a h at = absurd (never f.ty (sym (start-is at) ∙ h.0))
  where
    start-is : Some (Start v) ≡ Some (Start (Obj a)) → v ≡ Obj a
    start-is e = cc

    never : (w : Written) → Obj a ≡ opening_value w → ⊥
    never int e = cc
    never bool e = cc
    never (ref cap x) e = cc
start-leads t (f ∷ fs) (Held c ∷ gs) zero a h at = absurd cc
start-leads t (f ∷ fs) (Start v ∷ gs) (suc k) a h at = start-leads t fs gs k a h.1 at
start-leads t (f ∷ fs) (Held c ∷ gs) (suc k) a h at = start-leads t fs gs k a h.1 at

-- Values of contents

fit-at : (classes : List Class) (cells : List CargoCell) (own : Label) (fs : List FieldOfClass) (vs : List Val) (k : ℕ) (f : FieldOfClass) (v : Val)
    → fields_fit classes cells own fs vs ≡ true → slice_get fs k ≡ Some f → slice_get vs k ≡ Some v
    → value_fits cells own (type_of classes f.ty) v ≡ true
fit-at classes cells own [] vs k f v h at there = none-some at
fit-at classes cells own (g ∷ fs) [] k f v h at there = none-some there
fit-at classes cells own (g ∷ fs) (w ∷ vs) zero f v h at there =
    let P : FieldOfClass → Type 0 = λ q. value_fits cells own (type_of classes q.ty) v ≡ true in
    let Q : Val → Type 0 = λ q. value_fits cells own (type_of classes g.ty) q ≡ true in
    subst P (same_Some g f at)
    (subst Q (same_Some w v there) (both (value_fits cells own (type_of classes g.ty) w) (fields_fit classes cells own fs vs) h).0)
fit-at classes cells own (g ∷ fs) (w ∷ vs) (suc k) f v h at there =
    fit-at classes cells own fs vs k f v (both (value_fits cells own (type_of classes g.ty) w) (fields_fit classes cells own fs vs) h).1 at there

-- the value in a field of an object that fits
value-fit : (t : Tree) → Accepted t → (cells : List CargoCell) (o : CargoCell) → cell_fits t.classes cells o ≡ true → (k : ℕ) (f : FieldOfClass)
    (v : Val) → slice_get (fields_of t.classes o.class) k ≡ Some f → slice_get o.fields k ≡ Some v
    → value_fits cells o.label (type_of t.classes f.ty) v ≡ true
value-fit t a cells o fits k f v at there =
    by (slice_get t.classes o.class) refl (both (not (is_temp o.label)) (object_of_class t.classes cells (slice_get t.classes o.class) o) fits).1
  where
    by_element : (c : Class) → slice_get t.classes o.class ≡ Some c → (e : Option Written) → c.element ≡ e
        → values_fit t.classes cells o.label c e o.fields ≡ true → value_fits cells o.label (type_of t.classes f.ty) v ≡ true
    by_element c is None e h =
        let P : Option Class → Type 0 = λ q. slice_get (filter_map field_member (members_of q)) k ≡ Some f in
        fit-at t.classes cells o.label (filter_map field_member c.members) o.fields k f v h (subst P is at) there
    by_element c is (Some w) e h =
        let none : slice_get (fields_of t.classes o.class) k ≡ None =
        ap (λ (q : Option Class). slice_get (filter_map field_member (members_of q)) k) is
        ∙ ap (λ ms. slice_get (filter_map field_member ms) k) (array-class t a o.class c is w e).members in
        none-some (sym none ∙ at)

    by : (c : Option Class) → slice_get t.classes o.class ≡ c → object_of_class t.classes cells c o ≡ true
        → value_fits cells o.label (type_of t.classes f.ty) v ≡ true
    by None is h = absurd cc
    by (Some c) is h =
        by_element c is c.element refl (both (not c.is_tmp) (values_fit t.classes cells o.label c c.element o.fields) h).1

-- an `iso` field of an unfrozen object leads to an object of another region
leads-out : (cells : List CargoCell) (p class a : ℕ) (o : Option CargoCell) → slice_get cells a ≡ o → object_fits (Region p) Iso class o ≡ true
    → (c : CargoCell) × (q : ℕ) × (slice_get cells a ≡ Some c) × (c.label ≡ Region q) × (p ≢ q)
leads-out cells p class a None at e = absurd cc
leads-out cells p class a (Some c) at e =
    let l = outside_is p c.label (both (c.class == class) (field_fits (Region p) Iso c.label) e).1 in
    let d = eqb-false l.0 p l.2 in
    (c, l.0, at, l.1, λ i. d (sym i))

-- The owner references

value-leads : (n : ℕ) (v : Val) (x : ℕ) → Obj x ≡ value_from n v → (a : ℕ) × (v ≡ Obj a) × (x ≡ n + a)
value-leads n Nil x e = absurd cc
value-leads n (IntVal z) x e = absurd cc
value-leads n (BoolVal b) x e = absurd cc
value-leads n (Obj a) x e = (a, refl, is e)
  where
    is : Obj x ≡ Obj (n + a) → x ≡ n + a
    is q = cc

-- the reference of a field of the behaviour's object into the region of a content's bridge
pub record FromField (gs : List Given) (place : Place) (region : ℕ) : Type 0 where
  pub field : ℕ
  pub content : CargoList
  pub held : slice_get gs field ≡ Some (Held content)
  pub place_is : place ≡ Field 0 field
  pub region_is : region ≡ regions_before 1 gs field

-- a reference from one region of a content into another
pub record Within (gs : List Given) (place : Place) (region : ℕ) : Type 0 where
  pub field : ℕ
  pub content : CargoList
  pub held : slice_get gs field ≡ Some (Held content)
  pub from : ℕ
  pub to : ℕ
  pub object : ℕ
  pub slot : ℕ
  pub target : ℕ
  pub enters : Enters content.cells from to object slot target
  pub place_is : place ≡ Field (objects_before 1 gs field + object) slot
  pub region_is : region ≡ regions_before 1 gs field + to

module _ (t : Tree) (accepted : Accepted t) (fs : List FieldOfClass) (class : ℕ) (fields_are : fields_of t.classes class ≡ fs) (gs : List Given)
    (begin : FieldsBegin t fs gs) where
  abbrev pub owner : Seen
  owner = record { class = class; fields = field_values 1 gs; label = Region 0 }

  abbrev pub store : List Seen
  store = owner ∷ content_objects 1 1 gs

  abbrev pub frames : List Frame
  frames = record { locals = record { name = None; ty = Ref Mut class; value = Obj 0 } ∷ []; target = Drops }
      ∷ record { locals = []; target = Drops } ∷ []

  module _ (stand : AllStand store 1 1 gs) where
    sound-of : (k : ℕ) (c : CargoList) → slice_get gs k ≡ Some (Held c) → (f : FieldOfClass) × MayOwn t (type_of t.classes f.ty) c
    sound-of k c at = let o = owner-of t fs gs k c begin at in (o.0, o.2)

    by-field : (k a r : ℕ) → OwnsAt t.classes owner k a → region_at store a ≡ Some r → FromField gs (Field 0 k) r
    by-field k a r o in_region = elim (value-back 1 gs k (Obj a) o.value_is) [
      | inl start ↦ start-leads t fs gs k a begin start
      | inr held ↦
          let own = (sound-of k held.0 held.1).1 in
          let b = bridge-is held.0 own.class own.sound own.bridge in
          let n = objects_before 1 gs k in
          let m = regions_before 1 gs k in
          let same : a ≡ n = object-number a n held.2 in
          let there : slice_get store (n + 0) ≡ Some (object_from n m b.cell) = stand k held.0 held.1 0 b.cell b.first in
          let P : ℕ → Type 0 = λ q. slice_get store q ≡ Some (object_from n m b.cell) in
          let lies = region-in store a (m + 0) (object_from n m b.cell) (subst P (omega (arith, same)) there) (ap (label_from m) b.label_is) in
          let is = same_Some r (m + 0) (sym in_region ∙ lies) in
          record { field = k; content = held.0; held = held.1; place_is = refl; region_is = omega (arith, is) }
    ]
      where
        object-number : (x y : ℕ) → Obj x ≡ Obj y → x ≡ y
        object-number x y e = cc

    -- an `iso` field of an object of a content, which lies in a region of the content
    in-region : (a k x r : ℕ) (o : Seen) (is : IsContent 1 1 gs a o) (p : ℕ) → is.cell.label ≡ Region p
        → OwnsAt t.classes (object_from (objects_before 1 gs is.field) (regions_before 1 gs is.field) is.cell) k x → region_at store x ≡ Some r
        → Within gs (Field a k) r
    in-region a k x r o is p label w in_region =
        let n = objects_before 1 gs is.field in
        let m = regions_before 1 gs is.field in
        let cells = is.content.cells in
        let own = (sound-of is.field is.content is.held).1 in
        let fits = all_there (cell_fits t.classes cells) cells is.place is.cell own.typed is.cell_is in
        let g = get-mapped (value_from n) is.cell.fields k (Obj x) w.value_is in
        let v = value-leads n g.0 x g.2 in
        let value : slice_get is.cell.fields k ≡ Some (Obj v.0) = g.1 ∙ ap Some v.1 in
        let fit = value-fit t accepted cells is.cell fits k w.field (Obj v.0) w.field_is value in
        let T : Ty → Type 0 = λ q. value_fits cells is.cell.label q (Obj v.0) ≡ true in
        let L : Label → Type 0 = λ q. object_fits q Iso w.class (slice_get cells v.0) ≡ true in
        let out = leads-out cells p w.class v.0 (slice_get cells v.0) refl (subst L label (subst T w.type_is fit)) in
        let there = stand is.field is.content is.held v.0 out.0 out.2 in
        let P : ℕ → Type 0 = λ q. slice_get store q ≡ Some (object_from n m out.0) in
        let lies = region-in store x (m + out.1) (object_from n m out.0) (subst P (sym v.2) there) (ap (label_from m) out.3) in
        record {
          field = is.field;
          content = is.content;
          held = is.held;
          from = p;
          to = out.1;
          object = is.place;
          slot = k;
          target = v.0;
          enters = record {
            field = record { cell = is.cell; there = is.cell_is; value = value };
            from = ap (option_map (λ (c : CargoCell). c.label)) is.cell_is ∙ ap Some label;
            to = ap (option_map (λ (c : CargoCell). c.label)) out.2 ∙ ap Some out.3;
            other = out.4;
          };
          place_is = ap (λ q. Field q k) is.address;
          region_is = same_Some r (m + out.1) (sym in_region ∙ lies);
        }

    -- which address an object owns by a field, seen by its label
    abbrev pub owned_with : Label → (owned : Option ℕ) → Option ℕ
    owned_with l x = elim l [ Region z ↦ x | Temp z ↦ x | Frozen ↦ None ]

    by-content : (a k x r : ℕ) (o : Seen) → IsContent 1 1 gs a o → owned_by_field t.classes o k ≡ Some x → region_at store x ≡ Some r
        → Within gs (Field a k) r
    by-content a k x r o is owns in_region = by is.cell.label refl
      where
        by : (l : Label) → is.cell.label ≡ l → Within gs (Field a k) r
        by l e =
            let n = objects_before 1 gs is.field in
            let m = regions_before 1 gs is.field in
            let moved = object_from n m is.cell in
            let P : Seen → Type 0 = λ q. owned_by_field t.classes q k ≡ Some x in
            let O : Label → Type 0 = λ q. owned_with (label_from m q) (owned_by_slot t.classes moved k) ≡ Some x in
            let F : Label → Type 0 = λ q. not (is_temp q) ≡ true in
            let own = (sound-of is.field is.content is.held).1 in
            let fits = all_there (cell_fits t.classes is.content.cells) is.content.cells is.place is.cell own.typed is.cell_is in
            let lasts = (both (not (is_temp is.cell.label))
            (object_of_class t.classes is.content.cells (slice_get t.classes is.cell.class) is.cell) fits).0 in
            by_label l e (subst F e lasts) (subst O e (subst P is.object owns))
          where
            by_label : (l : Label) → is.cell.label ≡ l → not (is_temp l) ≡ true
                → owned_with (label_from (regions_before 1 gs is.field) l)
                (owned_by_slot t.classes (object_from (objects_before 1 gs is.field) (regions_before 1 gs is.field) is.cell) k) ≡ Some x
                → Within gs (Field a k) r
            by_label (Region p) e lasts w =
                in-region a k x r o is p e
                (owns-at t.classes (object_from (objects_before 1 gs is.field) (regions_before 1 gs is.field) is.cell) k x w) in_region
            by_label (Temp z) e lasts w = absurd cc
            by_label Frozen e lasts w = none-some w

    -- each owner reference is one or the other
    owner-is : (p : Place) (r : ℕ) → leads_into t.classes store frames p ≡ Some r → FromField gs p r ⊎ Within gs p r
    owner-is (Var zero i) r e = none-some e
    owner-is (Var (suc zero) zero) r e = none-some e
    owner-is (Var (suc zero) (suc i)) r e = none-some e
    owner-is (Var (suc (suc n)) i) r e = none-some e
    owner-is (Field zero k) r e =
        let x = and_then-some (owned_in_field t.classes store 0 k) (region_at store) r e in
        inl (by-field k x.0 r (owns-at t.classes owner k x.0 x.1) x.2)
    owner-is (Field (suc i) k) r e =
        let x = and_then-some (owned_in_field t.classes store (suc i) k) (region_at store) r e in
        let o = and_then-some (slice_get (content_objects 1 1 gs) i) (λ (o : Seen). owned_by_field t.classes o k) x.0 x.1 in
        let P : ℕ → Type 0 = λ q. Within gs (Field q k) r in
        inr (subst P (omega arith) (by-content (1 + i) k x.0 r o.0 (content-back 1 1 gs i o.0 o.1) o.2 x.2))

    first-within : (k : ℕ) (c : CargoList) → slice_get gs k ≡ Some (Held c) → 0 < length c.managers
    first-within k c at =
        let own = (sound-of k c at).1 in
        let b = bridge-is c own.class own.sound own.bridge in
        region_below c 0 0 own.sound (ap (option_map (λ (q : CargoCell). q.label)) b.first ∙ ap Some b.label_is)

    to-within : (p : Place) (r : ℕ) (w : Within gs p r) → w.to < length w.content.managers
    to-within p r w = region_below w.content w.target w.to (sound-of w.field w.content w.held).1.sound w.enters.to

    held-one : (k j : ℕ) (c d : CargoList) → k ≡ j → slice_get gs k ≡ Some (Held c) → slice_get gs j ≡ Some (Held d) → c ≡ d
    held-one k j c d e at there =
        let P : ℕ → Type 0 = λ q. slice_get gs q ≡ Some (Held d) in held-is (same_Some (Held c) (Held d) (sym at ∙ subst P (sym e) there))
      where
        held-is : Held c ≡ Held d → c ≡ d
        held-is q = cc

    -- a content's own references don't lead into its bridge's region
    apart : (p q : Place) (r : ℕ) → FromField gs p r → Within gs q r → ⊥
    apart p q r f w =
        let low = first-within f.field f.content f.held in
        let up = to-within q r w in
        let fr = f.region_is in
        let wr = w.region_is in
        let same = regions-apart 1 gs f.field w.field f.content w.content 0 w.to f.held w.held low up (omega (arith, fr, wr)) in
        let count = ap (regions_before 1 gs) same in
        let first : w.to ≡ 0 = omega (arith, fr, wr, count) in
        let E : ℕ → Type 0 = λ z. Enters w.content.cells w.from z w.object w.slot w.target in
        no_entry w.content w.from w.object w.slot w.target (sound-of w.field w.content w.held).1.sound (subst E first w.enters)

    one-field : (p q : Place) (r : ℕ) → FromField gs p r → FromField gs q r → p ≡ q
    one-field p q r f g =
        let low = first-within f.field f.content f.held in
        let up = first-within g.field g.content g.held in
        let fr = f.region_is in
        let gr = g.region_is in
        let same = regions-apart 1 gs f.field g.field f.content g.content 0 0 f.held g.held low up (omega (arith, fr, gr)) in
        f.place_is ∙ ap (Field 0) same ∙ sym g.place_is

    one-within : (p q : Place) (r : ℕ) → Within gs p r → Within gs q r → p ≡ q
    one-within p q r w v =
        let low = to-within p r w in
        let up = to-within q r v in
        let wr = w.region_is in
        let vr = v.region_is in
        let same = regions-apart 1 gs w.field v.field w.content v.content w.to v.to w.held v.held low up (omega (arith, wr, vr)) in
        let count = ap (regions_before 1 gs) same in
        let to_same : v.to ≡ w.to = omega (arith, wr, vr, count) in
        let content = held-one w.field v.field w.content v.content same w.held v.held in
        let C : CargoList → Type 0 = λ z. Enters z.cells v.from v.to v.object v.slot v.target in
        let T : ℕ → Type 0 = λ z. Enters w.content.cells v.from z v.object v.slot v.target in
        let o = one_entry w.content w.from w.to w.object w.slot w.target v.from v.object v.slot v.target
        (sound-of w.field w.content w.held).1.sound w.enters (subst T to_same (subst C (sym content) v.enters)) in
        w.place_is ∙ ap (λ z. Field (objects_before 1 gs z + w.object) w.slot) same
        ∙ ap (λ z. Field (objects_before 1 gs v.field + z) w.slot) o.0 ∙ ap (Field (objects_before 1 gs v.field + v.object)) o.1 ∙ sym v.place_is

    -- a region that another one owns has a greater number
    parent-less : (p r : ℕ) → Parent t.classes store p r → p < r
    parent-less p r h = elim (owner-is (Field h.object h.field) r h.leads) [
      | inl f ↦
          let at : h.object ≡ 0 = place-object h.object h.field 0 f.field f.place_is in
          let P : ℕ → Type 0 = λ q. region_at store q ≡ Some p in
          let first : 0 ≡ p = same_Some 0 p (subst P at h.lies) in
          let more = regions_before-more 1 gs f.field in
          let is = f.region_is in
          omega (arith, first, more, is)
      | inr w ↦
          let own = (sound-of w.field w.content w.held).1 in
          let n = objects_before 1 gs w.field in
          let m = regions_before 1 gs w.field in
          let at : h.object ≡ n + w.object = place-object h.object h.field (n + w.object) w.slot w.place_is in
          let there = stand w.field w.content w.held w.object w.enters.field.cell w.enters.field.there in
          let mine : Some w.enters.field.cell.label ≡ Some (Region w.from) =
          ap (option_map (λ (q : CargoCell). q.label)) (sym w.enters.field.there) ∙ w.enters.from in
          let label = same_Some w.enters.field.cell.label (Region w.from) mine in
          let lies = region-in store (n + w.object) (m + w.from) (object_from n m w.enters.field.cell) there (ap (label_from m) label) in
          let P : ℕ → Type 0 = λ q. region_at store q ≡ Some p in
          let is_from = same_Some p (m + w.from) (sym (subst P at h.lies) ∙ lies) in
          let x = first_there w.content.cells w.target w.to w.enters.to in
          let rises = (enters_first w.content w.from w.to w.object w.slot w.target x.0 own.sound w.enters x.1).1 in
          let is = w.region_is in
          omega (arith, is_from, rises, is)
    ]
      where
        place-object : (a k b j : ℕ) → Field a k ≡ Field b j → a ≡ b
        place-object a k b j e = cc

    above-less : (p r : ℕ) → Above t.classes store p r → p < r
    above-less p r (direct h) = parent-less p r h
    above-less p r (further {q = q} a h) = let x = above-less p q a in let y = parent-less q r h in omega (arith, x, y)

    pub opening-forest : Forest t.classes store frames
    opening-forest = record {
      one_owner = λ p q r h k. elim (owner-is p r h) [
        | inl f ↦ elim (owner-is q r k) [ inl g ↦ one-field p q r f g | inr w ↦ absurd (apart p q r f w) ]
        | inr w ↦ elim (owner-is q r k) [ inl f ↦ absurd (apart q p r f w) | inr v ↦ one-within p q r w v ]
      ];
      none_into_first = λ p h. elim (owner-is p 0 h) [
        | inl f ↦ let more = regions_before-more 1 gs f.field in let is = f.region_is in omega (arith, more, is)
        | inr w ↦ let more = regions_before-more 1 gs w.field in let is = w.region_is in omega (arith, more, is)
      ];
      no_cycle = λ r a. let x = above-less r r a in omega (arith, x);
    }
