-- The object whose field a statement writes, swaps or enters: it is one of the topmost window, and its field has the declared type.
use Rattle.std.proofs.Common.{◌≡◌, ◌≢◌, refl, sym, ◌∙◌, ap, subst, ◌⊎◌, inl, inr, ℕ, suc, Bool as Truth, true, false, bytes_eq}
use Rattle.std.proofs.Common.{if◌then◌else◌, List, [], ◌∷◌, find, Option, Some, None, option_map, option_and_then, unwrap_or, slice_get, Ok, arith}
use Rattle.std.proofs.lemmas.Option.{same_Some}
use Rattle.rg_base.specs.declared.words.Cap.{Cap}
use Rattle.rg_base.specs.declared.words.Cap.TheVariants.{Mut, Tmp, Paused, Imm, Iso}
use Rattle.rg_base.specs.declared.ty.Ty.{Ty}
use Rattle.rg_base.specs.declared.fault.Code.TheVariants.{Capability}
use Rattle.rg_base.specs.declared.object.Label.{Label}
use Rattle.rg_base.specs.declared.object.Label.TheVariants.{Region, Temp, Frozen}
use Rattle.rg_base.specs.declared.object.Place.{Place}
use Rattle.rg_base.specs.declared.object.Place.TheVariants.{Field}
use Rattle.rg_base.specs.declared.object.Seen.{Seen}
use Rattle.rg_base.specs.declared.value.Val.{Val}
use Rattle.rg_base.specs.declared.value.Val.TheVariants.{Nil, Obj}
use Rattle.rg_base.proofs.Callers.Labels.{region-temp}
use Rattle.rg_tree.specs.Tree.{Name, Variable, Field as FieldOfClass, Class}
use Rattle.rg_rules.specs.Capabilities.{may_write}
use Rattle.rg_rules.specs.Types.{type_of, fields_of, field_place, field_type}
use Rattle.rg_rules.specs.Environment.{Env}
use Rattle.rg_rules.specs.Paths.{walk, all_but_last, last_field, walk_receiver, writable_field}
use Rattle.rg_rules.specs.State.{Local, Frame, Window, value_in}
use Rattle.rg_rules.specs.Evaluation.{object_at, field_value, follow_fields}
use Rattle.rg_rules.specs.Regions.{region_at, owned}
use Rattle.rg_rules.specs.Owners.{owned_by_slot, owned_by_field, leads_into}
use Rattle.rg_rules.proofs.Answers.{bind-ok, test-then}
use Rattle.rg_rules.proofs.Path.{look_up-ok}
use Rattle.rg_rules.proofs.Step.{object_at-ok}
use Rattle.rg_sound.specs.Values.{LabelFits, Leads, MeetsRef, MeetsBy, Meets}
use Rattle.rg_sound.specs.Objects.{FieldFits, FieldsMeet, ObjectsFit}
use Rattle.rg_sound.specs.OpenRegions.{AllOwned, OneWindowEach, IsNear}
use Rattle.rg_sound.specs.Numbers.{Rising}
use Rattle.rg_sound.proofs.Basics.{none-some}
use Rattle.rg_sound.proofs.Owners.Owner.{AllOwners}
use Rattle.rg_sound.proofs.Values.Value.{Sees, walk-meets, slot_value, field_value-slot}
use Rattle.rg_sound.proofs.Values.Declared.{named-fields}
use Rattle.rg_sound.proofs.Owners.Window.{rising-below}

-- a label is the region or the number of the topmost window
abbrev pub IsTop : List Window → Label → Type 0
IsTop [] l = ⊥
IsTop (w ∷ ws) l = (l ≡ Region w.region) ⊎ (l ≡ Temp w.number)

pub writes-top : (ws : List Window) (cap : Cap) (l : Label) → may_write cap ≡ true → LabelFits ws cap l → IsTop ws l
writes-top [] Mut l e h = h
writes-top (w ∷ ws) Mut l e h = inl h
writes-top [] Tmp l e h = h
writes-top (w ∷ ws) Tmp l e h = inr h
writes-top ws Paused l e h = grind arith
writes-top ws Imm l e h = grind arith
writes-top ws Iso l e h = grind arith

-- a field of a class, by its name, with its value in an object
pub record FieldAt (classes : List Class) (store : List Seen) (F : Cap → Label → Type 0) (fs : List FieldOfClass) (vs : List Val) (x : Name)
    (t : Ty) : Type 0 where
  pub place : ℕ
  pub place_is : field_place fs x ≡ Some place
  pub field : FieldOfClass
  pub field_is : slice_get fs place ≡ Some field
  pub found : find (λ (g : FieldOfClass). bytes_eq g.name x) fs ≡ Some field
  pub type_is : type_of classes field.ty ≡ t
  pub value : Val
  pub value_is : slice_get vs place ≡ Some value
  pub meets : MeetsBy store F t value

at_by : (b : Truth) (classes : List Class) (store : List Seen) (F : Cap → Label → Type 0) (f : FieldOfClass) (fs : List FieldOfClass) (v : Val)
    (vs : List Val) (x : Name) (t : Ty) →
    bytes_eq f.name x ≡ b → MeetsBy store F (type_of classes f.ty) v →
    (option_map (λ (g : FieldOfClass). type_of classes g.ty) (find (λ (g : FieldOfClass). bytes_eq g.name x) fs) ≡ Some t →
    FieldAt classes store F fs vs x t) →
    option_map (λ (g : FieldOfClass). type_of classes g.ty) (if b then Some f else find (λ (g : FieldOfClass). bytes_eq g.name x) fs) ≡ Some t →
    FieldAt classes store F (f ∷ fs) (v ∷ vs) x t
at_by true classes store F f fs v vs x t at m rest e =
    let same : type_of classes f.ty ≡ t = grind arith in
    let P : Ty → Type 0 = λ q. MeetsBy store F q v in
    record {
      place = 0;
      place_is = rw at refl;
      field = f;
      field_is = refl;
      found = rw at refl;
      type_is = same;
      value = v;
      value_is = refl;
      meets =
          subst P same m;
    }
at_by false classes store F f fs v vs x t at m rest e =
    let r = rest e in
    record {
      place = suc r.place;
      place_is = rw (at, r.place_is) refl;
      field = r.field;
      field_is = r.field_is;
      found = rw at r.found;
      type_is =
          r.type_is;
      value = r.value;
      value_is = r.value_is;
      meets = r.meets;
    }

pub field-at : (classes : List Class) (store : List Seen) (F : Cap → Label → Type 0) (fs : List FieldOfClass) (vs : List Val) (x : Name) (t : Ty) →
    FieldsMeet classes store F fs vs →
    option_map (λ (g : FieldOfClass). type_of classes g.ty) (find (λ (g : FieldOfClass). bytes_eq g.name x) fs) ≡ Some t →
    FieldAt classes store F fs vs x t
field-at classes store F [] vs x t m e = none-some e
field-at classes store F (f ∷ fs) [] x t m e = absurd m
field-at classes store F (f ∷ fs) (v ∷ vs) x t m e = at_by (bytes_eq f.name x) classes store F f fs v vs x t refl m.0
    (field-at classes store F fs vs x t m.1) e

-- the receiver of a path with fields, which may be written
pub record Receiver (classes : List Class) (store : List Seen) (ws : List Window) (at : Val) (o : Seen) (x : Name) (t : Ty) : Type 0 where
  pub address : ℕ
  pub value : at ≡ Obj address
  pub there : slice_get store address ≡ Some o
  pub top : IsTop ws o.label
  pub field : FieldAt classes store (FieldFits ws o.label) (fields_of classes o.class) o.fields x t

pub receiver-at : (classes : List Class) (store : List Seen) (ws : List Window) (n : ℕ) (env : Env) (locals : List Local) →
    ObjectsFit classes store ws →
    Sees store ws n env locals → (x : Variable) (f : Name) (fs : List Name) (t : Ty) (at : Val) (o : Seen) →
    writable_field classes env x f fs ≡ Ok t →
    follow_fields classes store (value_in locals x) (all_but_last f fs) ≡ Ok at → object_at store at ≡ Ok o →
    Receiver classes store ws at o (last_field f fs) t
receiver-at classes store ws n env locals fit s x f fs t at o e h k =
    let a = bind-ok (walk_receiver classes env x f fs) _ t e in
    let b = test-then (may_write a.0.receiver) Capability _ t a.2 in
    let same : a.0.ty ≡ t = grind arith in
    let c = bind-ok (walk classes env x (all_but_last f fs)) _ a.0 a.1 in
    let l = look_up-ok classes c.0 (last_field f fs) a.0 c.2 in
    let m = walk-meets classes store ws n env locals fit s x (all_but_last f fs) c.0 at c.1 h in
    let d = object_at-ok store at o k in
    let P : Ty → Type 0 = λ q. Meets store ws q at in
    let Q : Val → Type 0 = λ q. MeetsRef store l.class (LabelFits ws a.0.receiver) q in
    let n : Leads store d.address l.class (LabelFits ws a.0.receiver) = subst Q d.value (subst P l.reference m) in
    let one : n.object ≡ o = same_Some n.object o (sym n.there ∙ d.there) in
    let R : Seen → Type 0 = λ q. LabelFits ws a.0.receiver q.label in
    let class_is : o.class ≡ l.class = ap (λ (q : Seen). q.class) (sym one) ∙ n.class_is in
    let ty : field_type classes o.class (last_field f fs) ≡ Some t = ap (λ c. field_type classes c (last_field f fs)) class_is ∙ l.declared
    ∙ ap Some same in
    record {
      address = d.address;
      value = d.value;
      there = d.there;
      top = writes-top ws a.0.receiver o.label b.0 (subst R one n.label_fits);
      field = field-at classes store (FieldFits ws o.label) (fields_of classes o.class) o.fields (last_field f fs) t
          (named-fields classes store ws o (fit d.address o d.there) (last_field f fs) t ty) ty;
    }

-- the value that is read there
pub receiver-value : (classes : List Class) (store : List Seen) (ws : List Window) (at : Val) (o : Seen) (x : Name) (t : Ty) →
    (r : Receiver classes store ws at o x t) →
    field_value classes o x ≡ r.field.value
receiver-value classes store ws at o x t r =
    field_value-slot classes o x ∙ ap (λ q. slot_value q o.fields) r.field.place_is ∙ ap (λ q. unwrap_or q Nil) r.field.value_is

-- where the owner reference in a field of an object that isn't frozen leads
pub field-leads : (classes : List Class) (store : List Seen) (frames : List Frame) (ws : List Window) (a j : ℕ) (o : Seen) (f : FieldOfClass)
    (v : Val) →
    slice_get store a ≡ Some o → IsTop ws o.label → slice_get (fields_of classes o.class) j ≡ Some f → slice_get o.fields j ≡ Some v →
    leads_into classes store frames (Field a j) ≡ option_and_then (region_at store) (owned (type_of classes f.ty) v)
field-leads classes store frames ws a j o f v there top field_is value_is =
    ap (λ (q : Option Seen). option_and_then (region_at store) (option_and_then (λ (p : Seen). owned_by_field classes p j) q)) there
    ∙ ap (option_and_then (region_at store)) (by_label ws o.label top ∙ slot)
  where
    slot : owned_by_slot classes o j ≡ owned (type_of classes f.ty) v
    slot = rw (field_is, value_is) refl

    by_label : (ws : List Window) (l : Label) → IsTop ws l →
        (elim l [ Region r ↦ owned_by_slot classes o j | Temp n ↦ owned_by_slot classes o j | Frozen ↦ None ]) ≡ owned_by_slot classes o j
    by_label ws (Region r) h = refl
    by_label ws (Temp n) h = refl
    by_label [] Frozen h = absurd h
    by_label (w ∷ ws) Frozen (inl h) = grind arith
    by_label (w ∷ ws) Frozen (inr h) = grind arith

-- no window names a field of an object of the topmost window as its owner
region-same : (w : Window) (u : Window) → Region w.region ≡ Region u.region → w.region ≡ u.region
region-same w u e = grind arith

number-same : (w : Window) (u : Window) → Temp w.number ≡ Temp u.number → w.number ≡ u.number
number-same w u e = grind arith

beneath_not : (w v : Window) (o : Seen) → w.region ≢ v.region → w.number ≢ v.number → IsTop (w ∷ []) o.label →
    (o.label ≡ Region v.region) ⊎ (o.label ≡ Temp v.number) → ⊥
beneath_not w v o r n (inl a) (inl b) = r (region-same w v (sym a ∙ b))
beneath_not w v o r n (inl a) (inr b) = region-temp w.region v.number (sym a ∙ b)
beneath_not w v o r n (inr a) (inl b) = region-temp v.region w.number (sym b ∙ a)
beneath_not w v o r n (inr a) (inr b) = n (number-same w v (sym a ∙ b))

rest-not_owner : (classes : List Class) (store : List Seen) (frames : List Frame) (w : Window) (ws : List Window) → AllOwned classes store frames ws →
    ((i : ℕ) (u : Window) → slice_get ws i ≡ Some u → (w.region ≢ u.region) × (w.number ≢ u.number)) → (a j : ℕ) (o : Seen) →
    slice_get store a ≡ Some o → IsTop (w ∷ []) o.label →
    AllOwners ws (λ p. p ≢ Field a j)
rest-not_owner classes store frames w [] h d a j o there top = tt
rest-not_owner classes store frames w (u ∷ []) h d a j o there top = (λ p e. none-some (sym h.1 ∙ e), tt)
rest-not_owner classes store frames w (u ∷ v ∷ ws) h d a j o there top = (
  λ p e same.
      let one : h.0.place ≡ Field a j = same_Some h.0.place p (sym h.0.named ∙ e) ∙ same in
      let P : Place → Type 0 = λ q. IsNear store u v q in
      let near : IsNear store u v (Field a j) = subst P one h.0.near in
      let here : near.0 ≡ o = same_Some near.0 o (sym near.1 ∙ there) in
      let Q : Seen → Type 0 = λ q. (q.label ≡ Region v.region) ⊎ (q.label ≡ Temp v.number) in
      let apart = d 1 v refl in beneath_not w v o apart.0 apart.1 top (subst Q here near.2),
  rest-not_owner classes store frames w (v ∷ ws) h.1 (λ i u g. d (suc i) u g) a j o there top,
)

pub top-not_owner_field : (classes : List Class) (store : List Seen) (frames : List Frame) (ws : List Window) → AllOwned classes store frames ws →
    OneWindowEach ws → Rising ws →
    (a j : ℕ) (o : Seen) → slice_get store a ≡ Some o → IsTop ws o.label → AllOwners ws (λ p. p ≢ Field a j)
top-not_owner_field classes store frames [] h e r a j o there top = tt
top-not_owner_field classes store frames (w ∷ []) h e r a j o there top = (λ p q. none-some (sym h.1 ∙ q), tt)
top-not_owner_field classes store frames (w ∷ v ∷ ws) h e r a j o there top =
    let apart : (i : ℕ) (u : Window) → slice_get (v ∷ ws) i ≡ Some u → (w.region ≢ u.region) × (w.number ≢ u.number) = λ i u g. (
      λ s. let no : 0 ≡ suc i = e 0 (suc i) w u refl g s in absurd (omega (arith, no)),
      λ s. let l = rising-below w (v ∷ ws) r i u g in
          absurd (omega (arith, s, l)),
    ) in (
      λ p q same.
          let one : h.0.place ≡ Field a j = same_Some h.0.place p (sym h.0.named ∙ q) ∙ same in
          let P : Place → Type 0 = λ z. IsNear store w v z in
          let near : IsNear store w v (Field a j) = subst P one h.0.near in
          let here : near.0 ≡ o = same_Some near.0 o (sym near.1 ∙ there) in
          let Q : Seen → Type 0 = λ z. (z.label ≡ Region v.region) ⊎ (z.label ≡ Temp v.number) in
          let d = apart 0 v refl in beneath_not w v o d.0 d.1 top (subst Q here near.2),
      rest-not_owner classes store frames w (v ∷ ws) h.1 apart a j o there top,
    )
