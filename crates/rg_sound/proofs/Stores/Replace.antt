-- An object of the store is replaced by another of its class and label: what stays of values, regions and the other objects.
use Rattle.std.proofs.Common.{◌≡◌, refl, sym, ◌∙◌, ap, subst, ◌⊎◌, inl, inr, ◌↔◌, ℕ}
use Rattle.std.proofs.Common.{List, [], ◌∷◌, length, Option, Some, None, option_and_then, slice_get, slice_set, IsTrue}
use Rattle.std.proofs.lemmas.Option.{same_Some}
use Rattle.std.proofs.lemmas.Bool.{cases_eq}
use Rattle.rg_base.specs.declared.words.Cap.{Cap}
use Rattle.rg_base.specs.declared.ty.Ty.{Ty}
use Rattle.rg_base.specs.declared.ty.Ty.TheVariants.{Int, Bool, Ref}
use Rattle.rg_base.specs.declared.object.Label.{Label}
use Rattle.rg_base.specs.declared.object.Label.TheVariants.{Region, Temp, Frozen}
use Rattle.rg_base.specs.declared.object.Place.{Place}
use Rattle.rg_base.specs.declared.object.Place.TheVariants.{Var, Field}
use Rattle.rg_base.specs.declared.object.Seen.{Seen}
use Rattle.rg_base.specs.declared.value.Val.{Val}
use Rattle.rg_base.specs.declared.value.Val.TheVariants.{Nil, Int as IntVal, Bool as BoolVal, Obj}
use Rattle.rg_tree.specs.Tree.{Field as FieldOfClass, Class}
use Rattle.rg_rules.specs.Types.{type_of}
use Rattle.rg_rules.specs.State.{Frame, Window}
use Rattle.rg_rules.specs.Regions.{region_of, region_at}
use Rattle.rg_sound.specs.Windows.{windows_of}
use Rattle.rg_sound.specs.Values.{LabelFits, MeetsRef, MeetsBy, ValuesFit}
use Rattle.rg_sound.specs.Objects.{IsTemp, FieldFits, FieldsMeet, fields_in, ArrayFits, ObjectFits, ObjectsFit}
use Rattle.rg_sound.specs.OpenRegions.{IsNear}
use Rattle.rg_sound.specs.Numbers.{LabelGiven}
use Rattle.rg_sound.proofs.Owners.Owner.{get-set, get-set-other}
use Rattle.rg_sound.proofs.Values.Declared.{declared-same}

-- each object is still there, with its class and its label
abbrev pub KeepsObjects : List Seen → List Seen → Type 0
KeepsObjects old new = (a : ℕ) (o : Seen) → slice_get old a ≡ Some o →
    (n : Seen) × (slice_get new a ≡ Some n) × (n.class ≡ o.class) × (n.label ≡ o.label)

pub MeetsRef-kept : (old new : List Seen) (c : ℕ) (P : Label → Type 0) (v : Val) → KeepsObjects old new → MeetsRef old c P v → MeetsRef new c P v
MeetsRef-kept old new c P Nil k m = tt
MeetsRef-kept old new c P (IntVal z) k m = absurd m
MeetsRef-kept old new c P (BoolVal b) k m = absurd m
MeetsRef-kept old new c P (Obj a) k m =
    let n = k a m.object m.there in
    record { object = n.0; there = n.1; class_is = n.2 ∙ m.class_is; label_fits = subst P (sym n.3) m.label_fits }

pub MeetsBy-kept : (old new : List Seen) (F : Cap → Label → Type 0) (t : Ty) (v : Val) → KeepsObjects old new → MeetsBy old F t v → MeetsBy new F t v
MeetsBy-kept old new F Int v k m = m
MeetsBy-kept old new F Bool v k m = m
MeetsBy-kept old new F (Ref cap c) v k m = MeetsRef-kept old new c (F cap) v k m

pub FieldsMeet-kept : (classes : List Class) (old new : List Seen) (F : Cap → Label → Type 0) (fs : List FieldOfClass) (vs : List Val) →
    KeepsObjects old new → FieldsMeet classes old F fs vs → FieldsMeet classes new F fs vs
FieldsMeet-kept classes old new F [] [] k m = tt
FieldsMeet-kept classes old new F [] (v ∷ vs) k m = m
FieldsMeet-kept classes old new F (f ∷ fs) [] k m = m
FieldsMeet-kept classes old new F (f ∷ fs) (v ∷ vs) k m = (
  MeetsBy-kept old new F (type_of classes f.ty) v k m.0,
  FieldsMeet-kept classes old new F fs vs k m.1,
)

pub values-kept : (old new : List Seen) (ws : List Window) (fs : List Frame) → KeepsObjects old new → ValuesFit old ws fs → ValuesFit new ws fs
values-kept old new ws [] k h = tt
values-kept old new ws (f ∷ fs) k h = (
  λ i l e. MeetsBy-kept old new (LabelFits (windows_of (length fs) i ws)) l.ty l.value k (h.0 i l e),
  values-kept old new ws fs k h.1,
)

-- what an object owns, whether it is frozen or not
pub owned-label : (l m : Label) (x y : Option ℕ) → l ≡ m → x ≡ y → ◌≡◌ {A = Option ℕ} (elim l [ Region r ↦ x | Temp t ↦ x | Frozen ↦ None ])
    (elim m [ Region r ↦ y | Temp t ↦ y | Frozen ↦ None ])
owned-label l m x y e h =
    let P : Option ℕ → Type 0 = λ q. ◌≡◌ {A = Option ℕ} (elim l [ Region r ↦ x | Temp t ↦ x | Frozen ↦ None ])
    (elim l [ Region r ↦ q | Temp t ↦ q | Frozen ↦ None ]) in
    let Q : Label → Type 0 = λ q. ◌≡◌ {A = Option ℕ} (elim l [ Region r ↦ x | Temp t ↦ x | Frozen ↦ None ])
    (elim q [ Region r ↦ y | Temp t ↦ y | Frozen ↦ None ]) in
    subst Q e (subst P h refl)

module _ (store : List Seen) (a : ℕ) (o n : Seen) (there : slice_get store a ≡ Some o) (class : n.class ≡ o.class) (label : n.label ≡ o.label) where
  -- what holds of the new object, and of each other one, holds of all
  replaced-each : (b : ℕ) (p : Seen) → slice_get (slice_set store a n) b ≡ Some p → (P : Seen → Type 0) → (slice_get store b ≡ Some p → P p) →
      P n → P p
  replaced-each b p e P old new = elim (cases_eq b a) [
    | inl at ↦ let one : n ≡ p = same_Some n p (sym (get-set store a n o there) ∙ ap (slice_get (slice_set store a n)) (sym at) ∙ e) in
        subst P one new
    | inr away ↦ old (sym (get-set-other store a b n away) ∙ e)
  ]

  pub replaced-keeps : KeepsObjects store (slice_set store a n)
  replaced-keeps b p e = elim (cases_eq b a) [
    | inl at ↦
        let one : o ≡ p = same_Some o p (sym there ∙ ap (slice_get store) (sym at) ∙ e) in (
          n,
          ap (slice_get (slice_set store a n)) at ∙ get-set store a n o there,
          class ∙ ap (λ (q : Seen). q.class) one,
          label
              ∙ ap (λ (q : Seen). q.label) one,
        )
    | inr away ↦ (p, get-set-other store a b n away ∙ e, refl, refl)
  ]

  pub replaced-region : (b : ℕ) → region_at (slice_set store a n) b ≡ region_at store b
  replaced-region b = elim (cases_eq b a) [
    | inl at ↦ ap (region_at (slice_set store a n)) at ∙ ap (option_and_then (λ (q : Seen). region_of q.label)) (get-set store a n o there)
        ∙ ap (λ q. region_of q) label
        ∙ ap (option_and_then (λ (q : Seen). region_of q.label)) (sym there) ∙ ap (region_at store) (sym at)
    | inr away ↦ ap (option_and_then (λ (q : Seen). region_of q.label)) (get-set-other store a b n away)
  ]

  pub replaced-leads : (x : Option ℕ) → option_and_then (region_at (slice_set store a n)) x ≡ option_and_then (region_at store) x
  replaced-leads None = refl
  replaced-leads (Some b) = replaced-region b

  pub replaced-near : (w v : Window) (p : Place) → IsNear store w v p → IsNear (slice_set store a n) w v p
  replaced-near w v (Var m i) h = h
  replaced-near w v (Field b k) h =
      let q = replaced-keeps b h.0 h.1 in
      let P : Label → Type 0 = λ l. (l ≡ Region v.region) ⊎ (l ≡ Temp v.number) in (q.0, q.1, subst P (sym q.3) h.2)

  pub replaced-labels : (regions made : ℕ) → ((b : ℕ) (p : Seen) → slice_get store b ≡ Some p → LabelGiven regions made p.label) →
      (b : ℕ) (p : Seen) → slice_get (slice_set store a n) b ≡ Some p → LabelGiven regions made p.label
  replaced-labels regions made labels b p e = replaced-each b p e (λ q. LabelGiven regions made q.label) (λ h. labels b p h)
      (let P : Label → Type 0 = λ q. LabelGiven regions made q in subst P (sym label) (labels a o there))

  pub replaced-objects : (classes : List Class) (ws : List Window) (objects : ObjectsFit classes store ws) → length n.fields ≡ length o.fields →
      FieldsMeet classes store (FieldFits ws o.label) (fields_in classes (objects a o there).class o) n.fields →
      ObjectsFit classes (slice_set store a n) ws
  replaced-objects classes ws objects long meets b p e =
      replaced-each b p e (λ q. ObjectFits classes (slice_set store a n) ws q)
      (λ h. let f = objects b p h in record {
        class = f.class;
        class_is = f.class_is;
        label_is = f.label_is;
        fields = FieldsMeet-kept classes store (slice_set store a n) (FieldFits ws p.label) (fields_in classes f.class p) p.fields replaced-keeps
            f.fields;
        array = f.array;
      })
      (let f = objects a o there in
      let m = FieldsMeet-kept classes store (slice_set store a n) (FieldFits ws o.label) (fields_in classes f.class o) n.fields replaced-keeps meets
      in
      record {
        class = f.class;
        class_is = ap (slice_get classes) class ∙ f.class_is;
        label_is = (let P : Label → Type 0 = λ l. IsTemp l ↔ IsTrue f.class.is_tmp in subst P (sym label) f.label_is);
        fields = (let P : Label → Type 0 = λ l. FieldsMeet classes (slice_set store a n) (FieldFits ws l) (fields_in classes f.class n) n.fields in
            let Q : List FieldOfClass → Type 0 = λ q. FieldsMeet classes (slice_set store a n) (FieldFits ws o.label) q n.fields in
            subst P (sym label) (subst Q (sym (declared-same classes f.class o n class long)) m));
        array = (let A : ℕ → Type 0 = λ q. ArrayFits f.class f.class.element q in subst A (sym long) f.array);
      })
