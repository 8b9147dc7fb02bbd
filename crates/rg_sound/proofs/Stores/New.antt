-- A store with one object more, which owns nothing.
use Rattle.std.proofs.Common.{◌≡◌, refl, sym, ◌∙◌, ap, subst, inl, inr, ◌↔◌, ℕ, zero, suc, ◌<◌, ◌≤◌, Bool as Truth, true, false}
use Rattle.std.proofs.Common.{if◌then◌else◌, List, [], ◌∷◌, ◌++◌, length, map, replicate, Option, Some, None, option_and_then, slice_get, arith}
use Rattle.std.proofs.Common.{IsTrue}
use Rattle.std.proofs.lemmas.List.{length-append}
use Rattle.std.proofs.lemmas.Option.{slice_get_within, slice_get_past, same_Some}
use Rattle.std.proofs.lemmas.Bool.{cases_eq}
use Rattle.rg_base.specs.declared.words.Cap.{Cap}
use Rattle.rg_base.specs.declared.object.Label.{Label}
use Rattle.rg_base.specs.declared.object.Label.TheVariants.{Region, Temp, Frozen}
use Rattle.rg_base.specs.declared.object.Place.{Place}
use Rattle.rg_base.specs.declared.object.Place.TheVariants.{Var, Field}
use Rattle.rg_base.specs.declared.object.Seen.{Seen}
use Rattle.rg_base.specs.declared.value.Val.{Val}
use Rattle.rg_base.specs.declared.value.Val.TheVariants as val
use Rattle.rg_tree.specs.Tree.{Ty as WrittenTy, Name, int, bool, ref, Field as FieldOfClass, Class}
use Rattle.rg_tree.proofs.TreesFrom.{slice_get-push}
use Rattle.rg_rules.specs.Capabilities.{is_iso}
use Rattle.rg_rules.specs.Types.{class_number, type_of, fields_of}
use Rattle.rg_rules.specs.State.{Local, Frame, Window, frame_at}
use Rattle.rg_rules.specs.Regions.{region_of, region_at, address, owned_as}
use Rattle.rg_rules.specs.RightSides.{opening_value, opening_element, new_object, new_array, made}
use Rattle.rg_rules.specs.Owners.{owned_by_local, owned_by_slot, owned_by_field, owned_in_field, owned_in_frame, leads_into, Parent, Above, direct}
use Rattle.rg_rules.specs.Owners.{further}
use Rattle.rg_sound.specs.Values.{MeetsBy, ValuesFit}
use Rattle.rg_sound.specs.Objects.{IsTemp, FieldFits, FieldsMeet, element_field, fields_declared, fields_in, ArrayFits, ObjectFits, ObjectsFit}
use Rattle.rg_sound.specs.OpenRegions.{IsNear}
use Rattle.rg_sound.specs.Numbers.{LabelGiven}
use Rattle.rg_sound.proofs.Basics.{none-some}
use Rattle.rg_sound.proofs.Owners.Owner.{get-snoc-other, frame_at-top, frame_at-lower, OwnersCome, AllOwners, forest-come}
use Rattle.rg_sound.proofs.Owners.Owner.{open-come}
use Rattle.rg_sound.proofs.Owners.Data.{Data, Nothing, Within, meets-within}
use Rattle.rg_sound.proofs.Stores.Replace.{KeepsObjects, values-kept, FieldsMeet-kept}
use Rattle.rg_base.specs.declared.limits.TheConstants.{ARRAY_SIZE}
use Rattle.rg_sound.proofs.Values.Declared.{ArrayClass, no-fields}
use Rattle.std.proofs.lemmas.List.{length-replicate}

-- a variable's value lies in the store
local-within : (store : List Seen) (ws : List Window) (fs : List Frame) → ValuesFit store ws fs → (n i : ℕ) (f : Frame) (l : Local) →
    frame_at fs n ≡ Some f → slice_get f.locals i ≡ Some l → Within (length store) l.value
local-within store ws [] h n i f l a b = none-some a
local-within store ws (g ∷ fs) h n i f l a b = elim (cases_eq n (length fs)) [
  | inl at ↦
      let one : g ≡ f = same_Some g f (sym (frame_at-top g fs) ∙ ap (frame_at (g ∷ fs)) (sym at) ∙ a) in
      meets-within store _ l.ty l.value (h.0 i l (ap (λ (q : Frame). slice_get q.locals i) one ∙ b))
  | inr away ↦ local-within store ws fs h.1 n i f l (sym (frame_at-lower g fs n away) ∙ a) b
]

-- and so does a field's
field-within : (classes : List Class) (store : List Seen) (F : Cap → Label → Type 0) (fs : List FieldOfClass) (vs : List Val) →
    FieldsMeet classes store F fs vs → (k : ℕ) (v : Val) → slice_get vs k ≡ Some v → Within (length store) v
field-within classes store F [] [] h k v e = none-some e
field-within classes store F [] (w ∷ vs) h k v e = absurd h
field-within classes store F (f ∷ fs) [] h k v e = absurd h
field-within classes store F (f ∷ fs) (w ∷ vs) h zero v e =
    let P : Val → Type 0 = λ q. Within (length store) q in subst P (same_Some w v e) (meets-within store F (type_of classes f.ty) w h.0)
field-within classes store F (f ∷ fs) (w ∷ vs) h (suc k) v e = field-within classes store F fs vs h.1 k v e

-- what a field starts with meets its type
opening-one : (classes : List Class) (store : List Seen) (F : Cap → Label → Type 0) (w : WrittenTy) →
    MeetsBy store F (type_of classes w) (opening_value w)
opening-one classes store F int = tt
opening-one classes store F bool = tt
opening-one classes store F (ref k x) = tt

-- fields at their start meet their types
pub opening-meets : (classes : List Class) (store : List Seen) (F : Cap → Label → Type 0) (fs : List FieldOfClass) →
    FieldsMeet classes store F fs (map (λ (f : FieldOfClass). opening_value f.ty) fs)
opening-meets classes store F [] = tt
opening-meets classes store F (f ∷ fs) = (opening-one classes store F f.ty, opening-meets classes store F fs)

-- and so do elements
elements-open : (classes : List Class) (store : List Seen) (F : Cap → Label → Type 0) (w : WrittenTy) (n : ℕ) →
    FieldsMeet classes store F (replicate n (element_field w)) (replicate n (opening_value w))
elements-open classes store F w zero = tt
elements-open classes store F w (suc n) = (opening-one classes store F w, elements-open classes store F w n)

pub opening-address : (fs : List FieldOfClass) (j : ℕ) (v : Val) → slice_get (map (λ (f : FieldOfClass). opening_value f.ty) fs) j ≡ Some v →
    address v ≡ None
opening-address [] j v h = none-some h
opening-address (f ∷ fs) zero v h = ap address (sym (same_Some (opening_value f.ty) v h)) ∙ one f.ty
  where
    one : (w : WrittenTy) → address (opening_value w) ≡ None
    one int = refl
    one bool = refl
    one (ref k x) = refl
opening-address (f ∷ fs) (suc j) v h = opening-address fs j v h

-- a new object owns nothing
pub new-owns : (classes : List Class) (x : Name) (label : Label) (j : ℕ) → owned_by_field classes (new_object classes x label) j ≡ None
new-owns classes x label j = by_label label (slot (slice_get (fields_of classes (class_number classes x)) j)
    (slice_get (map (λ (f : FieldOfClass). opening_value f.ty) (fields_of classes (class_number classes x))) j) refl)
  where
    none_owned : (b : Truth) (v : Val) → address v ≡ None → ◌≡◌ {A = Option ℕ} (if b then address v else None) None
    none_owned true v e = e
    none_owned false v e = refl

    slot : (f : Option FieldOfClass) (v : Option Val) → slice_get
        (map (λ (f : FieldOfClass). opening_value f.ty) (fields_of classes (class_number classes x))) j ≡ v →
        option_and_then (λ (g : FieldOfClass). option_and_then (owned_as classes g) v) f ≡ None
    slot None v e = refl
    slot (Some f) None e = refl
    slot (Some f) (Some v) e = none_owned (is_iso (type_of classes f.ty)) v (opening-address (fields_of classes (class_number classes x)) j v e)

    by_label : (l : Label) → owned_by_slot classes (new_object classes x label) j ≡ None →
        ◌≡◌ {A = Option ℕ} (elim l [
          | Region r ↦ owned_by_slot classes (new_object classes x label) j
          | Temp n ↦
              owned_by_slot classes (new_object classes x label) j
          | Frozen ↦ None
        ]) None
    by_label (Region r) e = e
    by_label (Temp n) e = e
    by_label Frozen e = refl

-- an object that may be made of a class, with a label: it owns nothing
pub record IsMade (classes : List Class) (c : Class) (class : ℕ) (label : Label) (o : Seen) : Type 0 where
  pub class_is : o.class ≡ class
  pub label_is : o.label ≡ label
  pub owns : (j : ℕ) → owned_by_field classes o j ≡ None
  pub fields : (S : List Seen) (ws : List Window) → FieldsMeet classes S (FieldFits ws o.label) (fields_in classes c o) o.fields
  pub array : ArrayFits c c.element (length o.fields)

pub object-made : (classes : List Class) (x : Name) (c : Class) (label : Label) → c.element ≡ None →
    IsMade classes c (class_number classes x) label (new_object classes x label)
object-made classes x c label none = record {
  class_is = refl;
  label_is = refl;
  owns = new-owns classes x label;
  fields = λ S ws. (let P : Option WrittenTy → Type 0 = λ q. FieldsMeet classes S (FieldFits ws label)
      (fields_declared classes (class_number classes x) q (length (new_object classes x label).fields)) (new_object classes x label).fields in
      subst P (sym none) (opening-meets classes S (FieldFits ws label) (fields_of classes (class_number classes x))));
  array = (let A : Option WrittenTy → Type 0 = λ q. ArrayFits c q (length (new_object classes x label).fields) in subst A (sym none) tt);
}

pub array-made : (classes : List Class) (x : Name) (c : Class) (n : ℕ) (label : Label) (w : WrittenTy) →
    slice_get classes (class_number classes x) ≡ Some c →
    c.element ≡ Some w → ArrayClass c w → n ≤ ARRAY_SIZE → IsMade classes c (class_number classes x) label (new_array classes x c n label)
array-made classes x c n label w at is a few =
    let o = new_array classes x c n label in
    let values : o.fields ≡ replicate n (opening_value w) = ap (λ q. replicate n (opening_element q)) is in
    let long : length o.fields ≡ n = length-replicate n (opening_element c.element) in
    let none = no-fields classes (class_number classes x) c at a.members in
    record {
      class_is = refl;
      label_is = refl;
      owns = λ j. by_label label (ap (λ (q : List FieldOfClass). option_and_then (λ (f : FieldOfClass). option_and_then (owned_as classes f)
          (slice_get o.fields j)) (slice_get q j)) none);
      fields = λ S ws. (let P : Option WrittenTy → Type 0 = λ q. FieldsMeet classes S (FieldFits ws label)
          (fields_declared classes (class_number classes x) q (length o.fields)) o.fields in
          let Q : List Val → Type 0 = λ q. FieldsMeet classes S (FieldFits ws label) (replicate (length o.fields) (element_field w)) q in
          let R : ℕ → Type 0 = λ q. FieldsMeet classes S (FieldFits ws label) (replicate q (element_field w))
          (replicate n (opening_value w)) in
          subst P (sym is) (subst Q (sym values) (subst R (sym long) (elements-open classes S (FieldFits ws label) w n))));
      array = (let A : Option WrittenTy → Type 0 = λ q. ArrayFits c q (length o.fields) in
          let B : ℕ → Type 0 = λ q. q ≤ ARRAY_SIZE in subst A (sym is) (a.members, a.not_iso, subst B (sym long) few));
    }
  where
    by_label : (l : Label) {x : Option ℕ} → x ≡ None → ◌≡◌ {A = Option ℕ} (elim l [ Region r ↦ x | Temp t ↦ x | Frozen ↦ None ]) None
    by_label (Region r) e = e
    by_label (Temp t) e = e
    by_label Frozen e = refl

-- a store with one object more, which owns nothing, has the same owner references
pub leads-more : (classes : List Class) (store : List Seen) (frames : List Frame) (ws : List Window) (regions made : ℕ) (o : Seen) →
    Data classes store frames ws regions made →
    ((j : ℕ) → owned_by_field classes o j ≡ None) → (p : Place) → leads_into classes (store ++ o ∷ []) frames p ≡ leads_into classes store frames p
leads-more classes store frames ws regions made o d owns p = same p
  where
    region-old : (a : ℕ) → a < length store → region_at (store ++ o ∷ []) a ≡ region_at store a
    region-old a l = ap (option_and_then (λ (q : Seen). region_of q.label)) (get-snoc-other store o a (λ at. absurd (omega (arith, l, at))))

    through : (x : Option ℕ) → ((a : ℕ) → x ≡ Some a → a < length store) →
        option_and_then (region_at (store ++ o ∷ [])) x ≡ option_and_then (region_at store) x
    through None h = refl
    through (Some a) h = region-old a (h a refl)

    owned-in : (b : Truth) (v : Val) (a : ℕ) → Within (length store) v → ◌≡◌ {A = Option ℕ} (if b then address v else None) (Some a) →
        a < length store
    owned-in true val.Nil a i e = none-some e
    owned-in true (val.Int z) a i e = none-some e
    owned-in true (val.Bool z) a i e = none-some e
    owned-in true (val.Obj b) a i e = let same : b ≡ a = same_Some b a e in omega (arith, i, same)
    owned-in false v a i e = none-some e

    frame-in : (n i a : ℕ) → owned_in_frame frames n i ≡ Some a → a < length store
    frame-in n i a h = by (frame_at frames n) refl h
      where
        by : (f : Option Frame) → frame_at frames n ≡ f → option_and_then owned_by_local
            (option_and_then (λ (g : Frame). slice_get g.locals i) f) ≡ Some a → a < length store
        by None e k = none-some k
        by (Some f) e k = local (slice_get f.locals i) refl k
          where
            local : (l : Option Local) → slice_get f.locals i ≡ l → option_and_then owned_by_local l ≡ Some a → a < length store
            local None g k = none-some k
            local (Some l) g k = owned-in (is_iso l.ty) l.value a (local-within store ws frames d.values n i f l e g) k

    field-old : (a j : ℕ) → owned_in_field classes (store ++ o ∷ []) a j ≡ owned_in_field classes store a j
    field-old a j = elim (cases_eq a (length store)) [
      | inl at ↦ ap (λ q. owned_in_field classes (store ++ o ∷ []) q j) at
          ∙ ap (option_and_then (λ (q : Seen). owned_by_field classes q j)) (slice_get-push store o) ∙ owns j
          ∙ ap (option_and_then (λ (q : Seen). owned_by_field classes q j)) (sym (slice_get_past store a (omega (arith, at))))
      | inr away ↦ ap (option_and_then (λ (q : Seen). owned_by_field classes q j)) (get-snoc-other store o a away)
    ]

    field-in : (a j b : ℕ) → owned_in_field classes store a j ≡ Some b → b < length store
    field-in a j b h = by (slice_get store a) refl h
      where
        slot-in : (p : Seen) → slice_get store a ≡ Some p → (f : Option FieldOfClass) (v : Option Val) → slice_get p.fields j ≡ v →
            option_and_then (λ (g : FieldOfClass). option_and_then (owned_as classes g) v) f ≡ Some b → b < length store
        slot-in p e None v g k = none-some k
        slot-in p e (Some f) None g k = none-some k
        slot-in p e (Some f) (Some v) g k = owned-in (is_iso (type_of classes f.ty)) v b
            (field-within classes store _ (fields_in classes (d.objects a p e).class p) p.fields (d.objects a p e).fields j v g) k

        by_label : (p : Seen) → slice_get store a ≡ Some p → (l : Label) →
            (elim l [ Region r ↦ owned_by_slot classes p j | Temp n ↦ owned_by_slot classes p j | Frozen ↦ None ]) ≡ Some b → b < length store
        by_label p e (Region r) k = slot-in p e (slice_get (fields_of classes p.class) j) (slice_get p.fields j) refl k
        by_label p e (Temp n) k = slot-in p e (slice_get (fields_of classes p.class) j) (slice_get p.fields j) refl k
        by_label p e Frozen k = none-some k

        by : (p : Option Seen) → slice_get store a ≡ p → option_and_then (λ (q : Seen). owned_by_field classes q j) p ≡ Some b → b < length store
        by None e k = none-some k
        by (Some p) e k = by_label p e p.label k

    same : (p : Place) → leads_into classes (store ++ o ∷ []) frames p ≡ leads_into classes store frames p
    same (Var n i) = through (owned_in_frame frames n i) (λ a h. frame-in n i a h)
    same (Field a j) = ap (option_and_then (region_at (store ++ o ∷ []))) (field-old a j)
        ∙ through (owned_in_field classes store a j) (λ b h. field-in a j b h)

-- a store with one object more
pub store-more : (classes : List Class) (store : List Seen) (frames : List Frame) (ws : List Window) (regions more made : ℕ) (o : Seen) →
    Data classes store frames ws regions made → regions ≤ more →
    LabelGiven more made o.label → ((j : ℕ) → owned_by_field classes o j ≡ None) → (c : Class) → slice_get classes o.class ≡ Some c →
    (IsTemp o.label ↔ IsTrue c.is_tmp) →
    ((S : List Seen) → FieldsMeet classes S (FieldFits ws o.label) (fields_in classes c o) o.fields) → ArrayFits c c.element (length o.fields) →
    Data classes (store ++ o ∷ []) frames ws more made
store-more classes store frames ws regions more made o d bound given owns c class_is label_is meets few = record {
  values = values-kept store (store ++ o ∷ []) ws frames keeps d.values;
  objects = objects;
  opened = open-come classes store (store ++ o ∷ []) frames frames Nothing come ws d.opened (all ws) near;
  forest = forest-come classes store (store ++ o ∷ []) frames frames Nothing d.forest come (λ r h. d.forest.no_cycle r (above-old r r h));
  numbers = record {
    labels = λ a p e. by_address a p e (λ q. LabelGiven more made q.label) (λ h. more_given p.label (d.numbers.labels a p h)) given;
    given = λ i w e. let g = d.numbers.given i w e in record { region = let l = g.region in omega (arith, l, bound); number = g.number };
    rising = d.numbers.rising;
  };
}
  where
    long : length (store ++ o ∷ []) ≡ suc (length store)
    long = let e = length-append store (o ∷ []) in omega (arith, e)

    more_given : (l : Label) → LabelGiven regions made l → LabelGiven more made l
    more_given (Region r) h = omega (arith, h, bound)
    more_given (Temp n) h = h
    more_given Frozen h = tt

    by_address : (a : ℕ) (p : Seen) → slice_get (store ++ o ∷ []) a ≡ Some p → (P : Seen → Type 0) → (slice_get store a ≡ Some p → P p) → P o → P p
    by_address a p e P was now = elim (cases_eq a (length store)) [
      | inl at ↦ let one : o ≡ p = same_Some o p (sym (slice_get-push store o) ∙ ap (slice_get (store ++ o ∷ [])) (sym at) ∙ e) in subst P one now
      | inr away ↦ was (sym (get-snoc-other store o a away) ∙ e)
    ]

    keeps : KeepsObjects store (store ++ o ∷ [])
    keeps a p e = (p, get-snoc-other store o a (λ at. let l = slice_get_within store a p e in absurd (omega (arith, l, at))) ∙ e, refl, refl)

    same : (p : Place) → leads_into classes (store ++ o ∷ []) frames p ≡ leads_into classes store frames p
    same p = leads-more classes store frames ws regions made o d owns p

    come : OwnersCome classes store (store ++ o ∷ []) frames frames Nothing
    come = record { from = λ q r h. inl (sym (same q) ∙ h); one = λ p q r x y. absurd x; unowned = λ p q r x h. x; above = λ p r x. absurd x }

    all : (us : List Window) → AllOwners us (λ p. leads_into classes (store ++ o ∷ []) frames p ≡ leads_into classes store frames p)
    all [] = tt
    all (u ∷ us) = (λ p e. same p, all us)

    near : (w v : Window) (p : Place) → IsNear store w v p → IsNear (store ++ o ∷ []) w v p
    near w v (Var m i) h = h
    near w v (Field b k) h = (h.0, (keeps b h.0 h.1).1, h.2)

    parent-old : (p r : ℕ) → Parent classes (store ++ o ∷ []) p r → Parent classes store p r
    parent-old p r h =
        let leads = sym (same (Field h.object h.field)) ∙ h.leads in
        record {
          object = h.object;
          field = h.field;
          leads = leads;
          lies = elim (cases_eq h.object (length store)) [
            | inl at ↦ none-some (sym (ap (λ (q : Option Seen). option_and_then (region_at store)
                (option_and_then (λ (z : Seen). owned_by_field classes z h.field) q)) (slice_get_past store h.object (omega (arith, at)))) ∙ leads)
            | inr away ↦ sym (ap (option_and_then (λ (q : Seen). region_of q.label)) (get-snoc-other store o h.object away)) ∙ h.lies
          ];
        }

    above-old : (p r : ℕ) → Above classes (store ++ o ∷ []) p r → Above classes store p r
    above-old p r (direct h) = direct (parent-old p r h)
    above-old p r (further {q = q} a h) = further (above-old p q a) (parent-old q r h)

    objects : ObjectsFit classes (store ++ o ∷ []) ws
    objects a p e = by_address a p e (λ q. ObjectFits classes (store ++ o ∷ []) ws q)
        (λ h. let f = d.objects a p h in record {
          class = f.class;
          class_is = f.class_is;
          label_is = f.label_is;
          fields = FieldsMeet-kept classes store (store ++ o ∷ []) (FieldFits ws p.label) (fields_in classes f.class p) p.fields keeps f.fields;
          array = f.array;
        })
        (record { class = c; class_is = class_is; label_is = label_is; fields = meets (store ++ o ∷ []); array = few })
