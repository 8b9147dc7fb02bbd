-- What an object of a region reaches fits the program, as a content.
use Rattle.std.proofs.Common.{◌≡◌, refl, sym, ◌∙◌, ap, subst, inl, inr, ℕ, suc, Bool as Truth, true, false, not, ◌&&◌}
use Rattle.std.proofs.Common.{List, [], ◌∷◌, length, map, filter_map, replicate, Option, Some, None, option_map, slice_get, IsTrue, arith}
use Rattle.std.specs.Prelude.{◌==◌, nat_le, nat_eq, slice_index_or}
use Rattle.std.specs.List.{list_all, position_or_len}
use Rattle.std.proofs.lemmas.Bool.{le-leb}
use Rattle.std.proofs.lemmas.Bool.Decides.{eqb_tells}
use Rattle.std.proofs.lemmas.List.{length-map}
use Rattle.std.proofs.lemmas.Option.{same_Some, slice_get-map, slice_get_within}
use Rattle.rg_base.specs.declared.limits.TheConstants.{ARRAY_SIZE}
use Rattle.rg_base.specs.declared.words.Cap.{Cap}
use Rattle.rg_base.specs.declared.words.Cap.TheVariants.{Mut, Tmp, Paused, Imm, Iso}
use Rattle.rg_base.specs.declared.words.Manager.{Manager}
use Rattle.rg_base.specs.declared.words.Manager.TheVariants.{Arena}
use Rattle.rg_base.specs.declared.ty.Ty.{Ty}
use Rattle.rg_base.specs.declared.ty.Ty.TheVariants.{Int, Bool, Ref}
use Rattle.rg_base.specs.declared.object.Label.{Label}
use Rattle.rg_base.specs.declared.object.Label.TheVariants.{Region, Temp, Frozen}
use Rattle.rg_base.specs.declared.object.Seen.{Seen}
use Rattle.rg_base.specs.declared.value.Val.{Val}
use Rattle.rg_base.specs.declared.value.Val.TheVariants.{Nil, Int as IntVal, Bool as BoolVal, Obj}
use Rattle.rg_tree.specs.Tree.{Ty as Written, Field, Class}
use Rattle.rg_rules.specs.Headers.{is_iso_written}
use Rattle.rg_rules.specs.Types.{type_of, field_member, members_of}
use Rattle.rg_rules.specs.State.{Frame, Window}
use Rattle.rg_rules.specs.Owners.{owned_by_slot, Forest, Parent, direct}
use Rattle.rg_sound.specs.Values.{MeetsBy}
use Rattle.rg_sound.specs.Objects.{RegionFieldFits, FieldFits, FieldsMeet, element_field, fields_declared, fields_in, ArrayFits, IsTemp, ObjectFits}
use Rattle.rg_sound.specs.Objects.{ObjectsFit}
use Rattle.rg_typed.specs.Typed.{is_outside, region_field_fits, field_fits, object_fits, value_fits, fields_fit, values_fit, object_of_class}
use Rattle.rg_typed.specs.Typed.{is_temp, cell_fits}
use Rattle.rg_typed.specs.Typed.{is_typed}
use Rattle.rg_cown.specs.declared.cargo.CargoCell.{CargoCell}
use Rattle.rg_cown.specs.Cargo.{CargoList, label_of, is_frozen, is_in, SoundCargo}
use Rattle.rg_cown.specs.Contents.{new_value, new_label, cargo_of}
use Rattle.rg_cown.proofs.GroveLoaded.{there_is}
use Rattle.rg_cown.proofs.PlacesKept.{numbered, numbered_back}
use Rattle.rg_cown.proofs.SoundParts.{in_range, region_below}
use Rattle.rg_cown.proofs.SoundRead as read
use Rattle.rg_opening.specs.Beginning.{bridge_class}
use Rattle.rg_opening.proofs.Reached.{field-of, owns, Lies, Lasts, at, at-is, owner-leads, region-lies, closed, few, reached-sound}

same-true : (n : ℕ) → n == n ≡ true
same-true n = elim (eqb_tells n n) [ inl t ↦ t.0 | inr t ↦ absurd (t.1 refl) ]

other-true : (n m : ℕ) → (n ≡ m → ⊥) → not (n == m) ≡ true
other-true n m d = elim (eqb_tells n m) [ inl t ↦ absurd (d t.1) | inr t ↦ ap not t.0 ]

and-both : (a b : Truth) → a ≡ true → b ≡ true → a && b ≡ true
and-both a b e f = ap (λ z. z && b) e ∙ f

all-true : {X : Type 0} → (p : X → Truth) (xs : List X) → ((k : ℕ) (x : X) → slice_get xs k ≡ Some x → p x ≡ true) → list_all p xs ≡ true
all-true p [] h = refl
all-true p (x ∷ xs) h = and-both (p x) (list_all p xs) (h 0 x refl) (all-true p xs (λ k. h (suc k)))

not-temp-false : (b : Truth) → (IsTrue b → ⊥) → b ≡ false
not-temp-false true h = absurd (h refl)
not-temp-false false h = refl

-- A list of values that meet their types, each of which then fits

fields-fit : (classes : List Class) (store : List Seen) (F : Cap → Label → Type 0) (cells : List CargoCell) (own : Label) (g : Val → Val)
    (fs : List Field) (vs : List Val) → FieldsMeet classes store F fs vs
    → ((k : ℕ) (f : Field) (v : Val) → slice_get fs k ≡ Some f → slice_get vs k ≡ Some v → MeetsBy store F (type_of classes f.ty) v
    → value_fits cells own (type_of classes f.ty) (g v) ≡ true)
    → fields_fit classes cells own fs (map g vs) ≡ true
fields-fit classes store F cells own g [] [] h each = refl
fields-fit classes store F cells own g [] (v ∷ vs) h each = absurd h
fields-fit classes store F cells own g (f ∷ fs) [] h each = absurd h
fields-fit classes store F cells own g (f ∷ fs) (v ∷ vs) h each =
    and-both (value_fits cells own (type_of classes f.ty) (g v)) (fields_fit classes cells own fs (map g vs))
    (each 0 f v refl refl h.0) (fields-fit classes store F cells own g fs vs h.1 (λ k. each (suc k)))

elements-fit : (classes : List Class) (store : List Seen) (F : Cap → Label → Type 0) (cells : List CargoCell) (own : Label) (g : Val → Val)
    (w : Written) (vs : List Val) → FieldsMeet classes store F (replicate (length vs) (element_field w)) vs
    → ((k : ℕ) (f : Field) (v : Val) → slice_get (replicate (length vs) (element_field w)) k ≡ Some f → slice_get vs k ≡ Some v
    → MeetsBy store F (type_of classes f.ty) v → value_fits cells own (type_of classes f.ty) (g v) ≡ true)
    → list_all (value_fits cells own (type_of classes w)) (map g vs) ≡ true
elements-fit classes store F cells own g w [] h each = refl
elements-fit classes store F cells own g w (v ∷ vs) h each =
    and-both (value_fits cells own (type_of classes w) (g v)) (list_all (value_fits cells own (type_of classes w)) (map g vs))
    (each 0 (element_field w) v refl refl h.0) (elements-fit classes store F cells own g w vs h.1 (λ k. each (suc k)))

values-fit : (classes : List Class) (store : List Seen) (ws : List Window) (cells : List CargoCell) (own : Label) (g : Val → Val) (o : Seen)
    (c : Class) → slice_get classes o.class ≡ Some c → (e : Option Written)
    → FieldsMeet classes store (FieldFits ws o.label) (fields_declared classes o.class e (length o.fields)) o.fields
    → ArrayFits c e (length o.fields)
    → ((k : ℕ) (f : Field) (v : Val) → slice_get (fields_declared classes o.class e (length o.fields)) k ≡ Some f → slice_get o.fields k ≡ Some v
    → MeetsBy store (FieldFits ws o.label) (type_of classes f.ty) v → value_fits cells own (type_of classes f.ty) (g v) ≡ true)
    → values_fit classes cells own c e (map g o.fields) ≡ true
values-fit classes store ws cells own g o c is None h array each =
    let P : Option Class → Type 0 = λ q. FieldsMeet classes store (FieldFits ws o.label) (filter_map field_member (members_of q)) o.fields in
    let Q : Option Class → Type 0 = λ q. (k : ℕ) (f : Field) (v : Val) → slice_get (filter_map field_member (members_of q)) k ≡ Some f
    → slice_get o.fields k ≡ Some v → MeetsBy store (FieldFits ws o.label) (type_of classes f.ty) v
    → value_fits cells own (type_of classes f.ty) (g v) ≡ true in
    fields-fit classes store (FieldFits ws o.label) cells own g (filter_map field_member c.members) o.fields (subst P is h) (subst Q is each)
values-fit classes store ws cells own g o c is (Some w) h array each =
    let few = nat_le (length (map g o.fields)) ARRAY_SIZE in
    let P : ℕ → Type 0 = λ q. nat_le q ARRAY_SIZE ≡ true in
    and-both (not (is_iso_written w) && few) (list_all (value_fits cells own (type_of classes w)) (map g o.fields))
    (and-both (not (is_iso_written w)) few (ap not array.1)
    (subst P (sym (length-map o.fields g)) (le-leb (length o.fields) ARRAY_SIZE array.2)))
    (elements-fit classes store (FieldFits ws o.label) cells own g w o.fields h each)

-- What an object reaches

module _ (classes : List Class) (store : List Seen) (frames : List Frame) (ws : List Window) (objects : ObjectsFit classes store ws)
    (forest : Forest classes store frames) (q : ℕ) (managers : List Manager) (start : ℕ) (first : Seen) (there : slice_get store start ≡ Some first)
    (lies : first.label ≡ Region q) where
  abbrev pub object : ℕ → Seen
  object = at classes store frames ws objects forest q

  abbrev pub Last : ℕ → Type 0
  Last = Lasts classes store frames ws objects forest q

  abbrev pub manager : ℕ → Manager
  manager r = slice_index_or managers r Arena

  abbrev pub c : CargoList
  c = cargo_of store managers start

  abbrev pub order : List ℕ
  order = (read.final object Last manager (length store) start q (closed classes store frames ws objects forest q start first there lies)
      (few classes store frames ws objects forest q)).order

  abbrev pub regions : List ℕ
  regions = (read.final object Last manager (length store) start q (closed classes store frames ws objects forest q start first there lies)
      (few classes store frames ws objects forest q)).regions

  sound : SoundCargo c
  sound = reached-sound classes store frames ws objects forest q managers start first there lies

  many : length order ≡ length c.cells
  many = read.many object Last manager (length store) start q (closed classes store frames ws objects forest q start first there lies)
      (few classes store frames ws objects forest q)

  object_at : (k : ℕ) (x : CargoCell) → slice_get c.cells k ≡ Some x
      → (a : ℕ) × (slice_get order k ≡ Some a) × Last a × (x ≡ numbered order regions (object a))
  object_at = read.object_at object Last manager (length store) start q
      (closed classes store frames ws objects forest q start first there lies) (few classes store frames ws objects forest q)

  object_is : (k a : ℕ) (x : CargoCell) → slice_get order k ≡ Some a → slice_get c.cells k ≡ Some x → x ≡ numbered order regions (object a)
  object_is = read.object_is object Last manager (length store) start q
      (closed classes store frames ws objects forest q start first there lies) (few classes store frames ws objects forest q)

  start_there : slice_get order 0 ≡ Some start
  start_there = read.start_there object Last manager (length store) start q
      (closed classes store frames ws objects forest q start first there lies) (few classes store frames ws objects forest q)

  cell_there : (k a : ℕ) → slice_get order k ≡ Some a → (x : CargoCell) × (slice_get c.cells k ≡ Some x) × (x ≡ numbered order regions (object a))
  cell_there k a e =
      let l = slice_get_within order k a e in
      let x = there_is c.cells k (omega (arith, l, many)) in (x.0, x.1, object_is k a x.0 e x.1)

  -- the number of a region with which an object that was read is labelled
  region-back : (k a r : ℕ) → slice_get order k ≡ Some a → (object a).label ≡ Region r
      → slice_get regions (position_or_len (nat_eq r) regions) ≡ Some r
  region-back k a r e is =
      let x = cell_there k a e in
      let told : label_of c.cells k ≡ Some (Region (position_or_len (nat_eq r) regions)) =
      ap (option_map (λ (z : CargoCell). z.label)) x.1 ∙ ap (λ (z : CargoCell). Some z.label) x.2 ∙ ap (λ z. Some (new_label regions z)) is in
      let below = region_below c k (position_or_len (nat_eq r) regions) sound told in
      let count = length-map regions manager in
      numbered_back regions r (omega (arith, below, count))

  -- the field of an object that was read leads to one that was read
  target-there : (k a j b : ℕ) → slice_get order k ≡ Some a → slice_get (object a).fields j ≡ Some (Obj b)
      → slice_get order (position_or_len (nat_eq b) order) ≡ Some b
  target-there k a j b e value =
      let x = cell_there k a e in
      let told : slice_get x.0.fields j ≡ Some (Obj (position_or_len (nat_eq b) order)) =
      ap (λ (z : CargoCell). slice_get z.fields j) x.2 ∙ slice_get-map (new_value order) (object a).fields j
      ∙ ap (option_map (new_value order)) value in
      let l = in_range c k j (position_or_len (nat_eq b) order) sound (record { cell = x.0; there = x.1; value = told }) in
      numbered_back order b (omega (arith, l, many))

  frozen-fit : (l : Label) → l ≡ Frozen → is_frozen (Some (new_label regions l)) ≡ true
  frozen-fit l e = ap (λ z. is_frozen (Some (new_label regions z))) e

  -- an owner reference leads into another region
  other-region : (k a j b p r : ℕ) (o led : Seen) → slice_get order k ≡ Some a → slice_get store a ≡ Some o → o.label ≡ Region p
      → slice_get o.fields j ≡ Some (Obj b) → owned_by_slot classes o j ≡ Some b → slice_get store b ≡ Some led → led.label ≡ Region r
      → position_or_len (nat_eq r) regions ≡ position_or_len (nat_eq p) regions → ⊥
  other-region k a j b p r o led e at_o own value owner at_led leads same =
      let o_is = at-is classes store frames ws objects forest q a o at_o in
      let led_is = at-is classes store frames ws objects forest q b led at_led in
      let V : Seen → Type 0 = λ z. slice_get z.fields j ≡ Some (Obj b) in
      let mine = region-back k a p e (ap (λ (z : Seen). z.label) o_is ∙ own) in
      let to = target-there k a j b e (subst V (sym o_is) value) in
      let theirs = region-back (position_or_len (nat_eq b) order) b r to (ap (λ (z : Seen). z.label) led_is ∙ leads) in
      let R : ℕ → Type 0 = λ z. slice_get regions z ≡ Some r in
      let one : r ≡ p = same_Some r p (sym (subst R same theirs) ∙ mine) in
      let parent : Parent classes store p p = record {
        object = a;
        field = j;
        lies = region-lies classes store frames ws objects forest q a p o at_o own;
        leads = owner-leads classes store frames ws objects forest q a j b p p o led at_o own owner at_led (leads ∙ ap Region one);
      } in
      forest.no_cycle p (direct parent)

  module _ (k a j b : ℕ) (o led : Seen) (e : slice_get order k ≡ Some a) (at_o : slice_get store a ≡ Some o)
      (value : slice_get o.fields j ≡ Some (Obj b)) (at_led : slice_get store b ≡ Some led) where
    region-fit : (p : ℕ) → o.label ≡ Region p → (cap : Cap) → (cap ≡ Iso → owned_by_slot classes o j ≡ Some b) → RegionFieldFits p cap led.label
        → region_field_fits (position_or_len (nat_eq p) regions) cap (new_label regions led.label) ≡ true
    region-fit p own Mut owner h =
        ap (λ z. is_in (position_or_len (nat_eq p) regions) (Some (new_label regions z))) h ∙ same-true (position_or_len (nat_eq p) regions)
    region-fit p own Tmp owner h = absurd h
    region-fit p own Paused owner h = absurd h
    region-fit p own Imm owner h = frozen-fit led.label h
    region-fit p own Iso owner h =
        ap (λ z. is_outside (position_or_len (nat_eq p) regions) (new_label regions z)) h.1
        ∙ other-true (position_or_len (nat_eq h.0) regions) (position_or_len (nat_eq p) regions)
        (other-region k a j b p h.0 o led e at_o own value (owner refl) at_led h.1)

    label-fit : Lies classes store frames ws objects forest q o.label → (cap : Cap) → (cap ≡ Iso → owned_by_slot classes o j ≡ Some b)
        → FieldFits ws o.label cap led.label → field_fits (new_label regions o.label) cap (new_label regions led.label) ≡ true
    label-fit lasts cap owner h = elim lasts [
      | inl frozen ↦
          let F : Label → Type 0 = λ z. FieldFits ws z cap led.label in
          ap (λ z. field_fits (new_label regions z) cap (new_label regions led.label)) frozen ∙ frozen-fit led.label (subst F frozen h)
      | inr z ↦
          let F : Label → Type 0 = λ x. FieldFits ws x cap led.label in
          ap (λ x. field_fits (new_label regions x) cap (new_label regions led.label)) z.1 ∙ region-fit z.0 z.1 cap owner (subst F z.1 h)
    ]

    object-fit : Lies classes store frames ws objects forest q o.label → (cap : Cap) → (cap ≡ Iso → owned_by_slot classes o j ≡ Some b)
        → (class : ℕ) → led.class ≡ class → FieldFits ws o.label cap led.label
        → object_fits (new_label regions o.label) cap class (slice_get c.cells (position_or_len (nat_eq b) order)) ≡ true
    object-fit lasts cap owner class is h =
        let V : Seen → Type 0 = λ z. slice_get z.fields j ≡ Some (Obj b) in
        let o_is = at-is classes store frames ws objects forest q a o at_o in
        let led_is = at-is classes store frames ws objects forest q b led at_led in
        let y = cell_there (position_or_len (nat_eq b) order) b (target-there k a j b e (subst V (sym o_is) value)) in
        ap (object_fits (new_label regions o.label) cap class) y.1
        ∙ ap (λ z. object_fits (new_label regions o.label) cap class (Some z)) (y.2 ∙ ap (numbered order regions) led_is)
        ∙ and-both (led.class == class) (field_fits (new_label regions o.label) cap (new_label regions led.label))
        (ap (λ z. z == class) is ∙ same-true class) (label-fit lasts cap owner h)

  module _ (k a : ℕ) (o : Seen) (e : slice_get order k ≡ Some a) (at_o : slice_get store a ≡ Some o)
      (lasts : Lies classes store frames ws objects forest q o.label) where
    fit : ObjectFits classes store ws o
    fit = objects a o at_o

    value-fit : (j : ℕ) (f : Field) → slice_get (fields_in classes fit.class o) j ≡ Some f → (v : Val) → slice_get o.fields j ≡ Some v
        → (ty : Ty) → type_of classes f.ty ≡ ty → MeetsBy store (FieldFits ws o.label) ty v
        → value_fits c.cells (new_label regions o.label) ty (new_value order v) ≡ true
    value-fit j f at_f Nil at_v Int is h = absurd h
    value-fit j f at_f (IntVal z) at_v Int is h = refl
    value-fit j f at_f (BoolVal b) at_v Int is h = absurd h
    value-fit j f at_f (Obj b) at_v Int is h = absurd h
    value-fit j f at_f Nil at_v Bool is h = absurd h
    value-fit j f at_f (IntVal z) at_v Bool is h = absurd h
    value-fit j f at_f (BoolVal b) at_v Bool is h = refl
    value-fit j f at_f (Obj b) at_v Bool is h = absurd h
    value-fit j f at_f Nil at_v (Ref cap class) is h = refl
    value-fit j f at_f (IntVal z) at_v (Ref cap class) is h = absurd h
    value-fit j f at_f (BoolVal b) at_v (Ref cap class) is h = absurd h
    value-fit j f at_f (Obj b) at_v (Ref cap class) is h =
        object-fit k a j b o h.object e at_o at_v h.there lasts cap
        (λ iso. let T : Cap → Type 0 = λ z. type_of classes f.ty ≡ Ref z class in
        owns classes o j b class f (field-of classes fit.class o j class f fit.class.element at_f fit.array (subst T iso is)) at_v (subst T iso is))
        class h.class_is h.label_fits

    label-lasts : is_temp (new_label regions o.label) ≡ false
    label-lasts = elim lasts [
      | inl frozen ↦ ap (λ z. is_temp (new_label regions z)) frozen
      | inr z ↦ ap (λ x. is_temp (new_label regions x)) z.1
    ]

    class-lasts : fit.class.is_tmp ≡ false
    class-lasts = not-temp-false fit.class.is_tmp (λ t. never o.label lasts (fit.label_is.1 t))
      where
        never : (l : Label) → Lies classes store frames ws objects forest q l → IsTemp l → ⊥
        never (Region p) h t = t
        never (Temp n) (inl frozen) t = absurd cc
        never (Temp n) (inr z) t = by z.0 z.1
          where
            by : (p : ℕ) → Temp n ≡ Region p → ⊥
            by p x = cc
        never Frozen h t = t

    cell-fit : cell_fits classes c.cells (numbered order regions o) ≡ true
    cell-fit =
        let all = values_fit classes c.cells (new_label regions o.label) fit.class fit.class.element (map (new_value order) o.fields) in
        and-both (not (is_temp (new_label regions o.label)))
        (object_of_class classes c.cells (slice_get classes o.class) (numbered order regions o)) (ap not label-lasts)
        (ap (λ z. object_of_class classes c.cells z (numbered order regions o)) fit.class_is
        ∙ and-both (not fit.class.is_tmp) all (ap not class-lasts)
        (values-fit classes store ws c.cells (new_label regions o.label) (new_value order) o fit.class fit.class_is fit.class.element fit.fields
        fit.array
        (λ j f v at_f at_v h. value-fit j f at_f v at_v (type_of classes f.ty) refl h)))

  pub returned-typed : is_typed classes c ≡ true
  returned-typed = all-true (cell_fits classes c.cells) c.cells (λ k x e.
      let a = object_at k x e in
      let o_is = at-is classes store frames ws objects forest q a.0 a.2.0 a.2.1 in
      let P : CargoCell → Type 0 = λ z. cell_fits classes c.cells z ≡ true in
      subst P (sym (a.3 ∙ ap (numbered order regions) o_is)) (cell-fit k a.0 a.2.0 a.1 a.2.1 a.2.2))

  pub returned-bridge : bridge_class c ≡ Some first.class
  returned-bridge =
      let x = cell_there 0 start start_there in
      ap (option_map (λ (z : CargoCell). z.class)) x.1
      ∙ ap (λ (z : CargoCell). Some z.class) (x.2 ∙ ap (numbered order regions) (at-is classes store frames ws objects forest q start first there))
