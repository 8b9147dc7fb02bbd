-- The machine with which a behaviour begins, beside itself: all that was made is held.
use Rattle.std.proofs.Common.{◌≡◌, ◌≢◌, ◌<◌, ◌≤◌, ◌+◌, ◌-◌, ◌==◌, ◌⊎◌, inl, inr, ℕ, zero, suc, true, false, Bool as Truth, nat_lt, List, [], ◌∷◌}
use Rattle.std.proofs.Common.{length, map, replicate, Option, Some, None, option_map, option_and_then, slice_get, refl, sym, ap, ◌∙◌, subst, arith}
use Rattle.std.specs.Prelude.{◌||◌, not, if◌then◌else◌}
use Rattle.std.proofs.lemmas.Bool.{eqb-true, or_cases, false≢true}
use Rattle.std.proofs.lemmas.Option.{none-some, same_Some, slice_get_past, slice_get_within, slice_get-map}
use Rattle.rg_base.specs.declared.object.Label.{Label}
use Rattle.rg_base.specs.declared.object.Label.TheVariants.{Region, Temp, Frozen}
use Rattle.rg_base.specs.declared.object.Seen.{Seen}
use Rattle.rg_base.specs.declared.value.Val.{Val}
use Rattle.rg_base.specs.declared.value.Val.TheVariants.{Nil, Int, Bool, Obj}
use Rattle.rg_base.proofs.Callers.Labels.{region-same}
use Rattle.rg_tree.specs.Tree.{Method, Tree}
use Rattle.rg_code.specs.declared.code.Entry.{Entry}
use Rattle.rg_cown.specs.declared.cargo.CargoCell.{CargoCell}
use Rattle.rg_cown.specs.Cargo.{CargoList, label_of as label_in, SoundCargo}
use Rattle.rg_cown.specs.Loads.{IsFirst}
use Rattle.rg_cown.specs.Cargo.{label_from}
use Rattle.rg_cown.proofs.GroveLoaded.{first_there}
use Rattle.rg_cown.proofs.SoundMade.{is_in_true}
use Rattle.rg_cown.proofs.SoundParts.{HasField, parts_of, no_temp, named_before, label_there, label_within}
use Rattle.rg_opening.specs.declared.given.Given.{Given}
use Rattle.rg_opening.specs.declared.given.Given.TheVariants.{Start, Held}
use Rattle.rg_opening.specs.Opening.{value_from, object_from, field_values, content_objects, opening_of}
use Rattle.rg_opening.proofs.Placed.{objects_before, regions_before, IsContent, content-there, content-back, value-held, value-back, get-mapped}
use Rattle.rg_opening.proofs.Placed.{objects_before-more, regions_before-more}
use Rattle.rg_sound.specs.Fit.{Fit}
use Rattle.rg_sound.specs.Numbers.{LabelGiven}
use Rattle.rg_sound.proofs.Held.{fit-holds}
use Rattle.rg_stack.specs.Machine.{Frame, Machine}
use Rattle.rg_stack.specs.Labels.{is_open, label_of, is_into, lies_in, is_outside}
use Rattle.rg_held.specs.Part.{leads_to, FieldInto, Placed, may_lead, Tidy, Part}
use Rattle.rg_held.specs.Gone.{gone}
use Rattle.rg_begin.specs.Inner.Shown.{begun_machine}
use Rattle.rg_begin.specs.Inner.Laid.{AllMayCome}
use Rattle.rg_begin.proofs.Owning.{content-label}

less : (a b : ℕ) → nat_lt a b ≡ true → a < b
less a b e = grind (arith, e)

less-is : (a b : ℕ) → a < b → nat_lt a b ≡ true
less-is a b l = grind (arith, l)

not-less : (a b : ℕ) → nat_lt a b ≡ false → b ≤ a
not-less a b e = grind (arith, e)

not-one : (r : ℕ) → ((0 == r) || false) ≡ false → r ≢ 0
not-one r e z = false≢true (sym e ∙ ap (λ n. (0 == n) || false) z)

below-one : (n : ℕ) → ((0 == n) || false) ≡ true → n < 1
below-one n e = elim (or_cases (0 == n) false e) [
  | inl h ↦ (let same = eqb-true 0 n h in omega (arith, same))
  | inr h ↦ absurd (false≢true h)
]

differs : (a b : ℕ) → a ≢ b → (a == b) ≡ false
differs a b d = elim (or-not (a == b) refl) [ inl e ↦ absurd (d (eqb-true a b e)) | inr e ↦ e ]
  where
    or-not : (x : Truth) → (a == b) ≡ x → ((a == b) ≡ true) ⊎ ((a == b) ≡ false)
    or-not true e = inl e
    or-not false e = inr e

equal : (a : ℕ) → (a == a) ≡ true
equal a = grind arith

-- a label, moved, that is that of a region
moved : (n : ℕ) (x : Label) (a : ℕ) → label_from n x ≡ Region a → (i : ℕ) × (x ≡ Region i) × (a ≡ n + i)
moved n (Region i) a e = (i, refl, region-same a (n + i) (ap Some (sym e)))
moved n (Temp m) a e = absurd cc
moved n Frozen a e = absurd cc

moved-value : (n : ℕ) (v : Val) (b : ℕ) → value_from n v ≡ Obj b → (x : ℕ) × (v ≡ Obj x) × (b ≡ n + x)
moved-value n Nil b e = absurd cc
moved-value n (Int z) b e = absurd cc
moved-value n (Bool y) b e = absurd cc
moved-value n (Obj x) b e = (x, refl, is e)
  where
    is : Obj (n + x) ≡ Obj b → b ≡ n + x
    is q = cc

address-same : (a b : ℕ) → Obj a ≡ Obj b → a ≡ b
address-same a b e = cc

get-map : {A B : Type 0} (f : A → B) (xs : List A) (j : ℕ) (x : A) → slice_get xs j ≡ Some x → slice_get (map f xs) j ≡ Some (f x)
get-map f xs j x h = slice_get-map f xs j ∙ ap (option_map f) h

-- nil leads anywhere
nil-leads : (test : ℕ → Truth) (n s : ℕ) (v : Val) → slice_get (replicate n Nil) s ≡ Some v → leads_to test v ≡ true
nil-leads test zero s v e = absurd (none-some v e)
nil-leads test (suc n) zero v e = subst (λ x. leads_to test x ≡ true) (same_Some Nil v e) refl
nil-leads test (suc n) (suc s) v e = nil-leads test n s v e

module _ (n : ℕ) (e : Entry) (class : ℕ) (given : List Given) (may : AllMayCome given) where
  abbrev m : Machine
  m = begun_machine n e class given

  abbrev head : Seen
  head = record { class = class; fields = field_values 1 given; label = Region 0 }

  abbrev store : List Seen
  store = head ∷ content_objects 1 1 given

  -- all that was made is held
  abbrev pub held : ℕ → Truth
  held a = nat_lt a (length store)

  -- an object of the store is the behaviour's, or one of a content
  back : (a : ℕ) (o : Seen) → slice_get store a ≡ Some o → ((a ≡ 0) × (head ≡ o)) ⊎ ((1 ≤ a) × IsContent 1 1 given a o)
  back zero o at = inl (refl, same_Some head o at)
  back (suc a) o at =
      let c = content-back 1 1 given a o at in
      let is : 1 + a ≡ suc a = omega arith in
      inr (omega arith, subst (λ x. IsContent 1 1 given x o) is c)

  sound : (field : ℕ) (c : CargoList) → slice_get given field ≡ Some (Held c) → SoundCargo c
  sound field c at = may field (Held c) at

  cell-label : (c : CargoList) (j : ℕ) (o : CargoCell) → slice_get c.cells j ≡ Some o → label_in c.cells j ≡ Some o.label
  cell-label c j o at = ap (option_map (λ (x : CargoCell). x.label)) at

  no-temp : (a : ℕ) (o : Seen) (k : ℕ) → slice_get store a ≡ Some o → o.label ≡ Temp k → ⊥
  no-temp zero o k at is = let same : Region 0 ≡ Temp k = ap (λ (x : Seen). x.label) (same_Some head o at) ∙ is in absurd cc
  no-temp (suc a) o k at is = content-label 1 1 given may a o k at is

  -- an object of a content stands in the store
  there : (field j : ℕ) (c : CargoList) (o : CargoCell) → slice_get given field ≡ Some (Held c) → slice_get c.cells j ≡ Some o
      → slice_get store (objects_before 1 given field + j) ≡ Some (object_from (objects_before 1 given field) (regions_before 1 given field) o)
  there field j c o at cell =
      let more = objects_before-more 1 given field in
      let i = objects_before 1 given field + j - 1 in
      let is : suc i ≡ objects_before 1 given field + j = omega (arith, more) in
      let from : 1 + i ≡ objects_before 1 given field + j = omega (arith, more) in
      subst (λ x. slice_get store x ≡ Some (object_from (objects_before 1 given field) (regions_before 1 given field) o)) is
      (content-there 1 1 given field j i c o at cell from)

  -- only the behaviour's object lies in region 0
  zero-first : (a : ℕ) (o : Seen) → slice_get store a ≡ Some o → o.label ≡ Region 0 → a ≡ 0
  zero-first a o at is = elim (back a o at) [
    | inl h ↦ h.0
    | inr h ↦
        let c = h.1 in
        let from = moved (regions_before 1 given c.field) c.cell.label 0 (sym (ap (λ (x : Seen). x.label) c.object) ∙ is) in
        let more = regions_before-more 1 given c.field in
        let number = from.2 in
        absurd (omega (arith, more, number))
  ]

  -- and no field leads to it
  none-first : (a : ℕ) (o : Seen) (k b : ℕ) → slice_get store a ≡ Some o → slice_get o.fields k ≡ Some (Obj b) → 1 ≤ b
  none-first a o k b at field = elim (back a o at) [
    | inl h ↦
        elim (value-back 1 given k (Obj b) (ap (λ (x : Seen). slice_get x.fields k) h.1 ∙ field)) [
          | inl s ↦ absurd (may k (Start (Obj b)) s b refl)
          | inr s ↦
              let more = objects_before-more 1 given k in
              let is = address-same b (objects_before 1 given k) s.2 in
              omega (arith, more, is)
        ]
    | inr h ↦
        let c = h.1 in
        let n = objects_before 1 given c.field in
        let v = get-mapped (value_from n) c.cell.fields k (Obj b) (ap (λ (x : Seen). slice_get x.fields k) (sym c.object) ∙ field) in
        let x = moved-value n v.0 b (sym v.2) in
        let more = objects_before-more 1 given c.field in
        let is = x.2 in
        omega (arith, more, is)
  ]

  label-at : (b : ℕ) (l : Label) → label_of store (Obj b) ≡ Some l → (o : Seen) × (slice_get store b ≡ Some o) × (o.label ≡ l)
  label-at b l is = by (slice_get store b) refl is
    where
      by : (x : Option Seen) → slice_get store b ≡ x → option_and_then (λ (o : Seen). Some o.label) x ≡ Some l
          → (o : Seen) × (slice_get store b ≡ Some o) × (o.label ≡ l)
      by None at e = absurd (none-some l e)
      by (Some o) at e = (o, at, same_Some o.label l e)

  into-there : (r b : ℕ) (o : Seen) → slice_get store b ≡ Some o → o.label ≡ Region r → is_into store r (Obj b) ≡ true
  into-there r b o at is =
      let label : label_of store (Obj b) ≡ Some (Region r) =
      ap (option_and_then (λ (x : Seen). Some x.label)) at ∙ ap Some is in
      ap (λ (x : Option Label). elim x [ None ↦ false | Some l ↦ lies_in r l ]) label ∙ equal r

  -- a field of a region's object leads where it may
  leads : (a : ℕ) (o : Seen) (p k b : ℕ) (l : Label) → slice_get store a ≡ Some o → o.label ≡ Region p → slice_get o.fields k ≡ Some (Obj b)
      → label_of store (Obj b) ≡ Some l → may_lead m.windows p l ≡ true
  leads a o p k b (Temp j) at lies field is = let x = label-at b (Temp j) is in absurd (no-temp b x.0 j x.1 x.2)
  leads a o p k b Frozen at lies field is = refl
  leads a o p k b (Region zero) at lies field is =
      let x = label-at b (Region 0) is in
      let first = zero-first b x.0 x.1 x.2 in
      let more = none-first a o k b at field in
      absurd (omega (arith, first, more))
  leads a o p k b (Region (suc q)) at lies field is =
      ap (λ y. (suc q == p) || (if y then false else true)) (differs 0 (suc q) (λ z. omega (arith, z))) ∙ shut (suc q == p)
    where
      shut : (x : Truth) → (x || true) ≡ true
      shut true = refl
      shut false = refl

  leads-value : (a : ℕ) (o : Seen) (p k : ℕ) (v : Val) (l : Label) → slice_get store a ≡ Some o → o.label ≡ Region p → slice_get o.fields k ≡ Some v
      → label_of store v ≡ Some l → may_lead m.windows p l ≡ true
  leads-value a o p k Nil l at lies field is = absurd (none-some l is)
  leads-value a o p k (Int z) l at lies field is = absurd (none-some l is)
  leads-value a o p k (Bool b) l at lies field is = absurd (none-some l is)
  leads-value a o p k (Obj b) l at lies field is = leads a o p k b l at lies field is

  -- an object's owner: the field of the behaviour's object that begins with its content, or a field of an object of its content
  owned-by : (field : ℕ) (c : CargoList) (q r : ℕ) (j : ℕ) (cell : CargoCell) → slice_get given field ≡ Some (Held c)
      → slice_get c.cells j ≡ Some cell → cell.label ≡ Region q → r ≡ regions_before 1 given field + q
      → (f : FieldInto m r) × (held f.object ≡ true)
  owned-by field c zero r j cell at cell-at lies is =
      let label : label_in c.cells 0 ≡ Some (Region 0) = is_in_true 0 (label_in c.cells 0) (parts_of c (sound field c at)).first in
      let first = label_there c.cells 0 (Region 0) label in
      let n = objects_before 1 given field in
      let s = regions_before 1 given field in
      let more = regions_before-more 1 given field in
      let object = there field 0 c first.0 at first.1 in
      let same : n + 0 ≡ n = omega arith in
      let number : s + 0 ≡ r = omega (arith, is) in
      let apart : 0 ≢ r = (λ z. omega (arith, z, is, more)) in (
        record {
          object = 0;
          field = field;
          holder = head;
          value = Obj n;
          holder_there = refl;
          value_there = value-held 1 given field c at;
          outside = ap not (differs 0 r apart);
          into = into-there r n (object_from n s first.0) (ap (slice_get store) (sym same) ∙ object)
              (ap (label_from s) first.2 ∙ ap Region number);
        },
        less-is 0 (length store) (slice_get_within store 0 head refl),
      )
  owned-by field c (suc q) r j cell at cell-at lies is =
      let good = sound field c at in
      let first = first_there c.cells j (suc q) (cell-label c j cell cell-at ∙ ap Some lies) in
      let x = first.0 in
      let within = label_within c.cells x (Region (suc q)) first.1.lies in
      let behind : 0 < x = not-zero x first.1 (is_in_true 0 (label_in c.cells 0) (parts_of c good).first) in
      let named = named_before c x good behind within in
      inside field c q r at is x first.1 named.0 named.1 named.2 named.3
    where
      not-zero : (x : ℕ) → IsFirst c.cells (suc q) x → label_in c.cells 0 ≡ Some (Region 0) → 0 < x
      not-zero zero f z =
          let same = region-same 0 (suc q) (sym z ∙ f.lies) in
          absurd (omega (arith, same))
      not-zero (suc x) f z = omega arith

      inside : (field : ℕ) (c : CargoList) (q r : ℕ) → slice_get given field ≡ Some (Held c) → r ≡ regions_before 1 given field + suc q
          → (x : ℕ) → IsFirst c.cells (suc q) x → (k i : ℕ) → k < x → HasField c.cells k i (Obj x)
          → (f : FieldInto m r) × (held f.object ≡ true)
      inside field c q r at is x first k i before has =
          let n = objects_before 1 given field in
          let s = regions_before 1 given field in
          let to = label_there c.cells x (Region (suc q)) first.lies in
          let holder = there field k c has.cell at has.there in
          let target = there field x c to.0 at to.1 in
          let number : s + suc q ≡ r = omega (arith, is) in (
            record {
              object = n + k;
              field = i;
              holder = object_from n s has.cell;
              value = Obj (n + x);
              holder_there = holder;
              value_there = get-map (value_from n) has.cell.fields i (Obj x) has.value;
              outside = outside-of has.cell.label refl;
              into = into-there r (n + x) (object_from n s to.0) target (ap (label_from s) to.2 ∙ ap Region number);
            },
            less-is (n + k) (length store) (slice_get_within store (n + k) (object_from n s has.cell) holder),
          )
        where
          outside-of : (l : Label) → has.cell.label ≡ l
              → is_outside m.windows r (label_from (regions_before 1 given field) has.cell.label) ≡ true
          outside-of (Region p) e =
              let mine : label_in c.cells k ≡ Some (Region p) = cell-label c k has.cell has.there ∙ ap Some e in
              let apart : regions_before 1 given field + p ≢ r = (λ z.
              let same : p ≡ suc q = omega (arith, z, is) in
              first.least k before (mine ∙ ap (λ y. Some (Region y)) same)) in
              ap (λ y. is_outside m.windows r (label_from (regions_before 1 given field) y)) e
              ∙ ap not (differs (regions_before 1 given field + p) r apart)
          outside-of (Temp p) e = absurd (no_temp c k p (sound field c at) (cell-label c k has.cell has.there ∙ ap Some e))
          outside-of Frozen e =
              ap (λ y. is_outside m.windows r (label_from (regions_before 1 given field) y)) e

  owned : (a : ℕ) (o : Seen) (r : ℕ) → slice_get store a ≡ Some o → o.label ≡ Region r → is_open m.windows r ≡ false → Placed held m r
  owned a o r at lies shut = elim (back a o at) [
    | inl h ↦
        let zero : 0 ≡ r = region-same 0 r (ap Some (ap (λ (x : Seen). x.label) h.1 ∙ lies)) in
        absurd (not-one r shut (sym zero))
    | inr h ↦
        let c = h.1 in
        let from = moved (regions_before 1 given c.field) c.cell.label r (sym (ap (λ (x : Seen). x.label) c.object) ∙ lies) in
        inr (owned-by c.field c.content from.0 r c.place c.cell c.held c.cell_is from.1 from.2)
  ]

  module _ (t : Tree) (method : Method) (fit : Fit t (opening_of class method given)) where
    field-held : (a : ℕ) (o : Seen) (k : ℕ) (v : Val) → slice_get store a ≡ Some o → slice_get o.fields k ≡ Some v → leads_to held v ≡ true
    field-held a o k Nil at is = refl
    field-held a o k (Int z) at is = refl
    field-held a o k (Bool b) at is = refl
    field-held a o k (Obj b) at is =
        less-is b (length store) ((fit-holds t (opening_of class method given) fit).in_store.fields a k o b at is)

    label-below : (a : ℕ) (o : Seen) (r : ℕ) → slice_get store a ≡ Some o → o.label ≡ Region r → r < length m.managers
    label-below a o r at is =
        subst (λ l. LabelGiven (length m.managers) 1 l) is (fit.numbers.labels a o at)

    slot-held : (k : ℕ) (h : Frame) (s : ℕ) (v : Val) → slice_get m.frames k ≡ Some h → slice_get h.slots s ≡ Some v → leads_to held v ≡ true
    slot-held zero h s v at is =
        own s v (subst (λ (x : Frame). slice_get x.slots s ≡ Some v)
        (sym (same_Some (record { slots = Obj 0 ∷ replicate (e.slots - 1) Nil; back = 0 }) h at)) is)
      where
        own : (s : ℕ) (v : Val) → slice_get (Obj 0 ∷ replicate (e.slots - 1) Nil) s ≡ Some v → leads_to held v ≡ true
        own zero v f =
            subst (λ x. leads_to held x ≡ true) (same_Some (Obj 0) v f) (less-is 0 (length store) (slice_get_within store 0 head refl))
        own (suc s) v f = nil-leads held (e.slots - 1) s v f
    slot-held (suc zero) h s v at is =
        nil-leads held n s v (subst (λ (x : Frame). slice_get x.slots s ≡ Some v)
        (sym (same_Some (record { slots = replicate n Nil; back = 0 }) h at)) is)
    slot-held (suc (suc k)) h s v at is = absurd (none-some h at)

    tidy : Tidy m
    tidy = record {
      some_window = tt;
      differ = (refl, refl, tt);
      numbers = below-one;
      regions = λ r o. let l = below-one r o in omega (arith, l);
      labels = label-below;
      fields = field-held;
      inside = λ a o p k v l at lies is label. leads-value a o p k v l at lies is label;
    }

    -- the one machine beside the other
    pub begun-part : Part held [] m m []
    begun-part = record {
      frames = refl;
      windows = refl;
      windows_made = refl;
      at = refl;
      managers_made = refl;
      open_managers = λ r o. refl;
      held_managers = λ a o r h at is. refl;
      objects_made = refl;
      there = λ a h. less a (length store) h;
      same = λ a h. refl;
      others = λ a h.
          let past = slice_get_past store a (not-less a (length store) h) in
          past ∙ sym (ap (option_map (λ (o : Seen). gone)) past);
      temps = λ a o k h at is. absurd (no-temp a o k at is);
      lost_temps = λ a o k h at is. absurd (no-temp a o k at is);
      slots = slot-held;
      on_stack = tt;
      fields = λ a o k v h at is. field-held a o k v at is;
      owned = λ a o r h at lies shut. inl (owned a o r at lies shut);
      window_owners = (tt, tt);
      tidy = tidy;
    }
