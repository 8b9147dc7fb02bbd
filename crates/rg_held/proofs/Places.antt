-- Where a value leads, and that two places which lead into one closed region are the same. For crates above too.
use Rattle.std.proofs.Common.{[], ◌∷◌, ◌≡◌, ℕ, zero, suc, ◌==◌, ◌<◌, ◌≤◌, inl, inr, true, false, true≢false, Bool as Truth, List}
use Rattle.std.proofs.Common.{length, Option, Some, None, option_and_then, refl, sym, ap, ◌∙◌, arith, slice_get}
use Rattle.std.proofs.lemmas.Option.{same_Some}
use Rattle.std.proofs.lemmas.Bool.{eq-eqb, eqb-true, or_cases, cases_Bool}
use Rattle.std.specs.Prelude.{count_by, cond, nat_le, ◌||◌, if◌then◌else◌}
use Rattle.rg_base.specs.declared.object.Label.{Label}
use Rattle.rg_base.specs.declared.object.Label.TheVariants.{Region, Temp, Frozen}
use Rattle.rg_base.specs.declared.object.Seen.{Seen}
use Rattle.rg_base.specs.declared.value.Val.{Val}
use Rattle.rg_base.specs.declared.value.Val.TheVariants as val
use Rattle.rg_stack.specs.Machine.{Frame, Window, Machine}
use Rattle.rg_stack.specs.Tops.{top_region}
use Rattle.rg_stack.specs.Needs.{closed_of, closed_into, is_closed, slots_into, fields_into}
use Rattle.rg_stack.specs.Labels.{is_open, label_of, lies_in, is_into, is_outside}
use Rattle.rg_stack.specs.Needs.{places_into}
use Rattle.rg_stack.specs.Needs.{all_below, owned_once}
use Rattle.rg_stack.proofs.Basics.{none-some, and-left, and-right}
use Rattle.rg_held.specs.Part.{SlotInto, FieldInto, SomeWindow}
use Rattle.rg_held.proofs.Lists.{off, sum-one, sum-two, count-one, count-two}

-- what holds of both parts

pub or-right : (a b : Truth) → (a || b) ≡ false → b ≡ false
or-right true b e = absurd (true≢false e)
or-right false b e = e

-- a slot, and a field from outside, that lead into a region
abbrev pub slot-into : {m : Machine} {r : ℕ} (n s : ℕ) (h : Frame) (v : Val) → slice_get m.frames n ≡ Some h → slice_get h.slots s ≡ Some v
    → is_into m.store r v ≡ true → SlotInto m r
slot-into n s h v there at into = record {
  frame = n;
  slot = s;
  holder = h;
  value = v;
  holder_there = there;
  value_there = at;
  into = into;
}

abbrev pub field-into : {m : Machine} {r : ℕ} (a k : ℕ) (o : Seen) (v : Val) → slice_get m.store a ≡ Some o → slice_get o.fields k ≡ Some v
    → is_outside m.windows r o.label ≡ true → is_into m.store r v ≡ true → FieldInto m r
field-into a k o v there at outside into = record {
  object = a;
  field = k;
  holder = o;
  value = v;
  holder_there = there;
  value_there = at;
  outside = outside;
  into = into;
}

-- the region of the topmost window is open
pub top-open : (ws : List Window) → SomeWindow ws → is_open ws (top_region ws) ≡ true
top-open [] h = absurd h
top-open (w ∷ ws) h = ap (λ b. b || is_open ws w.region) (eq-eqb w.region w.region refl)

-- what is open beneath is open
pub open-more : (w : Window) (ws : List Window) (r : ℕ) → is_open ws r ≡ true → is_open (w ∷ ws) r ≡ true
open-more w ws r e = by (w.region == r)
  where
    by : (t : Truth) → (t || is_open ws r) ≡ true
    by true = refl
    by false = e

pub clash : {B : Type 0} (b : Truth) → b ≡ true → b ≡ false → B
clash b t f = absurd (true≢false (sym t ∙ f))

-- a value that leads to an object with a label
pub record RefTo (store : List Seen) (v : Val) (l : Label) : Type 0 where
  pub address : ℕ
  pub object : Seen
  pub is : v ≡ val.Obj address
  pub there : slice_get store address ≡ Some object
  pub label : object.label ≡ l

pub label-back : (store : List Seen) (v : Val) (l : Label) → label_of store v ≡ Some l → RefTo store v l
label-back store val.Nil l e = none-some l e
label-back store (val.Int z) l e = none-some l e
label-back store (val.Bool b) l e = none-some l e
label-back store (val.Obj a) l e = by (slice_get store a) refl e
  where
    by : (o : Option Seen) → slice_get store a ≡ o → option_and_then (λ (o : Seen). Some o.label) o ≡ Some l → RefTo store (val.Obj a) l
    by None h e = none-some l e
    by (Some o) h e = record { address = a; object = o; is = refl; there = h; label = same_Some o.label l e }

pub label-there : (store : List Seen) (a : ℕ) (o : Seen) → slice_get store a ≡ Some o → label_of store (val.Obj a) ≡ Some o.label
label-there store a o e = ap (option_and_then (λ (o : Seen). Some o.label)) e

pub lies-back : (r : ℕ) (l : Label) → lies_in r l ≡ true → l ≡ Region r
lies-back r (Region q) e = ap Region (eqb-true q r e)
lies-back r (Temp n) e = off e
lies-back r Frozen e = off e

pub into-label : (store : List Seen) (r : ℕ) (v : Val) → is_into store r v ≡ true → label_of store v ≡ Some (Region r)
into-label store r v e = by (label_of store v) e
  where
    by : (o : Option Label) → elim o [ None ↦ false | Some l ↦ lies_in r l ] ≡ true → o ≡ Some (Region r)
    by None e = off e
    by (Some l) e = ap Some (lies-back r l e)

pub into-back : (store : List Seen) (r : ℕ) (v : Val) → is_into store r v ≡ true → RefTo store v (Region r)
into-back store r v e = label-back store v (Region r) (into-label store r v e)

pub label-into : (store : List Seen) (r : ℕ) (v : Val) → label_of store v ≡ Some (Region r) → is_into store r v ≡ true
label-into store r v e =
    ap (λ (o : Option Label). elim o [ None ↦ false | Some l ↦ lies_in r l ]) e ∙ eq-eqb r r refl

pub region-into : (store : List Seen) (r a : ℕ) (o : Seen) → slice_get store a ≡ Some o → o.label ≡ Region r → is_into store r (val.Obj a) ≡ true
region-into store r a o e l = label-into store r (val.Obj a) (label-there store a o e ∙ ap Some l)

-- a value that leads into a closed region
pub record ClosedRef (m : Machine) (v : Val) (r : ℕ) : Type 0 where
  pub into : is_into m.store r v ≡ true
  pub closed : is_open m.windows r ≡ false

pub closed-back : (m : Machine) (v : Val) (r : ℕ) → closed_into m v ≡ Some r → ClosedRef m v r
closed-back m v r e = by (label_of m.store v) refl e
  where
    one : (q : ℕ) (b : Truth) → is_open m.windows q ≡ b → (if b then None else Some q) ≡ Some r → (q ≡ r) × (is_open m.windows q ≡ false)
    one q true h e = none-some r e
    one q false h e = (same_Some q r e, h)

    of : (l : Label) → label_of m.store v ≡ Some l → closed_of m.windows l ≡ Some r → ClosedRef m v r
    of (Region q) h e = let both = one q (is_open m.windows q) refl e in record {
      into = label-into m.store r v (h ∙ ap (λ q. Some (Region q)) both.0);
      closed = ap (is_open m.windows) (sym both.0) ∙ both.1;
    }
    of (Temp n) h e = none-some r e
    of Frozen h e = none-some r e

    by : (o : Option Label) → label_of m.store v ≡ o → option_and_then (closed_of m.windows) o ≡ Some r → ClosedRef m v r
    by None h e = none-some r e
    by (Some l) h e = of l h e

pub closed-there : (m : Machine) (v : Val) (r : ℕ) → is_into m.store r v ≡ true → is_open m.windows r ≡ false → closed_into m v ≡ Some r
closed-there m v r e c = ap (option_and_then (closed_of m.windows)) (into-label m.store r v e) ∙ ap (λ b. if b then None else Some r) c

-- a value that leads into no closed region leads into none
pub not-closed : {B : Type 0} (m : Machine) (v : Val) (r : ℕ) → is_closed m v ≡ false → is_into m.store r v ≡ true → is_open m.windows r ≡ false → B
not-closed m v r n e c = clash (is_closed m v) (ap (λ (o : Option ℕ). elim o [ None ↦ false | Some q ↦ true ]) (closed-there m v r e c)) n

-- at most one place leads into a closed region

pub all-below : (n : ℕ) (test : ℕ → Truth) (r : ℕ) → all_below n test ≡ true → r < n → test r ≡ true
all-below zero test r e h = absurd (omega (arith, h))
all-below (suc n) test r e h = elim (cases_Bool (r == n)) [
  | inl same ↦ ap test (eqb-true r n same) ∙ and-left (test n) (all_below n test) e
  | inr other ↦ all-below n test r (and-right (test n) (all_below n test) e) (grind (arith, h, other))
]

pub once : (m : Machine) (r : ℕ) → owned_once m ≡ true → r < length m.managers → is_open m.windows r ≡ false → places_into m r ≤ 1
once m r e less c = elim (or_cases (is_open m.windows r) (nat_le (places_into m r) 1)
    (all-below (length m.managers) (λ r. is_open m.windows r || nat_le (places_into m r) 1) r e less)) [
      | inl o ↦ clash (is_open m.windows r) o c
      | inr h ↦ grind (arith, h)
    ]

slots-one : (m : Machine) (r : ℕ) → SlotInto m r → 1 ≤ slots_into m.store r m.frames
slots-one m r p =
    let a = sum-one (λ (f : Frame). count_by (is_into m.store r) f.slots) m.frames p.frame p.holder p.holder_there in
    let b = count-one (is_into m.store r) p.holder.slots p.slot p.value p.value_there p.into in omega (arith, a, b)

outside-count : (m : Machine) (r : ℕ) (p : FieldInto m r)
    → cond (is_outside m.windows r p.holder.label) (count_by (is_into m.store r) p.holder.fields) 0 ≡ count_by (is_into m.store r) p.holder.fields
outside-count m r p = ap (λ b. cond b (count_by (is_into m.store r) p.holder.fields) 0) p.outside

fields-one : (m : Machine) (r : ℕ) → FieldInto m r → 1 ≤ fields_into m.store m.windows r m.store
fields-one m r p =
    let a = sum-one (λ (o : Seen). cond (is_outside m.windows r o.label) (count_by (is_into m.store r) o.fields) 0) m.store p.object p.holder
    p.holder_there in
    let b = count-one (is_into m.store r) p.holder.fields p.field p.value p.value_there p.into in
    let c = outside-count m r p in omega (arith, a, b, c)

pub slot-counts : (m : Machine) (r : ℕ) → SlotInto m r → 1 ≤ places_into m r
slot-counts m r p = let a = slots-one m r p in omega (arith, a)

pub field-counts : (m : Machine) (r : ℕ) → FieldInto m r → 1 ≤ places_into m r
field-counts m r p = let a = fields-one m r p in omega (arith, a)

pub slot-slot : (m : Machine) (r : ℕ) → places_into m r ≤ 1 → (p q : SlotInto m r) → (p.frame ≡ q.frame) × (p.slot ≡ q.slot)
slot-slot m r most p q = elim (sum-two (λ (f : Frame). count_by (is_into m.store r) f.slots) m.frames p.frame q.frame p.holder q.holder
    p.holder_there q.holder_there) [
      | inl same ↦ (let h : p.holder ≡ q.holder = same_Some p.holder q.holder (sym p.holder_there ∙ ap (slice_get m.frames) same ∙ q.holder_there) in
          let there : slice_get p.holder.slots q.slot ≡ Some q.value = ap (λ (f : Frame). slice_get f.slots q.slot) h ∙ q.value_there in
          elim (count-two (is_into m.store r) p.holder.slots p.slot q.slot p.value q.value p.value_there there p.into q.into) [
            | inl at ↦ (same, at)
            | inr two ↦ (let a = sum-one (λ (f : Frame). count_by (is_into m.store r) f.slots) m.frames p.frame p.holder p.holder_there in
                absurd (omega (arith, a, two, most)))
          ])
      | inr two ↦
          (let a = count-one (is_into m.store r) p.holder.slots p.slot p.value p.value_there p.into in
          let b = count-one (is_into m.store r) q.holder.slots q.slot q.value q.value_there q.into in absurd (omega (arith, a, b, two, most)))
    ]

pub slot-field : {B : Type 0} (m : Machine) (r : ℕ) → places_into m r ≤ 1 → SlotInto m r → FieldInto m r → B
slot-field m r most p q = let a = slots-one m r p in let b = fields-one m r q in absurd (omega (arith, a, b, most))

pub field-field : (m : Machine) (r : ℕ) → places_into m r ≤ 1 → (p q : FieldInto m r) → (p.object ≡ q.object) × (p.field ≡ q.field)
field-field m r most p q = elim (sum-two (λ (o : Seen). cond (is_outside m.windows r o.label) (count_by (is_into m.store r) o.fields) 0) m.store
    p.object q.object p.holder q.holder p.holder_there q.holder_there) [
      | inl same ↦ (let h : p.holder ≡ q.holder = same_Some p.holder q.holder (sym p.holder_there ∙ ap (slice_get m.store) same ∙ q.holder_there) in
          let there : slice_get p.holder.fields q.field ≡ Some q.value = ap (λ (o : Seen). slice_get o.fields q.field) h ∙ q.value_there in
          elim (count-two (is_into m.store r) p.holder.fields p.field q.field p.value q.value p.value_there there p.into q.into) [
            | inl at ↦ (same, at)
            | inr two ↦ (let a = sum-one (λ (o : Seen). cond (is_outside m.windows r o.label)
                (count_by (is_into m.store r) o.fields) 0) m.store p.object
                p.holder p.holder_there in let c = outside-count m r p in absurd (omega (arith, a, c, two, most)))
          ])
      | inr two ↦
          (let a = count-one (is_into m.store r) p.holder.fields p.field p.value p.value_there p.into in
          let b = count-one (is_into m.store r) q.holder.fields q.field q.value q.value_there q.into in
          let c = outside-count m r p in let d = outside-count m r q in absurd (omega (arith, a, b, c, d, two, most)))
    ]
