-- Machines in which fewer places lead into regions: where slots are nil, and where objects are gone.
use Rattle.std.proofs.Common.{◌≡◌, ◌≤◌, ◌<◌, ◌==◌, ◌||◌, ◌⊎◌, inl, inr, ℕ, zero, suc, ◌+◌, ◌-◌, Bool as Truth, true, false, cond, List, [], ◌∷◌}
use Rattle.std.proofs.Common.{◌++◌, map, length, take, replicate, Option, Some, None, option_map, option_and_then, slice_get, slice_set}
use Rattle.std.proofs.Common.{slice_index_or, unwrap_or}
use Rattle.std.proofs.Common.{if◌then◌else◌, nat_le, refl, sym, ap, ◌∙◌, arith}
use Rattle.std.specs.List.{sum_by, count_by}
use Rattle.std.proofs.lemmas.Bool.{false≢true, eq-eqb}
use Rattle.std.proofs.lemmas.List.FromFn.{length-map-range_with_len}
use Rattle.std.proofs.lemmas.List.Sums.{sum_by-cons, sum_by-append, sum_by-take-le}
use Rattle.std.proofs.lemmas.Option.{none-some, same_Some, slice_get-map}
use Rattle.rg_base.specs.declared.object.Label.{Label}
use Rattle.rg_base.specs.declared.object.Label.TheVariants.{Region, Temp, Frozen}
use Rattle.rg_base.specs.declared.object.Seen.{Seen}
use Rattle.rg_base.specs.declared.value.Val.{Val}
use Rattle.rg_base.specs.declared.value.Val.TheVariants.{Nil}
use Rattle.rg_base.specs.declared.words.Manager.TheVariants.{Arena}
use Rattle.rg_rules.specs.Regions.{address, in_regions}
use Rattle.rg_stack.specs.Machine.{Frame, Window, Machine, top_slots, with_slots, slot_at, put_slot, ended_slots, end_slots}
use Rattle.rg_stack.specs.Effects.{beneath_by_labels, left}
use Rattle.rg_stack.specs.Tops.{without_top}
use Rattle.rg_stack.specs.Needs.{closed_of, closed_into, slots_into, fields_into, places_into}
use Rattle.rg_stack.specs.Labels.{is_open, label_of, lies_in, is_into, is_outside}
use Rattle.rg_stack.specs.Needs.{all_below, owned_once, loose}
use Rattle.rg_stack.proofs.Callers.Need.{closed-counts, below_by as below-more}
use Rattle.rg_held.specs.Frees.{is_temp, buried, bury, closed_among, lives}
use Rattle.rg_held.specs.Gone.{gone}
use Rattle.rg_held.proofs.Places.{once as once-most}
use Rattle.rg_machine.specs.Core.{Core}
use Rattle.rg_machine.specs.Effects.{AllLoose, without}
use Rattle.rg_machine.proofs.Release.Behind.{none-loose}
use Rattle.rg_view.proofs.Callers.Need.{weight}

-- Counts

sum-fewer : {A B : Type 0} (f : A → ℕ) (g : B → ℕ) (h : B → A) (xs : List B) → ((x : B) → f (h x) ≤ g x) → sum_by f (map h xs) ≤ sum_by g xs
sum-fewer f g h [] le = omega arith
sum-fewer f g h (x ∷ xs) le =
    let a = sum_by-cons f (h x) (map h xs) in
    let b = sum_by-cons g x xs in
    let one = le x in
    let rest = sum-fewer f g h xs le in
    omega (arith, a, b, one, rest)

weight-le : (a b : Truth) → (a ≡ true → b ≡ true) → weight a ≤ weight b
weight-le true b h = let e : weight b ≡ weight true = ap weight (h refl) in omega (arith, e)
weight-le false b h = omega arith

count-fewer : {A : Type 0} (p q : A → Truth) (xs : List A) → ((x : A) → p x ≡ true → q x ≡ true) → count_by p xs ≤ count_by q xs
count-fewer p q [] h = omega arith
count-fewer p q (x ∷ xs) h =
    let a = sum_by-cons (λ x. weight (p x)) x xs in
    let b = sum_by-cons (λ x. weight (q x)) x xs in
    let one = weight-le (p x) (q x) (h x) in
    let rest : sum_by (λ x. weight (p x)) xs ≤ sum_by (λ x. weight (q x)) xs = count-fewer p q xs h in
    let all : sum_by (λ x. weight (p x)) (x ∷ xs) ≤ sum_by (λ x. weight (q x)) (x ∷ xs) = omega (arith, a, b, one, rest) in
    all

-- an element that is nil counts nothing
count-set : (p : Val → Truth) (vs : List Val) (s : ℕ) → p Nil ≡ false
    → weight (p (unwrap_or (slice_get vs s) Nil)) + count_by p (slice_set vs s Nil) ≤ count_by p vs
count-set p [] s none = let e : weight (p Nil) ≡ weight false = ap weight none in omega (arith, e)
count-set p (v ∷ vs) zero none =
    let e : weight (p Nil) ≡ weight false = ap weight none in
    let a = sum_by-cons (λ x. weight (p x)) v vs in
    let b = sum_by-cons (λ x. weight (p x)) Nil vs in
    let all : weight (p v) + sum_by (λ x. weight (p x)) (Nil ∷ vs) ≤ sum_by (λ x. weight (p x)) (v ∷ vs) = omega (arith, a, b, e) in
    all
count-set p (v ∷ vs) (suc s) none =
    let rest : weight (p (unwrap_or (slice_get vs s) Nil)) + sum_by (λ x. weight (p x)) (slice_set vs s Nil) ≤ sum_by (λ x. weight (p x)) vs =
    count-set p vs s none in
    let a = sum_by-cons (λ x. weight (p x)) v vs in
    let b = sum_by-cons (λ x. weight (p x)) v (slice_set vs s Nil) in
    let all : weight (p (unwrap_or (slice_get vs s) Nil)) + sum_by (λ x. weight (p x)) (v ∷ slice_set vs s Nil)
    ≤ sum_by (λ x. weight (p x)) (v ∷ vs) = omega (arith, a, b, rest) in
    all

count-nil : (p : Val → Truth) (n : ℕ) → p Nil ≡ false → count_by p (replicate n Nil) ≡ 0
count-nil p zero none = refl
count-nil p (suc n) none =
    let e : weight (p Nil) ≡ weight false = ap weight none in
    let rest : sum_by (λ x. weight (p x)) (replicate n Nil) ≡ 0 = count-nil p n none in
    let a = sum_by-cons (λ x. weight (p x)) Nil (replicate n Nil) in
    a ∙ omega (arith, e, rest)

count-ended : (p : Val → Truth) (vs : List Val) (s : ℕ) → p Nil ≡ false → count_by p (ended_slots s vs) ≤ count_by p vs
count-ended p vs s none =
    let n = length vs - s in
    let rest : sum_by (λ x. weight (p x)) (replicate n Nil) ≡ 0 = count-nil p n none in
    let a = sum_by-append (λ x. weight (p x)) (take s vs) (replicate n Nil) in
    let b = sum_by-take-le (λ x. weight (p x)) vs s in
    let all : sum_by (λ x. weight (p x)) (take s vs ++ replicate n Nil) ≤ sum_by (λ x. weight (p x)) vs = omega (arith, a, b, rest) in
    all

-- Fewer places

-- as many regions, the same windows, and into no region more places lead; no value leads into another closed region
pub record Fewer (m n : Machine) : Type 0 where
  pub windows : n.windows ≡ m.windows
  pub managers : length n.managers ≡ length m.managers
  pub places : (r : ℕ) → places_into n r ≤ places_into m r
  pub closed : (v : Val) (r : ℕ) → closed_into n v ≡ Some r → closed_into m v ≡ Some r

le-one : (a b : ℕ) → nat_le a 1 ≡ true → b ≤ a → nat_le b 1 ≡ true
le-one a b e le = grind (arith, e, le)

pub fewer-once : (m n : Machine) → Fewer m n → owned_once m ≡ true → owned_once n ≡ true
fewer-once m n f once =
    ap (λ k. all_below k (λ r. is_open n.windows r || nat_le (places_into n r) 1)) f.managers
    ∙ below-more (length m.managers) (λ r. is_open m.windows r || nat_le (places_into m r) 1)
    (λ r. is_open n.windows r || nat_le (places_into n r) 1) each once
  where
    test : (r : ℕ) (b : Truth) → (b || nat_le (places_into m r) 1) ≡ true → (b || nat_le (places_into n r) 1) ≡ true
    test r true e = refl
    test r false e = le-one (places_into m r) (places_into n r) e (f.places r)

    each : (r : ℕ) → (is_open m.windows r || nat_le (places_into m r) 1) ≡ true → (is_open n.windows r || nat_le (places_into n r) 1) ≡ true
    each r e =
        ap (λ ws. is_open ws r || nat_le (places_into n r) 1) f.windows ∙ test r (is_open m.windows r) e

-- no place leads into the closed region of a value
pub loose-none : (m : Machine) (v : Val) → ((r : ℕ) → closed_into m v ≡ Some r → places_into m r ≡ 0) → loose m v ≡ true
loose-none m v h = by (closed_into m v) refl
  where
    by : (o : Option ℕ) → closed_into m v ≡ o → loose m v ≡ true
    by None e = ap (λ (x : Option ℕ). elim x [ None ↦ true | Some n ↦ places_into m n == 0 ]) e
    by (Some r) e =
        ap (λ (x : Option ℕ). elim x [ None ↦ true | Some n ↦ places_into m n == 0 ]) e ∙ eq-eqb (places_into m r) 0 (h r e)

pub fewer-loose : (m n : Machine) (v : Val) → Fewer m n → loose m v ≡ true → loose n v ≡ true
fewer-loose m n v f free = loose-none n v (λ r e.
    let none = none-loose m v r (f.closed v r e) free in let le = f.places r in omega (arith, none, le))

pub fewer-all : (c d : Core) → Fewer c.machine d.machine → d.stack ≡ c.stack → AllLoose c → AllLoose d
fewer-all c d f same all k v e =
    fewer-loose c.machine d.machine v f (all k v (ap (λ vs. slice_get vs k) (sym same) ∙ e))

-- A slot is nil

slots-nil : (store : List Seen) (r s : ℕ) (fs : List Frame) → weight (is_into store r (unwrap_or (slice_get (top_slots fs) s) Nil))
    + slots_into store r (with_slots (slice_set (top_slots fs) s Nil) fs) ≤ slots_into store r fs
slots-nil store r s [] = omega arith
slots-nil store r s (f ∷ fs) =
    let counts : Frame → ℕ = λ f. count_by (is_into store r) f.slots in
    let now : Frame = record f { slots = slice_set f.slots s Nil } in
    let a = sum_by-cons counts f fs in
    let b = sum_by-cons counts now fs in
    let one = count-set (is_into store r) f.slots s refl in
    omega (arith, a, b, one)

-- the slot led into a region, or didn't
pub places-nil : (m : Machine) (s r : ℕ) → weight (is_into m.store r (slot_at m s)) + places_into (put_slot m s Nil) r ≤ places_into m r
places-nil m s r = let slots = slots-nil m.store r s m.frames in omega (arith, slots)

pub fewer-nil : (m : Machine) (s : ℕ) → Fewer m (put_slot m s Nil)
fewer-nil m s = record {
  windows = refl;
  managers = refl;
  places = λ r. let le = places-nil m s r in omega (arith, le);
  closed = λ v r e. e;
}

pub once-nil : (m : Machine) (s : ℕ) → owned_once m ≡ true → owned_once (put_slot m s Nil) ≡ true
once-nil m s once = fewer-once m (put_slot m s Nil) (fewer-nil m s) once

-- a value that leads into a closed region leads to a label of it
pub closed-back : (ws : List Window) (store : List Seen) (v : Val) (r : ℕ) → option_and_then (closed_of ws) (label_of store v) ≡ Some r
    → (label_of store v ≡ Some (Region r)) × (is_open ws r ≡ false)
closed-back ws store v r e = by (label_of store v) refl
  where
    label : (l : Label) → closed_of ws l ≡ Some r → (Some l ≡ Some (Region r)) × (is_open ws r ≡ false)
    label (Region n) c = test (is_open ws n) refl c
      where
        test : (b : Truth) → is_open ws n ≡ b → (if b then None else Some n) ≡ Some r → (Some (Region n) ≡ Some (Region r)) × (is_open ws r ≡ false)
        test true o c = absurd (none-some r c)
        test false o c = let same : n ≡ r = same_Some n r c in (ap (λ n. Some (Region n)) same, ap (is_open ws) (sym same) ∙ o)
    label (Temp n) c = absurd (none-some r c)
    label Frozen c = absurd (none-some r c)

    by : (o : Option Label) → label_of store v ≡ o → (label_of store v ≡ Some (Region r)) × (is_open ws r ≡ false)
    by None f = absurd (none-some r (sym (ap (option_and_then (closed_of ws)) f) ∙ e))
    by (Some l) f =
        let x = label l (sym (ap (option_and_then (closed_of ws)) f) ∙ e) in (f ∙ x.0, x.1)

-- no other place leads into the region of a slot that is owned once
pub places-owned : (m : Machine) (s r : ℕ) → owned_once m ≡ true → r < length m.managers → closed_into m (slot_at m s) ≡ Some r
    → places_into (put_slot m s Nil) r ≡ 0
places-owned m s r once lt e =
    let le = once-most m r once lt (closed-back m.windows m.store (slot_at m s) r e).1 in
    let one : weight (is_into m.store r (slot_at m s)) ≡ weight true = ap weight (closed-counts m (slot_at m s) r e) in
    let all = places-nil m s r in
    omega (arith, le, one, all)

-- Slots end

pub fewer-ended : (m : Machine) (s : ℕ) → Fewer m (end_slots m s)
fewer-ended m s = record {
  windows = refl;
  managers = refl;
  places = λ r. let le = slots m.frames r in omega (arith, le);
  closed = λ v r e. e;
}
  where
    slots : (fs : List Frame) (r : ℕ) → slots_into m.store r (with_slots (ended_slots s (top_slots fs)) fs) ≤ slots_into m.store r fs
    slots [] r = omega arith
    slots (f ∷ fs) r =
        let counts : Frame → ℕ = λ f. count_by (is_into m.store r) f.slots in
        let now : Frame = record f { slots = ended_slots s f.slots } in
        let a = sum_by-cons counts f fs in
        let b = sum_by-cons counts now fs in
        let one = count-ended (is_into m.store r) f.slots s refl in
        omega (arith, a, b, one)

-- Objects are gone

-- the label of what a value led to, if that isn't gone
pub label-buried : (regions : List ℕ) (temps : Option ℕ) (store : List Seen) (v : Val) (l : Label)
    → label_of (bury regions temps store) v ≡ Some l → (l ≡ gone.label) ⊎ (label_of store v ≡ Some l)
label-buried regions temps store v l e = by (address v) e
  where
    label : (o : Seen) (b : Truth) → Some (if b then gone else o).label ≡ Some l → (l ≡ gone.label) ⊎ (Some o.label ≡ Some l)
    label o true e = inl (sym (same_Some gone.label l e))
    label o false e = inr e

    at : (o : Option Seen) → option_and_then (λ (o : Seen). Some o.label) (option_map (buried regions temps) o) ≡ Some l
        → (l ≡ gone.label) ⊎ (option_and_then (λ (o : Seen). Some o.label) o ≡ Some l)
    at None e = absurd (none-some l e)
    at (Some o) e = label o (in_regions regions o.label || is_temp temps o.label) e

    by : (x : Option ℕ)
        → option_and_then (λ a. option_and_then (λ (o : Seen). Some o.label) (slice_get (map (buried regions temps) store) a)) x ≡ Some l
        → (l ≡ gone.label) ⊎ (option_and_then (λ a. option_and_then (λ (o : Seen). Some o.label) (slice_get store a)) x ≡ Some l)
    by None e = absurd (none-some l e)
    by (Some a) e =
        at (slice_get store a)
        (sym (ap (option_and_then (λ (o : Seen). Some o.label)) (slice_get-map (buried regions temps) store a)) ∙ e)

into-buried : (regions : List ℕ) (temps : Option ℕ) (store : List Seen) (r : ℕ) (v : Val) → is_into (bury regions temps store) r v ≡ true
    → is_into store r v ≡ true
into-buried regions temps store r v e = by (label_of (bury regions temps store) v) refl
  where
    answer : Option Label → Truth
    answer o = elim o [ None ↦ false | Some l ↦ lies_in r l ]

    by : (o : Option Label) → label_of (bury regions temps store) v ≡ o → is_into store r v ≡ true
    by None f = absurd (false≢true (sym (ap answer f) ∙ e))
    by (Some l) f = elim (label-buried regions temps store v l f) [
      | inl is ↦ absurd (false≢true (sym (ap (lies_in r) is) ∙ (sym (ap answer f) ∙ e)))
      | inr old ↦ ap answer old ∙ (sym (ap answer f) ∙ e)
    ]

pub closed-buried : (ws : List Window) (regions : List ℕ) (temps : Option ℕ) (store : List Seen) (r : ℕ) (v : Val)
    → option_and_then (closed_of ws) (label_of (bury regions temps store) v) ≡ Some r
    → option_and_then (closed_of ws) (label_of store v) ≡ Some r
closed-buried ws regions temps store r v e = by (label_of (bury regions temps store) v) refl
  where
    by : (o : Option Label) → label_of (bury regions temps store) v ≡ o → option_and_then (closed_of ws) (label_of store v) ≡ Some r
    by None f = absurd (none-some r (sym (ap (option_and_then (closed_of ws)) f) ∙ e))
    by (Some l) f = elim (label-buried regions temps store v l f) [
      | inl is ↦ absurd (none-some r (sym (ap (closed_of ws) is) ∙ (sym (ap (option_and_then (closed_of ws)) f) ∙ e)))
      | inr old ↦ ap (option_and_then (closed_of ws)) old ∙ (sym (ap (option_and_then (closed_of ws)) f) ∙ e)
    ]

module _ (regions : List ℕ) (temps : Option ℕ) (store : List Seen) (ws : List Window) (r : ℕ) where
  slots-buried : (fs : List Frame) → slots_into (bury regions temps store) r fs ≤ slots_into store r fs
  slots-buried [] = omega arith
  slots-buried (f ∷ fs) =
      let a = sum_by-cons (λ (f : Frame). count_by (is_into (bury regions temps store) r) f.slots) f fs in
      let b = sum_by-cons (λ (f : Frame). count_by (is_into store r) f.slots) f fs in
      let one = count-fewer (is_into (bury regions temps store) r) (is_into store r) f.slots (λ v. into-buried regions temps store r v) in
      let rest = slots-buried fs in
      omega (arith, a, b, one, rest)

  -- what an object counts
  abbrev weighs : List Seen → Seen → ℕ
  weighs s o = cond (is_outside ws r o.label) (count_by (is_into s r) o.fields) 0

  weighs-buried : (o : Seen) → weighs (bury regions temps store) (buried regions temps o) ≤ weighs store o
  weighs-buried o = by (in_regions regions o.label || is_temp temps o.label)
    where
      none : (b : Truth) → ◌≡◌ {A = ℕ} (cond b 0 0) 0
      none true = refl
      none false = refl

      same : (b : Truth) → cond b (count_by (is_into (bury regions temps store) r) o.fields) 0 ≤ cond b (count_by (is_into store r) o.fields) 0
      same true = count-fewer (is_into (bury regions temps store) r) (is_into store r) o.fields (λ v. into-buried regions temps store r v)
      same false = omega arith

      by : (b : Truth) → weighs (bury regions temps store) (if b then gone else o) ≤ weighs store o
      by true = let e : weighs (bury regions temps store) gone ≡ 0 = none (is_outside ws r gone.label) in omega (arith, e)
      by false = same (is_outside ws r o.label)

  fields-buried : fields_into (bury regions temps store) ws r (bury regions temps store) ≤ fields_into store ws r store
  fields-buried = sum-fewer (weighs (bury regions temps store)) (weighs store) (buried regions temps) store weighs-buried

-- the regions that go with values
abbrev pub regions-with : Core → List Val → List ℕ
regions-with c vs = beneath_by_labels c.machine.store (length c.machine.managers) (closed_among c.machine vs)

-- the store without them
abbrev pub store-without : Core → List Val → List Seen
store-without c vs = bury (regions-with c vs) None c.machine.store

pub fewer-without : (c : Core) (vs : List Val) → Fewer c.machine (without c vs).machine
fewer-without c vs =
    let m = c.machine in
    record {
      windows = refl;
      managers =
          length-map-range_with_len
          (λ r. if lives (record m { store = store-without c vs }) r then slice_index_or m.managers r Arena else Arena) 0 (length m.managers);
      places = λ r.
          let a = slots-buried (regions-with c vs) None m.store m.windows r m.frames in
          let b = fields-buried (regions-with c vs) None m.store m.windows r in
          omega (arith, a, b);
      closed = λ v r e. closed-buried m.windows (regions-with c vs) None m.store r v e;
    }

-- nor do more into any, once the topmost window is gone
pub fewer-left : (c : Core) (vs : List Val) (s r : ℕ) → places_into (left (without c vs).machine s) r ≤ places_into (left c.machine s) r
fewer-left c vs s r =
    let m = c.machine in
    let a = slots-buried (regions-with c vs) None m.store (without_top m.windows) r (end_slots m s).frames in
    let b = fields-buried (regions-with c vs) None m.store (without_top m.windows) r in
    omega (arith, a, b)

-- Frames go back where they did
