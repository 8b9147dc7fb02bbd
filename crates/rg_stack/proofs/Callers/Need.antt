-- What instructions need, where it is there whatever the program: a slot that is nil, a value that is on the stack, and openings.
use Rattle.std.proofs.Common.{◌≡◌, ℕ, zero, suc, ◌+◌, ◌-◌, true, false, true≢false, Bool as Truth, ◌||◌, ◌==◌, if◌then◌else◌, ◌⊎◌, inl}
use Rattle.std.proofs.Common.{inr}
use Rattle.std.proofs.Common.{List, [], ◌∷◌, ◌++◌, length, map, replicate, Option, Some, None, refl, sym, ap, subst, ◌∙◌, arith, slice_get}
use Rattle.std.proofs.Common.{slice_set, unwrap_or, option_and_then}
use Rattle.std.proofs.lemmas.List.{length-map}
use Rattle.std.specs.Prelude.{nat_le, cond, count_by}
use Rattle.std.proofs.Common.{◌≤◌}
use Rattle.std.proofs.lemmas.List.Sums.{sum_by-cons}
use Rattle.std.proofs.lemmas.Bool.{le-leb, leb-true, and_from, or_right, or_left}
use Rattle.std.specs.List.{list_any}
use Rattle.rg_base.specs.declared.object.Seen.{Seen}
use Rattle.rg_base.specs.declared.object.Label.{Label}
use Rattle.rg_base.specs.declared.object.Label.TheVariants.{Region, Temp, Frozen}
use Rattle.rg_base.specs.declared.value.Val.{Val}
use Rattle.rg_base.specs.declared.value.Val.TheVariants as val
use Rattle.rg_rules.specs.State.{Local}
use Rattle.rg_code.specs.declared.op.Op.TheVariants as i
use Rattle.rg_code.specs.declared.code.Entry.{Entry}
use Rattle.rg_code.specs.Code.{Code}
use Rattle.rg_stack.specs.Machine.{Frame, Window, Machine, slot_at}
use Rattle.rg_stack.specs.Effects.{Walked, Stuck}
use Rattle.rg_stack.specs.Needs.{needs, closed_of, closed_into, is_closed, slots_into, places_into}
use Rattle.rg_stack.specs.Labels.{is_open, label_of, lies_in, is_into}
use Rattle.rg_stack.specs.Needs.{all_below, owned_once}
use Rattle.rg_stack.proofs.Walks.Slot.{ShowsSlots}
use Rattle.rg_stack.proofs.Basics.{and-left, and-right}

-- an instruction that is given what it needs
pub given : (t : Truth) (x : Walked) → t ≡ true → (if t then x else Stuck) ≡ x
given t x e = ap (λ b. if b then x else Stuck) e

-- the slot behind the variables is nil
first_behind : (vals : List Val) (k : ℕ) → unwrap_or (slice_get (vals ++ replicate k val.Nil) (length vals)) val.Nil ≡ val.Nil
first_behind [] zero = refl
first_behind [] (suc k) = refl
first_behind (v ∷ vals) k = first_behind vals k

pub free_slot : (slots : List Val) (locals : List Local) → ShowsSlots slots locals → unwrap_or (slice_get slots (length locals)) val.Nil ≡ val.Nil
free_slot slots locals h =
    let vals = map (λ (l : Local). l.value) locals in
    let n = length slots - length locals in
    ap (λ s. unwrap_or (slice_get s (length locals)) val.Nil) h
    ∙ ap (λ k. unwrap_or (slice_get (vals ++ replicate n val.Nil) k) val.Nil) (sym (length-map locals (λ (l : Local). l.value)))
    ∙ first_behind vals n

-- what is nil owns nothing
pub nil-open : (m : Machine) (v : Val) → v ≡ val.Nil → is_closed m v ≡ false
nil-open m v e = ap (is_closed m) e

-- a value is one of these
abbrev pub AmongValues : Val → List Val → Type 0
AmongValues v [] = ⊥
AmongValues v (u ∷ us) = (u ≡ v) ⊎ AmongValues v us

pub same : (n : ℕ) → (n == n) ≡ true
same n = grind arith

-- all that is on the stack goes into the frame of a call
pub call-given : (code : Code) (n : ℕ) (e : Entry) (stack : List Val) (m : Machine) → slice_get code.entries n ≡ Some e → length stack ≡ e.given
    → needs code (i.Call n) stack m ≡ true
call-given code n e stack m there size = ap (λ o. elim o [ None ↦ true | Some e ↦ length stack == e.given ]) there
    ∙ ap (λ k. length stack == k) (sym size) ∙ same (length stack)

-- a value leads into the closed region into which it does
into_by : (ws : List Window) (l : Label) (r : ℕ) → closed_of ws l ≡ Some r → lies_in r l ≡ true
into_by ws (Region q) r e = by (is_open ws q) e
  where
    by : (b : Truth) → (if b then None else Some q) ≡ Some r → (q == r) ≡ true
    by true e = absurd (true≢false (sym (ap (λ (o : Option ℕ). elim o [ None ↦ false | Some n ↦ true ]) e)))
    by false e = ap (λ (o : Option ℕ). elim o [ None ↦ true | Some n ↦ q == n ]) (sym e) ∙ same q
into_by ws (Temp n) r e = absurd (true≢false (sym (ap (λ (o : Option ℕ). elim o [ None ↦ false | Some n ↦ true ]) e)))
into_by ws Frozen r e = absurd (true≢false (sym (ap (λ (o : Option ℕ). elim o [ None ↦ false | Some n ↦ true ]) e)))

-- it is counted
pub closed-counts : (m : Machine) (v : Val) (r : ℕ) → closed_into m v ≡ Some r → is_into m.store r v ≡ true
closed-counts m v r = by (label_of m.store v)
  where
    by : (l : Option Label) → option_and_then (closed_of m.windows) l ≡ Some r → elim l [ None ↦ false | Some l ↦ lies_in r l ] ≡ true
    by None e = absurd (true≢false (sym (ap (λ (o : Option ℕ). elim o [ None ↦ false | Some n ↦ true ]) e)))
    by (Some l) e = into_by m.windows l r e

any_among : (test : Val → Truth) (v : Val) (stack : List Val) → AmongValues v stack → test v ≡ true → list_any test stack ≡ true
any_among test v [] h e = absurd h
any_among test v (u ∷ us) (inl is) e = or_left (test u) (list_any test us) (ap test is ∙ e)
any_among test v (u ∷ us) (inr h) e = or_right (test u) (list_any test us) (any_among test v us h e)

-- a slot that is nil, or of which the value is on the stack, may be cleared
clear_by : (m : Machine) (stack : List Val) (v : Val) (r : Option ℕ) → closed_into m v ≡ r → AmongValues v stack
    → elim r [ None ↦ true | Some r ↦ list_any (is_into m.store r) stack ] ≡ true
clear_by m stack v None e h = refl
clear_by m stack v (Some r) e h = any_among (is_into m.store r) v stack h (closed-counts m v r e)

pub clear-given : (code : Code) (m : Machine) (s : ℕ) (stack : List Val) → owned_once m ≡ true
    → (slot_at m s ≡ val.Nil) ⊎ AmongValues (slot_at m s) stack → needs code (i.Clear s) stack m ≡ true
clear-given code m s stack once h =
    and_from (owned_once m) (elim (closed_into m (slot_at m s)) [ None ↦ true | Some r ↦ list_any (is_into m.store r) stack ]) once (by h)
  where
    by : (slot_at m s ≡ val.Nil) ⊎ AmongValues (slot_at m s) stack
        → elim (closed_into m (slot_at m s)) [ None ↦ true | Some r ↦ list_any (is_into m.store r) stack ] ≡ true
    by (inl is) = ap (λ v. elim (closed_into m v) [ None ↦ true | Some r ↦ list_any (is_into m.store r) stack ]) is
    by (inr among) = clear_by m stack (slot_at m s) (closed_into m (slot_at m s)) refl among

-- a clear leaves at most one place that leads into each closed region

cond_cons : (test : Val → Truth) (v : Val) (vs : List Val) → count_by test (v ∷ vs) ≡ cond (test v) 1 0 + count_by test vs
cond_cons test v vs = sum_by-cons (λ x. cond (test x) 1 0) v vs

nil_into : (store : List Seen) (r : ℕ) → ◌≡◌ {A = ℕ} (cond (is_into store r val.Nil) 1 0) 0
nil_into store r = refl

count_cleared : (store : List Seen) (r : ℕ) (slots : List Val) (s : ℕ)
    → count_by (is_into store r) (slice_set slots s val.Nil) ≤ count_by (is_into store r) slots
count_cleared store r [] s = omega arith
count_cleared store r (v ∷ vs) zero =
    let a = cond_cons (is_into store r) val.Nil vs in
    let b = cond_cons (is_into store r) v vs in
    let c = nil_into store r in
    omega (arith, a, b, c)
count_cleared store r (v ∷ vs) (suc s) =
    let a = cond_cons (is_into store r) v (slice_set vs s val.Nil) in
    let b = cond_cons (is_into store r) v vs in
    let less = count_cleared store r vs s in
    omega (arith, a, b, less)

slots_cleared : (store : List Seen) (r : ℕ) (f : Frame) (fs : List Frame) (s : ℕ)
    → slots_into store r (record f { slots = slice_set f.slots s val.Nil } ∷ fs) ≤ slots_into store r (f ∷ fs)
slots_cleared store r f fs s =
    let a = sum_by-cons (λ (f : Frame). count_by (is_into store r) f.slots) (record f { slots = slice_set f.slots s val.Nil }) fs in
    let b = sum_by-cons (λ (f : Frame). count_by (is_into store r) f.slots) f fs in
    let less = count_cleared store r f.slots s in
    omega (arith, a, b, less)

fewer_by : (shut : Truth) (n k : ℕ) → n ≤ k → (shut || nat_le k 1) ≡ true → (shut || nat_le n 1) ≡ true
fewer_by true n k less h = refl
fewer_by false n k less h = le-leb n 1 (let most = leb-true k 1 h in omega (arith, less, most))

pub below_by : (n : ℕ) (a b : ℕ → Truth) → ((k : ℕ) → a k ≡ true → b k ≡ true) → all_below n a ≡ true → all_below n b ≡ true
below_by zero a b h e = refl
below_by (suc n) a b h e = and_from (b n) (all_below n b) (h n (and-left (a n) (all_below n a) e))
    (below_by n a b h (and-right (a n) (all_below n a) e))

pub once-cleared : (m : Machine) (f : Frame) (fs : List Frame) (s : ℕ) → owned_once (record m { frames = f ∷ fs }) ≡ true
    → owned_once (record m { frames = record f { slots = slice_set f.slots s val.Nil } ∷ fs }) ≡ true
once-cleared m f fs s h = below_by (length m.managers)
    (λ r. is_open m.windows r || nat_le (places_into (record m { frames = f ∷ fs }) r) 1)
    (λ r. is_open m.windows r || nat_le (places_into (record m { frames = record f { slots = slice_set f.slots s val.Nil } ∷ fs }) r) 1)
    (λ r e. fewer_by (is_open m.windows r) (places_into (record m { frames = record f { slots = slice_set f.slots s val.Nil } ∷ fs }) r)
    (places_into (record m { frames = f ∷ fs }) r) (let less = slots_cleared m.store r f fs s in omega (arith, less)) e) h

-- a slot behind a clear of another
pub cleared-at : (slots : List Val) (u k : ℕ) → (unwrap_or (slice_get (slice_set slots u val.Nil) k) val.Nil ≡ val.Nil)
    ⊎ (unwrap_or (slice_get (slice_set slots u val.Nil) k) val.Nil ≡ unwrap_or (slice_get slots k) val.Nil)
cleared-at [] u k = inr refl
cleared-at (s ∷ ss) zero zero = inl refl
cleared-at (s ∷ ss) zero (suc k) = inr refl
cleared-at (s ∷ ss) (suc u) zero = inr refl
cleared-at (s ∷ ss) (suc u) (suc k) = cleared-at ss u k

-- slots are nil, or their values are on the stack
abbrev pub AllOnStack : List ℕ → (slots stack : List Val) → Type 0
AllOnStack [] slots stack = Unit {0}
AllOnStack (u ∷ us) slots stack = ((unwrap_or (slice_get slots u) val.Nil ≡ val.Nil) ⊎ AmongValues (unwrap_or (slice_get slots u) val.Nil) stack)
    × AllOnStack us slots stack

pub all-cleared : (us : List ℕ) (u : ℕ) (slots stack : List Val) → AllOnStack us slots stack → AllOnStack us (slice_set slots u val.Nil) stack
all-cleared [] u slots stack h = tt
all-cleared (k ∷ ks) u slots stack h = (by (cleared-at slots u k) h.0, all-cleared ks u slots stack h.1)
  where
    by : {now old : Val} → (now ≡ val.Nil) ⊎ (now ≡ old) → (old ≡ val.Nil) ⊎ AmongValues old stack → (now ≡ val.Nil) ⊎ AmongValues now stack
    by (inl is) g = inl is
    by (inr is) (inl nil) = inl (is ∙ nil)
    by (inr is) (inr among) = inr (subst (λ v. AmongValues v stack) (sym is) among)
