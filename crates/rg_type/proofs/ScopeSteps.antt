-- The variables that are kept in place, as the rules see them: closed, restored, joined, marked.
use Rattle.std.proofs.Common.{◌≡◌, refl, sym, ap, ◌∙◌, ℕ, zero, suc, ◌+◌, ◌≤◌, Bool, true, false, ◌&&◌, ◌||◌, not, IsTrue, List, [], ◌∷◌, length}
use Rattle.std.proofs.Common.{take, map, All, arith}
use Rattle.std.proofs.lemmas.List.{length-map, length-take-le, take-map}
use Rattle.std.proofs.lemmas.List.Elements.{All-cons, All-head, All-tail, All-take}
use Rattle.std.proofs.lemmas.Bool.{and_from}
use Rattle.rg_tree.specs.Rows.Tables.{Tables}
use Rattle.rg_rules.specs.Environment.{Readiness, is_ready, Entry, closed, joined_readiness, joined_entries}
use Rattle.rg_rules.specs.Environment.{joined, covers_entries, covers}
use Rattle.rg_flow.specs.declared.flow.Flow.{Flow}
use Rattle.rg_flow.specs.Flows.{state_of}
use Rattle.rg_flow.specs.Scope.{Slot, Scope, closed_at, env_of, entry_of, IsSlotIn}
use Rattle.rg_flow.specs.States.{state_at, AreStatesOf, restated_from, restated, joined_from, joined_with, CoversStates, IsReadable}
use Rattle.rg_type.proofs.Alike.{Begin}

-- a block's own variables are gone
pub env_of-closed : (t : Tables) (d n : ℕ) (front out : Scope) → d ≡ front.depth → n ≡ length front.slots →
    env_of t (closed_at d n out) ≡ closed (env_of t front) (env_of t out)
env_of-closed t d n front out e l =
    rw (e, l, length-map front.slots (entry_of t), take-map (entry_of t) (length front.slots) out.slots) refl

pub length-closed_at : (d n : ℕ) (out : Scope) → n ≤ length out.slots → length (closed_at d n out).slots ≡ n
length-closed_at d n out l = length-take-le n out.slots l

pub IsReadable-closed_at : (t : Tables) (d n : ℕ) (out : Scope) → IsReadable t out → IsReadable t (closed_at d n out)
IsReadable-closed_at t d n out h = record { names = h.names; slots = All-take (IsSlotIn t) n out.slots h.slots }

-- the variables come first in front of a block and here
abbrev pub BeginSlots : Tables → (old new : List Slot) → Type 0
BeginSlots t old new = Begin (map (entry_of t) old) (map (entry_of t) new)

pub Begin-sym : (a b : List Entry) → length b ≡ length a → Begin a b → Begin b a
Begin-sym [] [] l h = tt
Begin-sym [] (y ∷ b) l h = absurd (omega arith)
Begin-sym (x ∷ a) [] l h = absurd h
Begin-sym (x ∷ a) (y ∷ b) l h = (sym h.0, Begin-sym a b (omega arith) h.1)

-- an entry in a state
abbrev in_state : Readiness → Entry → Entry
in_state r e = record e { readiness = r }

slot_in-IsSlotIn : (t : Tables) (s : Slot) (r : Readiness) → IsSlotIn t s → IsSlotIn t (record s { readiness = r })
slot_in-IsSlotIn t s r h = record { name = h.name; ty = h.ty }

shift : (k j : ℕ) → suc k + j ≡ k + suc j
shift k j = omega arith

-- the states of a list from a place on
abbrev StatesFrom : Flow → ℕ → List Slot → Type 0
StatesFrom flow k slots = (j : ℕ) → state_of flow (k + j) ≡ state_at slots j

StatesFrom-tail : (flow : Flow) (k : ℕ) (s : Slot) (ss : List Slot) → StatesFrom flow k (s ∷ ss) → StatesFrom flow (suc k) ss
StatesFrom-tail flow k s ss h j = rw (shift k j) (h (suc j))

StatesFrom-head : (flow : Flow) (k : ℕ) (s : Slot) (ss : List Slot) → StatesFrom flow k (s ∷ ss) → state_of flow k ≡ s.readiness
StatesFrom-head flow k s ss h = let e : k + 0 ≡ k = omega arith in rw e at (h 0)

restated_from-alike : (t : Tables) (flow : Flow) (k : ℕ) (front here : List Slot) → length here ≡ length front →
    BeginSlots t front here → StatesFrom flow k front → map (entry_of t) (restated_from flow k here) ≡ map (entry_of t) front
restated_from-alike t flow k [] [] l b h = refl
restated_from-alike t flow k [] (o ∷ os) l b h = absurd (omega arith)
restated_from-alike t flow k (s ∷ ss) [] l b h = absurd b
restated_from-alike t flow k (s ∷ ss) (o ∷ os) l b h =
    let r = StatesFrom-head flow k s ss h in
    let e : in_state (state_of flow k) (entry_of t o) ≡ in_state (state_of flow k) (entry_of t s) = ap (in_state (state_of flow k)) b.0 in
    let f : in_state (state_of flow k) (entry_of t s) ≡ entry_of t s = rw r refl in
    let i = restated_from-alike t flow (suc k) ss os (omega arith) b.1 (StatesFrom-tail flow k s ss h) in
    cc

from_first : (flow : Flow) (slots : List Slot) → AreStatesOf flow slots → StatesFrom flow 0 slots
from_first flow slots h j = let e : 0 + j ≡ j = omega arith in rw e (h j)

-- the same variables with the states that they had in front
pub env_of-restated : (t : Tables) (flow : Flow) (front here : Scope) → here.depth ≡ front.depth → length here.slots ≡ length front.slots →
    BeginSlots t front.slots here.slots → AreStatesOf flow front.slots → env_of t (restated flow here) ≡ env_of t front
env_of-restated t flow front here d l b h =
    let e = restated_from-alike t flow 0 front.slots here.slots l b (from_first flow front.slots h) in rw (d, e) refl

pub length-restated_from : (flow : Flow) (k : ℕ) (ss : List Slot) → length (restated_from flow k ss) ≡ length ss
length-restated_from flow k [] = refl
length-restated_from flow k (s ∷ ss) = let e = length-restated_from flow (suc k) ss in omega arith

restated_from-within : (t : Tables) (flow : Flow) (k : ℕ) (ss : List Slot) → All (IsSlotIn t) ss → All (IsSlotIn t) (restated_from flow k ss)
restated_from-within t flow k [] h = h
restated_from-within t flow k (s ∷ ss) h =
    All-cons (IsSlotIn t) (record s { readiness = state_of flow k }) (restated_from flow (suc k) ss)
    (slot_in-IsSlotIn t s (state_of flow k) (All-head (IsSlotIn t) s ss h))
    (restated_from-within t flow (suc k) ss (All-tail (IsSlotIn t) s ss h))

pub IsReadable-restated : (t : Tables) (flow : Flow) (scope : Scope) → IsReadable t scope → IsReadable t (restated flow scope)
IsReadable-restated t flow scope h = record { names = h.names; slots = restated_from-within t flow 0 scope.slots h.slots }

joined_from-within : (t : Tables) (flow : Flow) (k : ℕ) (ss : List Slot) → All (IsSlotIn t) ss → All (IsSlotIn t) (joined_from flow k ss)
joined_from-within t flow k [] h = h
joined_from-within t flow k (s ∷ ss) h =
    All-cons (IsSlotIn t) (record s { readiness = joined_readiness (state_of flow k) s.readiness }) (joined_from flow (suc k) ss)
    (slot_in-IsSlotIn t s (joined_readiness (state_of flow k) s.readiness) (All-head (IsSlotIn t) s ss h))
    (joined_from-within t flow (suc k) ss (All-tail (IsSlotIn t) s ss h))

pub IsReadable-joined_with : (t : Tables) (flow : Flow) (scope : Scope) → IsReadable t scope → IsReadable t (joined_with flow scope)
IsReadable-joined_with t flow scope h = record { names = h.names; slots = joined_from-within t flow 0 scope.slots h.slots }

joined_from-alike : (t : Tables) (flow : Flow) (k : ℕ) (first here : List Slot) → length here ≡ length first →
    BeginSlots t first here → StatesFrom flow k first →
    map (entry_of t) (joined_from flow k here) ≡ joined_entries (map (entry_of t) first) (map (entry_of t) here)
joined_from-alike t flow k [] [] l b h = refl
joined_from-alike t flow k [] (o ∷ os) l b h = absurd (omega arith)
joined_from-alike t flow k (s ∷ ss) [] l b h = absurd b
joined_from-alike t flow k (s ∷ ss) (o ∷ os) l b h =
    let r = StatesFrom-head flow k s ss h in
    let e = ap (in_state (joined_readiness (state_of flow k) o.readiness)) b.0 in
    let f : in_state (joined_readiness (state_of flow k) o.readiness) (entry_of t s)
    ≡ in_state (joined_readiness s.readiness o.readiness) (entry_of t s) = rw r refl in
    let i = joined_from-alike t flow (suc k) ss os (omega arith) b.1 (StatesFrom-tail flow k s ss h) in
    cc

-- the variables after one of two blocks, of which the first had those states
pub env_of-joined_with : (t : Tables) (flow : Flow) (first here : Scope) → here.depth ≡ first.depth → length here.slots ≡ length first.slots →
    BeginSlots t first.slots here.slots → AreStatesOf flow first.slots →
    env_of t (joined_with flow here) ≡ joined (env_of t first) (env_of t here)
env_of-joined_with t flow first here d l b h =
    let e = joined_from-alike t flow 0 first.slots here.slots l b (from_first flow first.slots h) in rw (d, e) refl

-- each variable that is ready at the head is ready here, by places
abbrev CoversAt : (head out : List Slot) → Type 0
CoversAt head out = (k : ℕ) → IsTrue (is_ready (state_at head k)) → IsTrue (is_ready (state_at out k))

unready : (b : Bool) → (IsTrue b → ⊥) → not b ≡ true
unready true h = absurd (h refl)
unready false h = refl

implied : (a b : Bool) → (IsTrue a → IsTrue b) → not a || b ≡ true
implied true b h = h refl
implied false b h = refl

both-first : (a b : Bool) → a && b ≡ true → a ≡ true
both-first true b h = refl
both-first false b h = cc

both-second : (a b : Bool) → a && b ≡ true → b ≡ true
both-second true b h = h
both-second false b h = cc

implied-then : (a b : Bool) → not a || b ≡ true → IsTrue a → IsTrue b
implied-then true b h k = h
implied-then false b h k = cc

not-then : (a : Bool) → not a ≡ true → IsTrue a → ⊥
not-then true h k = cc
not-then false h k = cc

covers_entries-true : (t : Tables) (head out : List Slot) → CoversAt head out → covers_entries (map (entry_of t) head) (map (entry_of t) out) ≡ true
covers_entries-true t [] out h = refl
covers_entries-true t (s ∷ ss) [] h =
    and_from (not (is_ready s.readiness)) _ (unready (is_ready s.readiness) (λ r. let f : IsTrue false = h 0 r in cc))
    (covers_entries-true t ss [] (λ k r. h (suc k) r))
covers_entries-true t (s ∷ ss) (o ∷ os) h =
    and_from (not (is_ready s.readiness) || is_ready o.readiness) _ (implied (is_ready s.readiness) (is_ready o.readiness) (h 0))
    (covers_entries-true t ss os (λ k r. h (suc k) r))

covers_entries-covers : (t : Tables) (head out : List Slot) → covers_entries (map (entry_of t) head) (map (entry_of t) out) ≡ true → CoversAt head out
covers_entries-covers t [] out h k r = let f : IsTrue false = r in cc
covers_entries-covers t (s ∷ ss) [] h zero r =
    absurd (not-then (is_ready s.readiness) (both-first (not (is_ready s.readiness)) _ h) r)
covers_entries-covers t (s ∷ ss) [] h (suc k) r =
    covers_entries-covers t ss [] (both-second (not (is_ready s.readiness)) _ h) k r
covers_entries-covers t (s ∷ ss) (o ∷ os) h zero r =
    implied-then (is_ready s.readiness) (is_ready o.readiness) (both-first (not (is_ready s.readiness) || is_ready o.readiness) _ h) r
covers_entries-covers t (s ∷ ss) (o ∷ os) h (suc k) r =
    covers_entries-covers t ss os (both-second (not (is_ready s.readiness) || is_ready o.readiness) _ h) k r

covers_entries-take : (head out : List Entry) → covers_entries head (take (length head) out) ≡ covers_entries head out
covers_entries-take [] out = refl
covers_entries-take (e ∷ es) [] = refl
covers_entries-take (e ∷ es) (o ∷ os) = ap (λ b. (not (is_ready e.readiness) || is_ready o.readiness) && b) (covers_entries-take es os)

covers-closed : (t : Tables) (d n : ℕ) (head out : Scope) → n ≡ length head.slots →
    covers (env_of t head) (env_of t (closed_at d n out)) ≡ covers (env_of t head) (env_of t out)
covers-closed t d n head out l =
    let e : map (entry_of t) (take n out.slots) ≡ take (length (map (entry_of t) head.slots)) (map (entry_of t) out.slots) =
    rw (l, length-map head.slots (entry_of t), take-map (entry_of t) (length head.slots) out.slots) refl in
    rw e (covers_entries-take (map (entry_of t) head.slots) (map (entry_of t) out.slots))

-- the end of a loop's body covers the head, by the states that were kept of the head
pub covers-true : (t : Tables) (flow : Flow) (d n : ℕ) (head out : Scope) → n ≡ length head.slots → AreStatesOf flow head.slots →
    CoversStates flow (closed_at d n out).slots → covers (env_of t head) (env_of t out) ≡ true
covers-true t flow d n head out l s h =
    sym (covers-closed t d n head out l) ∙ covers_entries-true t head.slots (take n out.slots) (λ k r. h k (rw (s k) r))

pub covers-states : (t : Tables) (flow : Flow) (d n : ℕ) (head out : Scope) → n ≡ length head.slots → AreStatesOf flow head.slots →
    covers (env_of t head) (env_of t out) ≡ true → CoversStates flow (closed_at d n out).slots
covers-states t flow d n head out l s h k r =
    covers_entries-covers t head.slots (take n out.slots) (covers-closed t d n head out l ∙ h) k (rw (s k) at r)
