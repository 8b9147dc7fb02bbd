-- The queues of cowns: in that of each stand the behaviours over it, in the order of their numbers (docs/architecture.md, "Plans").
use Rattle.std.specs.Prelude.{◌≡◌, ℕ, suc, ◌==◌, Bool as Truth, if◌then◌else◌, List, [], ◌∷◌, length, take, filter_map, Option, Some, None}
use Rattle.std.specs.Prelude.{slice_get, slice_index_or}
use Rattle.std.specs.List.{list_any}
use Rattle.std.specs.Option.{option_or}

-- whether a cown is among some
abbrev pub names : (cowns : List ℕ) → (cown : ℕ) → Truth
names ns n = list_any (λ m. m == n) ns

-- the last in a cown's queue, if there is one: the cowns of each behaviour are given, from the one of a number on
abbrev pub last_from : (number : ℕ) → (all : List (List ℕ)) → (cown : ℕ) → Option ℕ
last_from i [] n = None
last_from i (ns ∷ all) n = option_or (last_from (suc i) all n) (if names ns n then Some i else None)

abbrev pub last_over : (all : List (List ℕ)) → (cown : ℕ) → Option ℕ
last_over all n = last_from 0 all n

-- which stand right in front of a behaviour over these cowns that comes behind some: for each of the cowns the last in its queue, if there is one
abbrev pub right_in_front : (before : List (List ℕ)) → (cowns : List ℕ) → List ℕ
right_in_front before ns = filter_map (last_over before) ns

-- what contracts see of queues: of each behaviour which stand right in front of it, and of each cown the last in its queue
pub record QueuesIn : Type 0 where
  pub in_front : List (List ℕ)
  pub last : List (Option ℕ)

-- they are the queues of behaviours over these cowns
pub record AreQueues (all : List (List ℕ)) (q : QueuesIn) : Type 0 where
  pub many : length q.in_front ≡ length all
  pub in_front : (i : ℕ) (ns : List ℕ) → slice_get all i ≡ Some ns → slice_get q.in_front i ≡ Some (right_in_front (take i all) ns)
  pub last : (n : ℕ) → slice_index_or q.last n None ≡ last_over all n
