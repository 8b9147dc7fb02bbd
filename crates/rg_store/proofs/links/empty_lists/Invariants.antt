use Rattle.std.proofs.Common.{◌≡◌, ℕ, [], length}
use Rattle.rg_store.specs.Links.{listed}
use Rattle.rg_store.proofs.links.empty_lists.Given as goal

abbrev pub invariant-loop-list : goal.invariant-loop-list
invariant-loop-list l = record { count : length l.lists.items ≡ l._list; empty : (r : ℕ) → listed l.lists.items r ≡ [] }
