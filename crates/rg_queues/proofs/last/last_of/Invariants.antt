use Rattle.std.proofs.Common.{◌≡◌, ◌++◌, None, drop, filter_map, get_or}
use Rattle.rg_queues.proofs.last.last_of.Given as goal

abbrev pub invariant-loop-n : goal.invariant-loop-n
invariant-loop-n l =
    l.found.items ++ filter_map (λ n. get_or l.last n None) (drop l.n-index l.cowns) ≡ filter_map (λ n. get_or l.last n None) l.cowns
