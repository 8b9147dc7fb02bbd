use Rattle.std.proofs.Common.{◌≡◌, ℕ, ◌&&◌, not, nat_lt, if◌then◌else◌}
use Rattle.rg_rules.specs.Environment.{gone}
use Rattle.rg_flow.specs.Flows.{state_of}
use Rattle.rg_flow.proofs.env.states.forget.Given as goal

abbrev pub invariant-loop-k : goal.invariant-loop-k
invariant-loop-k l = (w : ℕ) → state_of l.flow w ≡ (if not (nat_lt w l.from) && nat_lt w l.k then gone else state_of l.fn.flow w)
