use Rattle.std.proofs.Common.{◌≡◌, ℕ, ◌&&◌, nat_lt, if◌then◌else◌}
use Rattle.rg_flow.specs.Flows.{state_of}
use Rattle.rg_flow.specs.States.{readiness_of}
use Rattle.rg_flow.specs.Inner.Layout.{names_at}
use Rattle.rg_flow.proofs.env.states.set_named.Given as goal

abbrev pub invariant-loop-k : goal.invariant-loop-k
invariant-loop-k l = (w : ℕ) → state_of l.flow w ≡ (if nat_lt w l.k && names_at l.name l.vars w then readiness_of l.now else state_of l.fn.flow w)
