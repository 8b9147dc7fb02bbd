use Rattle.std.proofs.Common.{◌≡◌, ◌≤◌, ◌+◌, length, subst}
use Rattle.rg_frames.specs.Changes.{ended}
use Rattle.rg_machine.specs.Effects.{ending}
use Rattle.rg_machine.specs.Parts.{Parts}
use Rattle.rg_machine.specs.Cores.{core_of}
use Rattle.rg_machine.specs.contracts.machine.Machine.{the_view}
use Rattle.rg_machine.proofs.End.Nil.{ending-live}
use Rattle.rg_machine.proofs.machine.Machine.end_from.Goals as goal

pub returns-then-live-s-clause-ended : goal.returns-then-live-s-clause-ended
returns-then-live-s-clause-ended c =
    subst (λ p. core_of p ≡ ending (core_of p) c.args.s) c.self.view_is
    (ending-live (the_view c.self.inside) c.is_forest.ensures.serials c.is_forest.ensures.forest c.self.invariant.0 c.live-live.result c.args.s
    c.live-live.ensures.nil c.if-live-s.true)

pub end_written-requires-clause-nil : goal.end_written-requires-clause-nil
end_written-requires-clause-nil c = subst (λ (p : Parts). ended p.frames c.live-live.result ≡ p.frames) c.self.view_is c.live-live.ensures.nil

pub end_written-requires-clause-within : goal.end_written-requires-clause-within
end_written-requires-clause-within c =
    subst (λ (p : Parts). p.frames.first + c.live-live.result ≤ length p.frames.slots) c.self.view_is c.live-live.ensures.within
