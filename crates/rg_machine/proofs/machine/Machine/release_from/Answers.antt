use Rattle.std.proofs.Common.{◌≡◌, ◌-◌, suc, true, subst, sym, arith}
use Rattle.rg_stack.specs.Needs.{owned_once}
use Rattle.rg_machine.specs.Effects.{AllLoose, emptied, ending}
use Rattle.rg_machine.specs.Parts.{machine_in}
use Rattle.rg_machine.specs.Cores.{core_of}
use Rattle.rg_machine.specs.contracts.machine.Machine.{the_view}
use Rattle.rg_machine.proofs.End.Emptied.{Ending, backs-emptied, emptied-live, ending-final, ending-init, ending-on, ending-there}
use Rattle.rg_machine.proofs.machine.Machine.release_from.Goals as goal

pub slots-init : goal.slots-init
slots-init c =
    let p = the_view c.self.inside in
    let once = subst (λ p. owned_once (machine_in p) ≡ true) (sym c.self.view_is) c.requires.once in
    let all = subst (λ p. AllLoose (core_of p)) (sym c.self.view_is) c.requires.stack in
    subst (λ p. Ending p p c.args.s c.live-left.result) c.self.view_is
    (ending-init p c.is_forest.ensures.serials c.is_forest.ensures.forest c.self.invariant.0 c.args.s c.live-left.result c.live-left.ensures.nil
    c.live-left.ensures.within (omega (arith, c.if-left-s.false)) once all)

pub release_nth-requires-clause-there : goal.release_nth-requires-clause-there
release_nth-requires-clause-there c = ending-there _ _ _ _ _ c.slots.invariant (omega (arith, c.slots-test.true))

pub slots-preserved : goal.slots-preserved
slots-preserved c =
    let is : c.slots.left ≡ suc (c.slots.left - 1) = omega (arith, c.slots-test.true) in
    ending-on _ _ c.release_nth.new.self _ _ _ c.slots.invariant (omega (arith, c.slots-test.true)) is c.release_nth.ensures.gone
    c.release_nth.ensures.once c.release_nth.ensures.stack c.release_nth.ensures.words c.release_nth.ensures.high

pub returns-clause-ended : goal.returns-clause-ended
returns-clause-ended c = ending-final c.args.self.now c.slots.self c.args.s c.slots.left c.slots.invariant c.slots-test.false

pub returns-clause-backs : goal.returns-clause-backs
returns-clause-backs c =
    backs-emptied (core_of c.args.self.now) (core_of c.slots.self) c.args.s
    (ending-final c.args.self.now c.slots.self c.args.s c.slots.left c.slots.invariant c.slots-test.false)

pub returns-then-left-s-clause-ended : goal.returns-then-left-s-clause-ended
returns-then-left-s-clause-ended c =
    subst (λ p. emptied (core_of p) c.args.s ≡ ending (core_of p) c.args.s) c.self.view_is
    (emptied-live (the_view c.self.inside) c.is_forest.ensures.serials c.is_forest.ensures.forest c.self.invariant.0 c.live-left.result c.args.s
    c.live-left.ensures.nil c.if-left-s.true)
