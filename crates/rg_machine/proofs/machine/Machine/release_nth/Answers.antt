use Rattle.std.proofs.Common.{◌≡◌, ◌<◌, ◌+◌, [], ◌∷◌, length, subst, sym}
use Rattle.rg_stack.specs.Machine.{slot_at, top_slots}
use Rattle.rg_machine.specs.Effects.{emptied, without}
use Rattle.rg_machine.specs.Parts.{Parts, machine_in}
use Rattle.rg_machine.specs.Cores.{core_of}
use Rattle.rg_machine.specs.contracts.machine.Machine.{the_view}
use Rattle.rg_machine.proofs.End.Emptied.{slot-dropped, slot-stays}
use Rattle.rg_machine.proofs.End.Nil.{in-top, loose-next, once-next, slot-leads}
use Rattle.rg_machine.proofs.machine.Machine.release_nth.Goals as goal

pub nth_word-w-requires : goal.nth_word-w-requires
nth_word-w-requires c =
    in-top (the_view c.self.inside) c.self.invariant.0 c.args.k
    (subst (λ p. c.args.k < length (top_slots (machine_in p).frames)) (sym c.self.view_is) c.requires.there)

pub is_at_home-requires : goal.is_at_home-requires
is_at_home-requires c =
    let p = the_view c.self.inside in
    (slot-leads p c.is_forest.ensures.serials c.is_forest.ensures.forest c.self.invariant.0 (p.frames.first + c.args.k) c.nth_word-w.result
    c.nth_word-w.ensures).held

pub returns-then-is_at_home-clause-gone : goal.returns-then-is_at_home-clause-gone
returns-then-is_at_home-clause-gone c =
    let P : Parts → Type 0 = λ p.
    emptied (core_of p) c.args.k ≡ without (emptied (core_of p) c.args.k) (slot_at (machine_in p) c.args.k ∷ []) in
    subst P c.self.view_is
    (slot-stays (the_view c.self.inside) c.is_forest.ensures.serials c.is_forest.ensures.forest c.self.invariant.0 c.args.k c.nth_word-w.result
    c.nth_word-w.ensures (c.is_at_home.ensures c.if-is_at_home.true))

pub returns-clause-gone : goal.returns-clause-gone
returns-clause-gone c =
    slot-dropped (core_of c.args.self.now) (core_of c.drop_nth.new.self) c.args.k c.drop_nth.ensures.gone

pub returns-clause-once : goal.returns-clause-once
returns-clause-once c =
    once-next (core_of c.args.self.now) (core_of c.drop_nth.new.self) c.args.k c.drop_nth.ensures.gone c.requires.once

pub returns-clause-stack : goal.returns-clause-stack
returns-clause-stack c =
    loose-next (core_of c.args.self.now) (core_of c.drop_nth.new.self) c.args.k c.drop_nth.ensures.gone c.requires.stack
