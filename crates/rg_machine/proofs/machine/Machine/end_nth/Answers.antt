use Rattle.std.proofs.Common.{◌≡◌, ◌<◌, ◌+◌, length, subst, sym}
use Rattle.rg_base.specs.declared.value.Word.TheVariants.{Nil}
use Rattle.rg_frames.specs.Changes.{with_slot}
use Rattle.rg_stack.specs.Machine.{top_slots}
use Rattle.rg_machine.specs.Parts.{Parts, machine_in}
use Rattle.rg_machine.specs.Cores.{core_of}
use Rattle.rg_machine.specs.contracts.machine.Machine.{the_view}
use Rattle.rg_machine.proofs.End.Nil.{in-top, next-core, nil-home, slot-leads, stands-taken}
use Rattle.rg_machine.proofs.machine.Machine.end_nth.Goals as goal

pub nth_word-w-requires : goal.nth_word-w-requires
nth_word-w-requires c =
    in-top (the_view c.self.inside) c.self.invariant.0 c.args.k
    (subst (λ p. c.args.k < length (top_slots (machine_in p).frames)) (sym c.self.view_is) c.requires.there)

pub is_at_home-requires : goal.is_at_home-requires
is_at_home-requires c =
    let p = the_view c.self.inside in
    (slot-leads p c.is_forest.ensures.serials c.is_forest.ensures.forest c.self.invariant.0 (p.frames.first + c.args.k) c.nth_word-w.result
    c.nth_word-w.ensures).held

pub take_word-requires : goal.take_word-requires
take_word-requires c =
    in-top (the_view c.self.inside) c.self.invariant.0 c.args.k
    (subst (λ p. c.args.k < length (top_slots (machine_in p).frames)) (sym c.self.view_is) c.requires.there)

pub invariant_of-self : goal.invariant_of-self
invariant_of-self c =
    stands-taken (the_view c.self.inside) c.take_word.new.self c.args.k c.take_word.ensures.nil c.self.invariant.0 c.self.invariant.1

pub returns-then-is_at_home-clause-gone : goal.returns-then-is_at_home-clause-gone
returns-then-is_at_home-clause-gone c = λ t.
    let p = the_view c.self.inside in
    subst (λ (p : Parts). core_of (record (the_view c.self.inside) { frames = c.take_word.new.self }) ≡ next-core (core_of p) c.args.k) c.self.view_is
    (nil-home p c.is_forest.ensures.serials c.is_forest.ensures.forest c.self.invariant.0 c.args.k c.nth_word-w.result
    c.nth_word-w.ensures (c.is_at_home.ensures c.if-is_at_home.true) c.take_word.new.self c.take_word.ensures.nil)

pub returns-then-is_at_home-clause-nil : goal.returns-then-is_at_home-clause-nil
returns-then-is_at_home-clause-nil c = λ t.
    subst (λ (p : Parts). c.take_word.new.self ≡ with_slot p.frames c.args.k Nil) c.self.view_is c.take_word.ensures.nil
