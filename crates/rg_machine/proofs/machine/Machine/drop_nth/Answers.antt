use Rattle.std.proofs.Common.{◌≡◌, ◌<◌, length, true, subst, sym}
use Rattle.rg_stack.specs.Machine.{top_slots}
use Rattle.rg_stack.specs.Needs.{owned_once}
use Rattle.rg_machine.specs.Effects.{AllLoose}
use Rattle.rg_machine.specs.Keeps.{backs}
use Rattle.rg_machine.specs.Parts.{machine_in}
use Rattle.rg_machine.specs.Cores.{core_of}
use Rattle.rg_machine.specs.contracts.machine.Machine.{the_view}
use Rattle.rg_machine.proofs.End.Nil.{asked-taken, backs-taken, gone-taken, in-top, next-core, stands-taken}
use Rattle.rg_machine.proofs.machine.Machine.drop_nth.Goals as goal

pub nth_word-w-requires : goal.nth_word-w-requires
nth_word-w-requires c =
    in-top (the_view c.self.inside) c.self.invariant.0 c.args.k
    (subst (λ p. c.args.k < length (top_slots (machine_in p).frames)) (sym c.self.view_is) c.requires.there)

pub clear_word-requires : goal.clear_word-requires
clear_word-requires c =
    in-top (the_view c.self.inside) c.self.invariant.0 c.args.k
    (subst (λ p. c.args.k < length (top_slots (machine_in p).frames)) (sym c.self.view_is) c.requires.there)

pub invariant_of-self : goal.invariant_of-self
invariant_of-self c =
    stands-taken (the_view c.self.inside) c.clear_word.new.self c.args.k c.clear_word.ensures c.self.invariant.0 c.self.invariant.1

pub release-requires : goal.release-requires
release-requires c =
    let a = asked-taken (the_view c.self.inside) c.is_forest.ensures.serials c.is_forest.ensures.forest c.self.invariant.0 c.args.k
    c.nth_word-w.result c.nth_word-w.ensures (subst (λ p. owned_once (machine_in p) ≡ true) (sym c.self.view_is) c.requires.once)
    (subst (λ p. AllLoose (core_of p)) (sym c.self.view_is) c.requires.stack) c.clear_word.new.self c.clear_word.ensures in
    record { leads = a.leads; once = a.once; loose = a.free; stack = a.apart }

pub returns-clause-gone : goal.returns-clause-gone
returns-clause-gone c =
    subst (λ p. core_of c.release.new.self ≡ next-core (core_of p) c.args.k) c.self.view_is
    (gone-taken (the_view c.self.inside) c.is_forest.ensures.serials c.is_forest.ensures.forest c.self.invariant.0 c.args.k c.nth_word-w.result
    c.nth_word-w.ensures (subst (λ p. owned_once (machine_in p) ≡ true) (sym c.self.view_is) c.requires.once)
    (subst (λ p. AllLoose (core_of p)) (sym c.self.view_is) c.requires.stack) c.clear_word.new.self c.clear_word.ensures c.release.new.self
    c.release.ensures.gone)

pub returns-clause-backs : goal.returns-clause-backs
returns-clause-backs c =
    subst (λ p. backs (machine_in c.release.new.self).frames ≡ backs (machine_in p).frames) c.self.view_is
    (backs-taken (the_view c.self.inside) c.is_forest.ensures.serials c.is_forest.ensures.forest c.self.invariant.0 c.args.k c.nth_word-w.result
    c.nth_word-w.ensures (subst (λ p. owned_once (machine_in p) ≡ true) (sym c.self.view_is) c.requires.once)
    (subst (λ p. AllLoose (core_of p)) (sym c.self.view_is) c.requires.stack) c.clear_word.new.self c.clear_word.ensures c.release.new.self
    c.release.ensures.gone)
