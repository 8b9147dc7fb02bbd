use Rattle.std.proofs.Common.{◌≡◌, ◌∙◌, ap, subst, sym}
use Rattle.rg_machine.specs.Effects.{emptied, ending}
use Rattle.rg_machine.specs.Cores.{core_of}
use Rattle.rg_machine.specs.contracts.machine.Machine.{the_view}
use Rattle.rg_machine.proofs.End.Nil.{backs-ending, ended-core, stands-emptied}
use Rattle.rg_machine.proofs.machine.Machine.end_owning.Goals as goal

pub invariant_of-self : goal.invariant_of-self
invariant_of-self c =
    stands-emptied (the_view c.self.inside) c.end_words.new.self c.args.s c.end_words.ensures c.self.invariant.0 c.self.invariant.1

pub returns-clause-ended : goal.returns-clause-ended
returns-clause-ended c =
    let p = the_view c.self.inside in
    ap (λ v. core_of (record p { frames = v })) c.end_words.ensures
    ∙ ended-core p c.args.s
    ∙ subst (λ p. emptied (core_of p) c.args.s ≡ ending (core_of c.args.self.now) c.args.s) (sym c.self.view_is) c.release_from.ensures.ended

pub returns-clause-backs : goal.returns-clause-backs
returns-clause-backs c =
    let p = the_view c.self.inside in
    backs-ending (core_of c.args.self.now) (core_of (record p { frames = c.end_words.new.self })) c.args.s
    (ap (λ v. core_of (record p { frames = v })) c.end_words.ensures
    ∙ ended-core p c.args.s
    ∙ subst (λ p. emptied (core_of p) c.args.s ≡ ending (core_of c.args.self.now) c.args.s) (sym c.self.view_is)
    c.release_from.ensures.ended)
