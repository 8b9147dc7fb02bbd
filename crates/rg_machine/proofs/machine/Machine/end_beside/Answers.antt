use Rattle.std.proofs.Common.{◌≡◌, ◌∙◌, ap, sym, subst}
use Rattle.rg_machine.specs.Cores.{core_of}
use Rattle.rg_machine.specs.Effects.{AllLoose, ending}
use Rattle.rg_machine.specs.Parts.{Parts}
use Rattle.rg_machine.proofs.Giving.Beside.{Beside, beside, beside-loose}
use Rattle.rg_machine.proofs.machine.Machine.end_beside.Goals as goal

pub end_from-requires-clause-stack : goal.end_from-requires-clause-stack
end_from-requires-clause-stack c =
    subst (λ (p : Parts). AllLoose (core_of p)) (sym c.in-Ok.ensures.ok) (beside-loose c.args.self.now c.args.w c.requires.stack c.requires.open)

known : (c : goal.After-pop) → Beside c.args.self.now c.pop.new.self c.args.s c.args.w
known c =
    beside c.args.self.now c.end_from.new.self c.pop.new.self c.args.s c.args.w c.pop.result
    (subst (λ (p : Parts). core_of c.end_from.new.self ≡ ending (core_of p) c.args.s) c.in-Ok.ensures.ok c.end_from.ensures.ended)
    (c.end_from.ensures.words ∙ ap (λ (p : Parts). p.words) c.in-Ok.ensures.ok)
    c.pop.ensures.some c.pop.ensures.core c.pop.ensures.leads c.pop.ensures.none

pub returns-clause-ended : goal.returns-clause-ended
returns-clause-ended c = (known c).core

pub returns-clause-leads : goal.returns-clause-leads
returns-clause-leads c = (known c).leads

pub returns-clause-value : goal.returns-clause-value
returns-clause-value c = (known c).value

pub returns-clause-words : goal.returns-clause-words
returns-clause-words c = (known c).words
