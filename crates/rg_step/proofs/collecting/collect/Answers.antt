use Rattle.std.proofs.Common.{sym, subst}
use Rattle.rg_machine.proofs.Callers.Active.{on-there}
use Rattle.rg_step.specs.Collections.{CollectsTop, GathersBy}
use Rattle.rg_step.proofs.collecting.collect.Goals as goal

pub returns-then-slides-clause-gathers : goal.returns-then-slides-clause-gathers
returns-then-slides-clause-gathers g c =
    subst (λ b. GathersBy b c.args.p.now c.collect_sliding.new.self) (sym c.if-slides.true) c.collect_sliding.ensures.gathers

pub returns-then-slides-clause-told : goal.returns-then-slides-clause-told
returns-then-slides-clause-told g c =
    subst (λ b. CollectsTop b c.args.p.now c.collect_sliding.new.self c.collect_sliding.result) (sym c.if-slides.true)
    (on-there c.args.p.now _ c.is_sound.ensures.stands c.collect_sliding.ensures.told)

pub returns-clause-gathers : goal.returns-clause-gathers
returns-clause-gathers g c =
    subst (λ b. GathersBy b c.args.p.now c.collect.new.self) (sym c.if-slides.false) c.collect.ensures.gathers

pub returns-clause-told : goal.returns-clause-told
returns-clause-told g c =
    subst (λ b. CollectsTop b c.args.p.now c.collect.new.self c.collect.result) (sym c.if-slides.false)
    (on-there c.args.p.now _ c.is_sound.ensures.stands c.collect.ensures.told)
