use Rattle.std.proofs.Common.{◌<◌, ◌^◌, length, sym, subst}
use Rattle.rg_code.specs.Code.{Code}
use Rattle.rg_module.proofs.Counts.{few-openings, few-entries}
use Rattle.rg_compare.proofs.whole.same.Goals as goal

pub same_code-requires-clause-classes : goal.same_code-requires-clause-classes
same_code-requires-clause-classes c =
    subst (λ (d : Code). length d.openings < 2 ^ 32) (sym c.code.ensures) (few-openings c.args.one.now c.requires)

pub same_code-requires-clause-methods : goal.same_code-requires-clause-methods
same_code-requires-clause-methods c =
    subst (λ (d : Code). length d.entries < 2 ^ 32) (sym c.code.ensures) (few-entries c.args.one.now c.requires)
