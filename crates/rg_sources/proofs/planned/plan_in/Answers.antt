use Rattle.std.proofs.Common.{◌∙◌, ap, Err}
use Rattle.rg_base.specs.declared.limits.TheConstants.{SOURCE_BYTES}
use Rattle.rg_sources.proofs.Read.{long-file}
use Rattle.rg_sources.proofs.planned.plan_in.Goals as goal

pub returns-in-Err-Long-clause-brings : goal.returns-in-Err-Long-clause-brings
returns-in-Err-Long-clause-brings g c =
    long-file (g.F.Files.told c.args.files.now) c.args.name.now SOURCE_BYTES
    (c.take_all.ensures.long (c.in-Err-Long.is ∙ ap Err c.in-Err-Long.field-0-is))
