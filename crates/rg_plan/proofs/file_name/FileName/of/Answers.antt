use Rattle.rg_plan.proofs.Visible.{file_name-text}
use Rattle.rg_plan.proofs.file_name.FileName.of.Goals as goal

pub unreachable-requires : goal.unreachable-requires
unreachable-requires c = c.in_default.ensures.cases.0 (file_name-text c.args.bytes.now c.requires)
