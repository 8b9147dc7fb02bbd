-- What stays true of the counts on the way, whatever is read (docs/language.md, "Limits").
use Rattle.std.specs.Prelude.{◌+◌, ◌≤◌}
use Rattle.rg_base.specs.declared.limits.TheConstants.{BODY_NAMES, PARAMETERS}
use Rattle.rg_tree.specs.declared.counts.Counts.{Counts}

-- no more parameters than their limit, and beside them no more names of a body than theirs
pub record IsNear (c : Counts) : Type 0 where
  pub params : c.params ≤ PARAMETERS
  pub names : c.names ≤ BODY_NAMES + c.params
