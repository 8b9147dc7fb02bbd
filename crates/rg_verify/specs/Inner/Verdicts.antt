-- What the parts of the verifier answer (docs/architecture.md, "Modules").
use Rattle.std.specs.Prelude.{◌≡◌, Result, Ok, Err}
use Rattle.rg_tree.specs.Rows.Tables.{Tables}
use Rattle.rg_tree.specs.Rows.RowTrees.{program_of}
use Rattle.rg_rules.specs.Acceptance.{Accepted}
use Rattle.rg_check.specs.Checked.{Checked}
use Rattle.rg_limits.specs.Limits.{IsWithinLimits}
use Rattle.rg_module.specs.Parts.{Parts}
use Rattle.rg_raised.specs.Raises.{Raises}
use Rattle.rg_verify_expressions.specs.declared.refusal.Refusal.{Refusal}
use Rattle.rg_verify_expressions.specs.declared.refusal.Refusal.TheVariants as refusal
use Rattle.rg_verify.specs.Verdict.{NoneRaises}

-- a program that was accepted, and is within the limits
pub record IsAllowed (p : Tables) (a : Checked) : Type 0 where
  pub program : a.program ≡ p
  pub accepted : Accepted (program_of p)
  pub within : IsWithinLimits (program_of p)

-- the answer is the program, which is such a one; or it isn't one
abbrev pub AllowsAs : Tables → Result Checked Refusal → Type 0
AllowsAs p (Ok a) = IsAllowed p a
AllowsAs p (Err refusal.NotRaised) = Accepted (program_of p) → IsWithinLimits (program_of p) → ⊥
AllowsAs p (Err refusal.Memory) = Unit {0}

-- the answer is a program that raises the module; or none does
abbrev pub RaisesAs : Parts → Result Checked Refusal → Type 0
RaisesAs m (Ok a) = Raises m (program_of a.program)
RaisesAs m (Err refusal.NotRaised) = NoneRaises m
RaisesAs m (Err refusal.Memory) = Unit {0}
