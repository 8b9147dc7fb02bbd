-- What contracts see of an accepted program (docs/language.md, "Acceptance").
use Rattle.rg_tree.specs.Rows.Tables.{Tables}
use Rattle.rg_tree.specs.Rows.RowTrees.{program_of}
use Rattle.rg_rules.specs.Names.{FewNames}
use Rattle.rg_rules.specs.Acceptance as rules
use Rattle.rg_names.specs.Table.{Table}
use Rattle.rg_names.specs.TableOf.{IsTableOf}

-- a program with its class table
pub record Checked : Type 0 where
  pub program : Tables
  pub classes : Table

-- the program is accepted, and the table is its own
pub record IsChecked (c : Checked) : Type 0 where
  pub table : IsTableOf c.program c.classes
  pub accepted : rules.Accepted (program_of c.program)
  pub names : FewNames (program_of c.program)
