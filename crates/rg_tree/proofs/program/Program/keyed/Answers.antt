use Rattle.std.proofs.Common.{rules, ap, ◌∙◌}
use Rattle.rg_tree.specs.Rows.RowTrees.{program_of}
use Rattle.rg_tree.proofs.Programs.{program_of-at_first}
use Rattle.rg_tree.proofs.program.Program.keyed.Goals as goal

pub returns-clause-tables : goal.returns-clause-tables
returns-clause-tables c = search rules

pub returns-clause-program : goal.returns-clause-program
returns-clause-program c = ap program_of (returns-clause-tables c) ∙ program_of-at_first
