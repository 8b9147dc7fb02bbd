use Rattle.std.proofs.Common.{rules}
use Rattle.rg_tree.proofs.Programs.{length-classes_of}
use Rattle.rg_tree.proofs.program.Program.class_count.Goals as goal

pub returns-clause-trees : goal.returns-clause-trees
returns-clause-trees c = rw (length-classes_of) (search rules)
