-- What is read of a whole program (docs/language.md, "Grammar").
use Rattle.std.specs.Prelude.{◌≡◌, []}
use Rattle.rg_tree.specs.declared.counts.Counts.{Counts}
use Rattle.rg_tree.specs.Tree.{Tree}
use Rattle.rg_tree.specs.Forms as form
use Rattle.rg_tree.specs.Grammar.{Reads}
use Rattle.rg_tree.specs.Rows.RowTrees.{classes_of, program_of}
use Rattle.rg_tree.specs.Rows.Tables.{Tables}
use Rattle.rg_reader.specs.Steps.{State}

-- main is read to the end, and the tables are those of a program with the classes that were there
pub record FoundMain (a : State) (t : Tables) : Type 0 where
  pub tree : Tree
  pub counts : Counts
  pub reads : Reads a.source form.Program a.counts a.rest tree counts []
  pub none : tree.classes ≡ []
  pub is : program_of t ≡ record tree { classes = classes_of a.tables }

-- all tokens that are left are read, and the tables are those of the program that they spell
abbrev pub FoundProgram : State → Tables → Type 0
FoundProgram a t = (c : Counts) × Reads a.source form.Program a.counts a.rest (program_of t) c []
