-- What a statement says to the outside (docs/language.md, "Steps").
use Rattle.std.specs.Prelude.{◌≡◌, Bool as Truth, true, false}
use Rattle.rg_tree.specs.Tree.{StmtKind, print, read, more}
use Rattle.rg_tree.specs.Rows.Tables.{Tables}
use Rattle.rg_tree.specs.Rows.RowTrees.{expr_at}
use Rattle.rg_tree.specs.Rows.RowsExist.{IsExprNumber}
use Rattle.rg_plain.specs.declared.steps.says.Says.{Says}
use Rattle.rg_plain.specs.declared.steps.says.Says.TheVariants as says
use Rattle.rg_values.specs.Spots.{LeftFits, statement_of}

-- whether the input is asked for
abbrev pub asks_of : Says → Truth
asks_of (says.Reads l) = true
asks_of (says.Asks l) = true
asks_of (says.Prints e) = false
asks_of says.Nothing = false

-- whether a value is printed
abbrev pub prints_of : Says → Truth
prints_of (says.Reads l) = false
prints_of (says.Asks l) = false
prints_of (says.Prints e) = true
prints_of says.Nothing = false

-- the statement that says so, where it says something
abbrev pub SaysIs : Tables → StmtKind → Says → Type 0
SaysIs t k (says.Reads l) = k ≡ statement_of t l read
SaysIs t k (says.Asks l) = k ≡ statement_of t l more
SaysIs t k (says.Prints e) = k ≡ print (expr_at t e)
SaysIs t k says.Nothing = Unit {0}

-- its numbers are the program's
abbrev pub SaysFits : Tables → Says → Type 0
SaysFits t (says.Reads l) = LeftFits t l
SaysFits t (says.Asks l) = LeftFits t l
SaysFits t (says.Prints e) = IsExprNumber t e
SaysFits t says.Nothing = Unit {0}
