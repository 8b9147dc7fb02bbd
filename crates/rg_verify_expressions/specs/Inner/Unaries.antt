-- Operators of one operand, over a tree and over a row; and what is asked of a path.
use Rattle.std.specs.Prelude.{ℕ, List}
use Rattle.rg_tree.specs.declared.rows.ExprRow.{ExprRow}
use Rattle.rg_tree.specs.declared.rows.ExprRow.TheVariants as row
use Rattle.rg_tree.specs.declared.rows.Path.{Path}
use Rattle.rg_verify_expressions.specs.declared.expressions.Unary.{Unary}
use Rattle.rg_verify_expressions.specs.declared.expressions.Unary.TheVariants as unary
use Rattle.rg_verify_expressions.specs.declared.stack.Query.{Query}
use Rattle.rg_verify_expressions.specs.declared.stack.Query.TheVariants as query
use Rattle.rg_verify_expressions.specs.Raised.{Raised, is_nil, size, neg, not}

-- the tree over an operand
abbrev pub tree_over : Unary → Raised → Raised
tree_over unary.Neg = neg
tree_over unary.Not = not

-- the row over that of an operand
abbrev pub row_over : Unary → ℕ → ExprRow
row_over unary.Neg a = row.Neg a
row_over unary.Not a = row.Not a

-- the tree over a path
abbrev pub tree_on : Query → (slot : ℕ) → (fields : List ℕ) → Raised
tree_on query.IsNil = is_nil
tree_on query.Size = size

-- the row over that of a path
abbrev pub row_on : Query → Path → ExprRow
row_on query.IsNil p = row.IsNil p
row_on query.Size p = row.Size p
