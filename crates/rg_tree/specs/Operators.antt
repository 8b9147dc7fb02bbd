-- Which tokens are which words, values and operators (docs/language.md, "Grammar").
use Rattle.std.specs.Prelude.{true, false, Option, Some, None}
use Rattle.rg_base.specs.declared.words.Keyword.TheVariants as w
use Rattle.rg_base.specs.declared.words.Sign.TheVariants as s
use Rattle.rg_tree.specs.declared.rows.BinOp.{BinOp}
use Rattle.rg_tree.specs.declared.rows.BinOp.TheVariants.{Eq, Ne, Lt, Le, Gt, Ge, Add, Sub, Mul, Div, Rem}
use Rattle.rg_base.specs.declared.words.Cap.{Cap}
use Rattle.rg_base.specs.declared.words.Cap.TheVariants.{Mut, Tmp, Paused, Imm, Iso}
use Rattle.rg_base.specs.declared.words.Manager.{Manager}
use Rattle.rg_base.specs.declared.words.Manager.TheVariants.{Arena, Count, Trace}
use Rattle.rg_base.specs.declared.token.Kind.{Kind}
use Rattle.rg_base.specs.declared.token.Kind.TheVariants as k
use Rattle.rg_tree.specs.Tree.{Name, Variable, Ty, int, bool, Expr, number, boolean, nil, Right, read, more}

-- the capability that a word is
abbrev pub cap_of : Kind → Option Cap
cap_of (k.Word w.Mut) = Some Mut
cap_of (k.Word w.Tmp) = Some Tmp
cap_of (k.Word w.Paused) = Some Paused
cap_of (k.Word w.Imm) = Some Imm
cap_of (k.Word w.Iso) = Some Iso
cap_of _ = None

-- the type that a word is
abbrev pub plain_type_of : Kind → Option Ty
plain_type_of (k.Word w.Int) = Some int
plain_type_of (k.Word w.Bool) = Some bool
plain_type_of _ = None

-- the manager that a word is
abbrev pub manager_of : Kind → Option Manager
manager_of (k.Word w.Arena) = Some Arena
manager_of (k.Word w.Count) = Some Count
manager_of (k.Word w.Trace) = Some Trace
manager_of _ = None

-- what begins a path: a name's text, or self
abbrev pub base_of : Kind → Name → Option Variable
base_of k.Name text = Some (Some text)
base_of (k.Word w.SelfWord) text = Some None
base_of _ text = None

-- the right side that a word is
abbrev pub input_of : Kind → Option Right
input_of (k.Word w.Read) = Some read
input_of (k.Word w.More) = Some more
input_of _ = None

-- the operator that a sign of two sums is
abbrev pub comparison_of : Kind → Option BinOp
comparison_of (k.Mark s.Equal) = Some Eq
comparison_of (k.Mark s.NotEqual) = Some Ne
comparison_of (k.Mark s.Less) = Some Lt
comparison_of (k.Mark s.AtMost) = Some Le
comparison_of (k.Mark s.Greater) = Some Gt
comparison_of (k.Mark s.AtLeast) = Some Ge
comparison_of _ = None

-- the operator that a sign of two products is
abbrev pub sum_of : Kind → Option BinOp
sum_of (k.Mark s.Plus) = Some Add
sum_of (k.Mark s.Minus) = Some Sub
sum_of _ = None

-- the operator that a sign of two factors is
abbrev pub product_of : Kind → Option BinOp
product_of (k.Mark s.Star) = Some Mul
product_of (k.Mark s.Slash) = Some Div
product_of (k.Mark s.Percent) = Some Rem
product_of _ = None

-- the expression that a token is by itself
abbrev pub literal_of : Kind → Option Expr
literal_of (k.Number z) = Some (number z)
literal_of (k.Word w.True) = Some (boolean true)
literal_of (k.Word w.False) = Some (boolean false)
literal_of (k.Word w.Nil) = Some nil
literal_of _ = None
