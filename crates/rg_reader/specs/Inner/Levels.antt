-- The levels of operands, and the words and operators that stand next (docs/language.md, "Grammar").
use Rattle.std.specs.Prelude.{ℕ, ◌≡◌, List, Option, Some, None}
use Rattle.rg_base.specs.declared.words.Keyword.TheVariants as w
use Rattle.rg_base.specs.declared.token.Kind.{Kind}
use Rattle.rg_base.specs.declared.token.Kind.TheVariants as k
use Rattle.rg_base.specs.declared.token.Token.{Token}
use Rattle.rg_tree.specs.declared.counts.Counts.{Counts}
use Rattle.rg_tree.specs.declared.rows.BinOp.{BinOp}
use Rattle.rg_tree.specs.declared.rows.BinOp.TheVariants as op
use Rattle.rg_tree.specs.Tree.{Expr}
use Rattle.rg_tree.specs.Forms as form
use Rattle.rg_tree.specs.Phrases.{Phrase}
use Rattle.rg_tree.specs.Phrases as p
use Rattle.rg_tree.specs.Grammar.{Reads}
use Rattle.rg_tree.specs.Operators.{sum_of, product_of}
use Rattle.rg_reader.specs.declared.reader.kinds.Level.{Level}
use Rattle.rg_reader.specs.declared.reader.kinds.Level.TheVariants as level

-- the next token is x, which stands for v
abbrev pub IsNext : {V : Type 0} → (Kind → Option V) → Option Kind → Kind → V → Type 0
IsNext of next x v = (next ≡ Some x) × (of x ≡ Some v)

-- the next token stands for nothing
abbrev pub NoneNext : {V : Type 0} → (Kind → Option V) → Option Kind → Type 0
NoneNext of next = (x : Kind) → next ≡ Some x → of x ≡ None

-- the operator of a level that a token is
abbrev pub operator_at : Level → Kind → Option BinOp
operator_at level.Or (k.Word w.Or) = Some op.Or
operator_at level.Or _ = None
operator_at level.And (k.Word w.And) = Some op.And
operator_at level.And _ = None
operator_at level.Sum x = sum_of x
operator_at level.Product x = product_of x

-- a chain of the level is read
abbrev pub ReadsChain : Level → List ℕ → Counts → List Token → Expr → Counts → List Token → Type 0
ReadsChain level.Or source c ts a d us = Reads source form.Expr c ts a d us
ReadsChain level.And source c ts a d us = Reads source form.And c ts a d us
ReadsChain level.Sum source c ts a d us = Reads source form.Sum c ts a d us
ReadsChain level.Product source c ts a d us = Reads source form.Mul c ts a d us

-- the rest of a chain of the level is read, behind what stands left of it
abbrev pub ReadsRest : Level → Expr → List ℕ → Counts → List Token → Expr → Counts → List Token → Type 0
ReadsRest level.Or l source c ts a d us = Reads source (form.OrRest l) c ts a d us
ReadsRest level.And l source c ts a d us = Reads source (form.AndRest l) c ts a d us
ReadsRest level.Sum l source c ts a d us = Reads source (form.SumRest l) c ts a d us
ReadsRest level.Product l source c ts a d us = Reads source (form.MulRest l) c ts a d us

-- an operand of the level is read
abbrev pub ReadsOperand : Level → List ℕ → Counts → List Token → Expr → Counts → List Token → Type 0
ReadsOperand level.Or source c ts a d us = Reads source form.And c ts a d us
ReadsOperand level.And source c ts a d us = Reads source form.Not c ts a d us
ReadsOperand level.Sum source c ts a d us = Reads source form.Mul c ts a d us
ReadsOperand level.Product source c ts a d us = Reads source form.Unary c ts a d us

-- the names of these in the table
abbrev pub chain_at : Level → Phrase
chain_at level.Or = p.Expr
chain_at level.And = p.And
chain_at level.Sum = p.Sum
chain_at level.Product = p.Mul

abbrev pub rest_at : Level → Phrase
rest_at level.Or = p.OrRest
rest_at level.And = p.AndRest
rest_at level.Sum = p.SumRest
rest_at level.Product = p.MulRest

abbrev pub operand_at : Level → Phrase
operand_at level.Or = p.And
operand_at level.And = p.Not
operand_at level.Sum = p.Mul
operand_at level.Product = p.Unary
