-- What the readers of their parts read (docs/language.md, "Grammar").
use Rattle.std.specs.Prelude.{ℕ, ◌≡◌, List, [], ◌∷◌, length, Option, Ok, map, option_map, IfSome}
use Rattle.rg_base.specs.declared.words.Sign.TheVariants as s
use Rattle.rg_base.specs.declared.token.Kind.TheVariants as k
use Rattle.rg_base.specs.declared.token.Token.{Token}
use Rattle.rg_tree.specs.declared.counts.Counts.{Counts}
use Rattle.rg_tree.specs.declared.rows.Span.{Span}
use Rattle.rg_tree.specs.declared.rows.CallRow.{CallRow}
use Rattle.rg_tree.specs.declared.rows.ExprRow.{ExprRow}
use Rattle.rg_tree.specs.Counts.{opened, closed}
use Rattle.rg_tree.specs.Tree.{Name, Variable, Path, Expr}
use Rattle.rg_tree.specs.Forms as form
use Rattle.rg_tree.specs.Phrases.{Symbol, mark, the}
use Rattle.rg_tree.specs.Phrases as p
use Rattle.rg_tree.specs.Grammar.{Reads}
use Rattle.rg_tree.specs.Rows.Tables.{Tables, name_at, numbers_in}
use Rattle.rg_tree.specs.Rows.RowTrees.{expr_at, expr_of, call_of}
use Rattle.rg_tree.specs.Rows.RowsExist.{IsSpanBelow, IsNameIn, IsExprIn, IsCallIn, IsExprNumber}
use Rattle.rg_reader.specs.declared.reader.kinds.Level.{Level}
use Rattle.rg_reader.specs.Inner.Levels.{ReadsChain, ReadsOperand}
use Rattle.rg_reader.specs.Steps.{State, Found}

-- the fields of a path
abbrev pub names_in : Tables → Span → List Name
names_in t s = map (name_at t) (numbers_in t s)

abbrev pub FoundFields : State → Span → State → Type 0
FoundFields = Found (λ source. Reads source form.Fields) names_in (λ t. IsSpanBelow t (length t.names))

-- what a call begins with
abbrev pub FoundBase : State → Option ℕ → State → Type 0
FoundBase = Found (λ source. Reads source form.CallBase) (λ t. option_map (name_at t)) (λ t b. IfSome b (IsNameIn t))

-- what stands behind the first name of a call
abbrev pub FoundCallRest : Variable → Name → State → CallRow → State → Type 0
FoundCallRest b m = Found (λ source. Reads source (form.CallRest (record { base = b; fields = [] }) m)) call_of IsCallIn

abbrev pub exprs_in : Tables → Span → List Expr
exprs_in t s = map (expr_at t) (numbers_in t s)

abbrev pub FoundArgs : State → Span → State → Type 0
FoundArgs = Found (λ source. Reads source form.Args) exprs_in (λ t. IsSpanBelow t (length t.exprs))

-- the arguments of a call in their parentheses, whatever stands in front
abbrev pub FoundCallArgs : State → Span → State → Type 0
FoundCallArgs =
    Found (λ source c ts as' d us.
    (q : Path) (m : Name) → Reads source (form.CallRest q m) c ts (record { target = q; method = m; args = as' }) d us)
    exprs_in (λ t. IsSpanBelow t (length t.exprs))

-- an expression in brackets
pub data ReadsIndex (source : List ℕ) : Counts → List Token → Expr → Counts → List Token → Type 0 where
  index_row : {c d e : Counts} {t u : Token} {ts us : List Token} {a : Expr}
      → t.kind ≡ k.Mark s.OpenBracket → opened c ≡ Ok d → Reads source form.Expr d ts a e (u ∷ us) → u.kind ≡ k.Mark s.CloseBracket
      → ReadsIndex source c (t ∷ ts) a (closed e) us

-- what an expression in brackets expects
abbrev pub index_symbols : List Symbol
index_symbols = mark s.OpenBracket ∷ the p.Expr ∷ mark s.CloseBracket ∷ []

abbrev pub FoundSomeIndex : State → ℕ → State → Type 0
FoundSomeIndex = Found ReadsIndex expr_at IsExprNumber

abbrev pub FoundChain : Level → State → ℕ → State → Type 0
FoundChain l = Found (ReadsChain l) expr_at IsExprNumber

abbrev pub FoundOperand : Level → State → ℕ → State → Type 0
FoundOperand l = Found (ReadsOperand l) expr_at IsExprNumber

abbrev pub FoundNot : State → ℕ → State → Type 0
FoundNot = Found (λ source. Reads source form.Not) expr_at IsExprNumber

abbrev pub FoundCmp : State → ℕ → State → Type 0
FoundCmp = Found (λ source. Reads source form.Cmp) expr_at IsExprNumber

abbrev pub FoundUnary : State → ℕ → State → Type 0
FoundUnary = Found (λ source. Reads source form.Unary) expr_at IsExprNumber

-- what stands behind a path
abbrev pub FoundIs : Path → State → ExprRow → State → Type 0
FoundIs q = Found (λ source. Reads source (form.Is q)) expr_of (λ t r. IsExprIn t (length t.exprs) r)

abbrev pub FoundPrimary : State → ℕ → State → Type 0
FoundPrimary = Found (λ source. Reads source form.Primary) expr_at IsExprNumber
