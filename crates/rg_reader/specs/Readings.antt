-- What each reader of types, paths, calls and expressions reads: a form of the grammar, and a row that stands for its tree
-- (docs/language.md, "Grammar").
use Rattle.std.specs.Prelude.{ℕ, ⊤, Option, option_map, IfSome}
use Rattle.rg_base.specs.declared.words.Cap.{Cap}
use Rattle.rg_base.specs.declared.words.Manager.{Manager}
use Rattle.rg_tree.specs.declared.rows.Path as row_path
use Rattle.rg_tree.specs.declared.rows.TypeRow.{TypeRow}
use Rattle.rg_tree.specs.declared.rows.CallRow.{CallRow}
use Rattle.rg_tree.specs.Forms as form
use Rattle.rg_tree.specs.Grammar.{Reads}
use Rattle.rg_tree.specs.Rows.RowTrees.{path_of, type_of, expr_at, call_of}
use Rattle.rg_tree.specs.Rows.RowsExist.{IsPathIn, IsTypeIn, IsCallIn, IsExprNumber}
use Rattle.rg_reader.specs.Steps.{State, Found}

-- a capability, and a manager
abbrev pub FoundCap : State → Cap → State → Type 0
FoundCap = Found (λ source. Reads source form.Cap) (λ t a. a) (λ t a. ⊤)

abbrev pub FoundManager : State → Manager → State → Type 0
FoundManager = Found (λ source. Reads source form.Manager) (λ t m. m) (λ t m. ⊤)

-- a type
abbrev pub FoundType : State → TypeRow → State → Type 0
FoundType = Found (λ source. Reads source form.Type') type_of IsTypeIn

-- the type of a result
abbrev pub FoundResult : State → Option TypeRow → State → Type 0
FoundResult = Found (λ source. Reads source form.Result) (λ t o. option_map (type_of t) o) (λ t o. IfSome o (IsTypeIn t))

-- a path
abbrev pub FoundPath : State → row_path.Path → State → Type 0
FoundPath = Found (λ source. Reads source form.Path) path_of IsPathIn

-- a call, and its arguments
abbrev pub FoundCall : State → CallRow → State → Type 0
FoundCall = Found (λ source. Reads source form.Call) call_of IsCallIn

-- an expression in brackets, or nothing
abbrev pub FoundIndex : State → Option ℕ → State → Type 0
FoundIndex = Found (λ source. Reads source form.At) (λ t. option_map (expr_at t)) (λ t o. IfSome o (IsExprNumber t))

-- expressions, by what they are operands of
abbrev pub FoundExpr : State → ℕ → State → Type 0
FoundExpr = Found (λ source. Reads source form.Expr) expr_at IsExprNumber
