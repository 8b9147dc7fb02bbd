-- What each reader of the parser reads: a form of the grammar, and a row that stands for its tree (docs/language.md, "Grammar").
use Rattle.std.specs.Prelude.{ℕ, ◌≡◌, List, [], ◌∷◌, length, Option, Some, None, Ok, map, option_map, IfSome}
use Rattle.rg_base.specs.declared.words.Sign.TheVariants as s
use Rattle.rg_base.specs.declared.token.Kind.TheVariants as k
use Rattle.rg_base.specs.declared.token.Token.{Token}
use Rattle.rg_tree.specs.declared.counts.Counts.{Counts}
use Rattle.rg_tree.specs.declared.rows.Span.{Span}
use Rattle.rg_tree.specs.declared.rows.Path as row_path
use Rattle.rg_tree.specs.declared.rows.TypeRow.{TypeRow}
use Rattle.rg_tree.specs.declared.rows.MemberRow.{MemberRow}
use Rattle.rg_tree.specs.declared.rows.ClassRow.{ClassRow}
use Rattle.rg_tree.specs.declared.rows.Right as row_right
use Rattle.rg_tree.specs.declared.rows.StmtKind as row_kind
use Rattle.rg_tree.specs.declared.rows.StmtKind.TheVariants as kind_row
use Rattle.rg_tree.specs.Counts.{no_signs, one_param}
use Rattle.rg_tree.specs.Tree.{Name, Path, Ty, Param, Member, stmt}
use Rattle.rg_tree.specs.Forms as form
use Rattle.rg_tree.specs.Forms.{Given}
use Rattle.rg_tree.specs.Phrases.{Symbol, param_name, mark, the}
use Rattle.rg_tree.specs.Phrases as p
use Rattle.rg_tree.specs.Grammar.{Reads, text}
use Rattle.rg_tree.specs.Stuck.{line_at}
use Rattle.rg_tree.specs.Rows.Tables.{Tables, name_at, numbers_in}
use Rattle.rg_tree.specs.Rows.RowTrees.{type_of, right_of, stmt_at, block_of, kind_over, else_over, param_at}
use Rattle.rg_tree.specs.Rows.RowTrees.{member_at, member_of, members_under, class_of}
use Rattle.rg_tree.specs.Rows.RowsExist.{IsSpanBelow, IsNameIn, IsTypeIn, IsRightIn, IsKindIn, IsBlockIn}
use Rattle.rg_tree.specs.Rows.RowsExist.{IsMemberIn, IsClassIn, IsStmtNumber, IsParamNumber}
use Rattle.rg_reader.specs.declared.reader.halt.Halt.{Halt}
use Rattle.rg_reader.specs.Steps.{State, Found, Halts}

-- parameters
abbrev pub params_in : Tables → Span → List Param
params_in t s = map (param_at t) (numbers_in t s)

abbrev pub FoundParams : State → Span → State → Type 0
FoundParams = Found (λ source. Reads source form.Params) params_in (λ t. IsSpanBelow t (length t.params))

-- a right side
abbrev pub FoundRight : State → row_right.Right → State → Type 0
FoundRight = Found (λ source. Reads source form.Right) right_of IsRightIn

-- what stands behind new
abbrev pub FoundNew : State → row_right.Right → State → Type 0
FoundNew = Found (λ source. Reads source form.New) right_of IsRightIn

-- what a statement says, whose line is that of the token that stands next
abbrev pub FoundKind : State → row_kind.StmtKind → State → Type 0
FoundKind = Found (λ source c ts k d us. Reads source form.Stmt c ts (stmt (line_at 0 ts) k) d us)
    (λ t. kind_over t (stmt_at t)) (λ t. IsKindIn t (length t.stmts))

-- the row of an assignment to a variable or a field, or to an element
abbrev pub set_row : row_path.Path → (index : Option ℕ) → row_right.Right → row_kind.StmtKind
set_row q None r = kind_row.Set q r
set_row q (Some e) r = kind_row.SetAt q e r

-- a statement, whose signs are counted anew
abbrev pub FoundStmt : State → ℕ → State → Type 0
FoundStmt = Found (λ source c. Reads source form.Stmt (no_signs c)) stmt_at IsStmtNumber

-- a block, and statements to the end of one
abbrev pub FoundBlock : State → Span → State → Type 0
FoundBlock = Found (λ source. Reads source form.Block) block_of IsBlockIn

abbrev pub FoundStmts : State → Span → State → Type 0
FoundStmts = Found (λ source. Reads source form.Stmts) block_of IsBlockIn

-- what stands behind the first block of an if
abbrev pub FoundElse : State → Option Span → State → Type 0
FoundElse = Found (λ source. Reads source form.Else) (λ t. else_over t (stmt_at t)) (λ t o. IfSome o (IsBlockIn t))

-- what stands behind the block of an enter
abbrev pub FoundGiving : State → Option ℕ → State → Type 0
FoundGiving = Found (λ source. Reads source form.Giving) (λ t. option_map (name_at t)) (λ t o. IfSome o (IsNameIn t))

-- members
abbrev pub members_in : Tables → Span → List Member
members_in t s = map (member_at t) (numbers_in t s)

abbrev pub FoundMembers : State → Span → State → Type 0
FoundMembers = Found (λ source. Reads source form.Members) members_in (λ t. IsSpanBelow t (length t.members))

-- a member, in front of more of them, where a reading that stops in them stops
pub record ReadsMember (source : List ℕ) (c : Counts) (ts : List Token) (a : Member) (d : Counts) (us : List Token) : Type 0 where
  pub reads : (more : List Member) (e : Counts) (vs : List Token) → Reads source form.Members d us more e vs
      → Reads source form.Members c ts (a ∷ more) e vs
  pub stops : (u v : Tables) (e : Halt) (z : State)
      → Halts (the p.Members ∷ []) (record { source = source; rest = us; counts = d; tables = v }) e z
      → Halts (the p.Members ∷ []) (record { source = source; rest = ts; counts = c; tables = u }) e z

abbrev pub FoundMember : State → MemberRow → State → Type 0
FoundMember = Found ReadsMember member_of IsMemberIn

-- a parameter
pub data ReadsParam (source : List ℕ) : Counts → List Token → Param → Counts → List Token → Type 0 where
  param_row : {c d e : Counts} {t u : Token} {ts us : List Token} {y : Ty}
      → t.kind ≡ k.Name → one_param c ≡ Ok d → u.kind ≡ k.Mark s.Colon → Reads source form.Type' d ts y e us
      → ReadsParam source c (t ∷ u ∷ ts) (record { name = text source t; ty = y }) e us

-- what a parameter expects
abbrev pub param_symbols : List Symbol
param_symbols = param_name ∷ mark s.Colon ∷ the p.Type' ∷ []

abbrev pub FoundParam : State → ℕ → State → Type 0
FoundParam = Found ReadsParam param_at IsParamNumber

-- what stands behind a class's name: the type of its elements, if any, and its members
abbrev pub rest_in : Tables → Option TypeRow × Span → Given form.ClassRest
rest_in t r = (option_map (type_of t) r.0, members_under t r.0 r.1)

abbrev pub IsRestIn : Tables → Option TypeRow × Span → Type 0
IsRestIn t r = IfSome r.0 (IsTypeIn t) × IsSpanBelow t (length t.members) r.1

abbrev pub FoundClassRest : State → Option TypeRow × Span → State → Type 0
FoundClassRest = Found (λ source. Reads source form.ClassRest) rest_in IsRestIn

-- a class
abbrev pub FoundClass : State → ClassRow → State → Type 0
FoundClass = Found (λ source. Reads source form.Class) class_of IsClassIn
