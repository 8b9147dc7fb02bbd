-- Each rule of the grammar holds where the table has its row.
use Rattle.std.proofs.Common.{◌≡◌, ℕ, List, [], ◌∷◌, Option, Some, Ok, refl, ap}
use Rattle.rg_tree.specs.declared.rows.BinOp.{BinOp}
use Rattle.rg_base.specs.declared.words.Cap.{Cap}
use Rattle.rg_base.specs.declared.words.Manager.{Manager}
use Rattle.rg_base.specs.declared.words.Keyword.TheVariants as w
use Rattle.rg_base.specs.declared.words.Sign.TheVariants as s
use Rattle.rg_base.specs.declared.token.Kind.{Kind}
use Rattle.rg_base.specs.declared.token.Kind.TheVariants as k
use Rattle.rg_base.specs.declared.token.Token.{Token}
use Rattle.rg_tree.specs.Tree.{Name, Ty, Expr, Right}
use Rattle.rg_tree.specs.Phrases.{Phrase, Symbol, that, sign, name, class_name, field_name, method_name, param_name, local_name, finish, the, word}
use Rattle.rg_tree.specs.Phrases.{mark}
use Rattle.rg_tree.specs.Phrases as p
use Rattle.rg_tree.specs.declared.counts.Counts.{Counts}
use Rattle.rg_tree.specs.Counts.{behind, counted}
use Rattle.rg_tree.specs.Table.{next, row}
use Rattle.rg_tree.specs.Operators.{cap_of, plain_type_of, manager_of, base_of, input_of, comparison_of, sum_of, product_of, literal_of}
use Rattle.rg_tree.specs.Forms as form
use Rattle.rg_tree.specs.Forms.{Form, Given}
use Rattle.rg_tree.specs.Grammar.{Reads, program_class, program_main, class_row, tmp_class_row, members_row, element_row, field_row}
use Rattle.rg_tree.specs.Grammar.{method_row, no_members, cap_row, at_row, no_at, giving_row, no_giving, size_row, element_of}
use Rattle.rg_tree.specs.Grammar.{plain_type, ref_type, first_param, no_params, next_param, no_more_params, some_result, no_result, manager_row}
use Rattle.rg_tree.specs.Grammar.{block_row, no_stmts, more_stmts, let_row, assign_row, call_row, swap_row, if_row, while_row, enter_row, print_row}
use Rattle.rg_tree.specs.Grammar.{collect_row, return_row, else_row, else_none, path_row, next_field, no_fields, new_row, freeze_row, merge_row}
use Rattle.rg_tree.specs.Grammar.{input_row, result_row, value_row, new_plain, new_temporary, new_region, call_start, call_base, call_further}
use Rattle.rg_tree.specs.Grammar.{call_args, no_args, first_arg, next_arg, no_more_args, expr_row, or_row, no_or, and_row, and_further, no_and}
use Rattle.rg_tree.specs.Grammar.{not_row, no_not, cmp_row, compared, not_compared, sum_row, sum_further, no_sum, mul_row, mul_further, no_mul, minus}
use Rattle.rg_tree.specs.Grammar.{no_minus, literal, parens, path_value, is_row, no_is}

-- the phrase of what is read
abbrev pub phrase_of : Form → Phrase
phrase_of form.Program = p.Program
phrase_of form.Class = p.Class
phrase_of form.ClassRest = p.ClassRest
phrase_of form.Members = p.Members
phrase_of form.Cap = p.Cap
phrase_of form.Type' = p.Type'
phrase_of form.Params = p.Params
phrase_of form.MoreParams = p.MoreParams
phrase_of form.Result = p.Result
phrase_of form.Manager = p.Manager
phrase_of form.Block = p.Block
phrase_of form.Stmts = p.Stmts
phrase_of form.Stmt = p.Stmt
phrase_of form.At = p.At
phrase_of form.Giving = p.Giving
phrase_of form.Else = p.Else
phrase_of form.Path = p.Path
phrase_of form.Fields = p.Fields
phrase_of form.Right = p.Right
phrase_of form.New = p.New
phrase_of form.Call = p.Call
phrase_of form.CallBase = p.CallBase
phrase_of (form.CallRest q m) = p.CallRest
phrase_of form.Args = p.Args
phrase_of form.MoreArgs = p.MoreArgs
phrase_of form.Expr = p.Expr
phrase_of (form.OrRest a) = p.OrRest
phrase_of form.And = p.And
phrase_of (form.AndRest a) = p.AndRest
phrase_of form.Not = p.Not
phrase_of form.Cmp = p.Cmp
phrase_of (form.CmpRest a) = p.CmpRest
phrase_of form.Sum = p.Sum
phrase_of (form.SumRest a) = p.SumRest
phrase_of form.Mul = p.Mul
phrase_of (form.MulRest a) = p.MulRest
phrase_of form.Unary = p.Unary
phrase_of form.Primary = p.Primary
phrase_of (form.Is q) = p.Is

-- a name, or self
abbrev pub base_symbol : Kind → Symbol
base_symbol k.Name = name
base_symbol x = that x

-- Words, values and operators have their rows.

pub cap_of-row : (x : Kind) (a : Cap) → cap_of x ≡ Some a → row p.Cap (Some x) ≡ Some (that x ∷ [])
cap_of-row (k.Word w.Mut) a e = refl
cap_of-row (k.Word w.Tmp) a e = refl
cap_of-row (k.Word w.Paused) a e = refl
cap_of-row (k.Word w.Imm) a e = refl
cap_of-row (k.Word w.Iso) a e = refl
cap_of-row _ a e = cc

pub cap_of-type : (x : Kind) (a : Cap) → cap_of x ≡ Some a → row p.Type' (Some x) ≡ Some (the p.Cap ∷ name ∷ [])
cap_of-type (k.Word w.Mut) a e = refl
cap_of-type (k.Word w.Tmp) a e = refl
cap_of-type (k.Word w.Paused) a e = refl
cap_of-type (k.Word w.Imm) a e = refl
cap_of-type (k.Word w.Iso) a e = refl
cap_of-type _ a e = cc

pub cap_of-behind : (x : Kind) (a : Cap) (c : Counts) → cap_of x ≡ Some a → behind x c ≡ Ok c
cap_of-behind (k.Word w.Mut) a c e = refl
cap_of-behind (k.Word w.Tmp) a c e = refl
cap_of-behind (k.Word w.Paused) a c e = refl
cap_of-behind (k.Word w.Imm) a c e = refl
cap_of-behind (k.Word w.Iso) a c e = refl
cap_of-behind _ a c e = cc

pub plain_type_of-row : (x : Kind) (y : Ty) → plain_type_of x ≡ Some y → row p.Type' (Some x) ≡ Some (that x ∷ [])
plain_type_of-row (k.Word w.Int) y e = refl
plain_type_of-row (k.Word w.Bool) y e = refl
plain_type_of-row _ y e = cc

pub plain_type_of-behind : (x : Kind) (y : Ty) (c : Counts) → plain_type_of x ≡ Some y → behind x c ≡ Ok c
plain_type_of-behind (k.Word w.Int) y c e = refl
plain_type_of-behind (k.Word w.Bool) y c e = refl
plain_type_of-behind _ y c e = cc

pub manager_of-row : (x : Kind) (m : Manager) → manager_of x ≡ Some m → row p.Manager (Some x) ≡ Some (that x ∷ [])
manager_of-row (k.Word w.Arena) m e = refl
manager_of-row (k.Word w.Count) m e = refl
manager_of-row (k.Word w.Trace) m e = refl
manager_of-row _ m e = cc

pub manager_of-behind : (x : Kind) (m : Manager) (c : Counts) → manager_of x ≡ Some m → behind x c ≡ Ok c
manager_of-behind (k.Word w.Arena) m c e = refl
manager_of-behind (k.Word w.Count) m c e = refl
manager_of-behind (k.Word w.Trace) m c e = refl
manager_of-behind _ m c e = cc

-- what a token is that begins a path
pub record Begins (x : Kind) : Type 0 where
  pub path : row p.Path (Some x) ≡ Some (base_symbol x ∷ the p.Fields ∷ [])
  pub call_base : row p.CallBase (Some x) ≡ Some (base_symbol x ∷ [])
  pub stmt : row p.Stmt (Some x) ≡ Some (the p.Path ∷ the p.At ∷ mark s.Assign ∷ the p.Right ∷ mark s.Semicolon ∷ [])
  pub primary : row p.Primary (Some x) ≡ Some (the p.Path ∷ the p.Is ∷ [])
  pub counted : (c : Counts) → counted (base_symbol x) c ≡ Ok c

pub base_of-begins : (x : Kind) (n : Name) (b : Option Name) → base_of x n ≡ Some b → Begins x
base_of-begins k.Name n b e = record { path = refl; call_base = refl; stmt = refl; primary = refl; counted = λ c. refl }
base_of-begins (k.Word w.SelfWord) n b e = record { path = refl; call_base = refl; stmt = refl; primary = refl; counted = λ c. refl }
base_of-begins _ n b e = cc

pub input_of-row : (x : Kind) (r : Right) → input_of x ≡ Some r → row p.Right (Some x) ≡ Some (that x ∷ [])
input_of-row (k.Word w.Read) r e = refl
input_of-row (k.Word w.More) r e = refl
input_of-row _ r e = cc

pub input_of-behind : (x : Kind) (r : Right) (c : Counts) → input_of x ≡ Some r → behind x c ≡ Ok c
input_of-behind (k.Word w.Read) r c e = refl
input_of-behind (k.Word w.More) r c e = refl
input_of-behind _ r c e = cc

pub comparison_of-row : (x : Kind) (o : BinOp) → comparison_of x ≡ Some o → row p.CmpRest (Some x) ≡ Some (sign x ∷ the p.Sum ∷ [])
comparison_of-row (k.Mark s.Equal) o e = refl
comparison_of-row (k.Mark s.NotEqual) o e = refl
comparison_of-row (k.Mark s.Less) o e = refl
comparison_of-row (k.Mark s.AtMost) o e = refl
comparison_of-row (k.Mark s.Greater) o e = refl
comparison_of-row (k.Mark s.AtLeast) o e = refl
comparison_of-row _ o e = cc

pub sum_of-row : (x : Kind) (o : BinOp) → sum_of x ≡ Some o → row p.SumRest (Some x) ≡ Some (sign x ∷ the p.Mul ∷ the p.SumRest ∷ [])
sum_of-row (k.Mark s.Plus) o e = refl
sum_of-row (k.Mark s.Minus) o e = refl
sum_of-row _ o e = cc

pub product_of-row : (x : Kind) (o : BinOp) → product_of x ≡ Some o → row p.MulRest (Some x) ≡ Some (sign x ∷ the p.Unary ∷ the p.MulRest ∷ [])
product_of-row (k.Mark s.Star) o e = refl
product_of-row (k.Mark s.Slash) o e = refl
product_of-row (k.Mark s.Percent) o e = refl
product_of-row _ o e = cc

pub literal_of-row : (x : Kind) (a : Expr) → literal_of x ≡ Some a → row p.Primary (Some x) ≡ Some (that x ∷ [])
literal_of-row (k.Number z) a e = refl
literal_of-row (k.Word w.True) a e = refl
literal_of-row (k.Word w.False) a e = refl
literal_of-row (k.Word w.Nil) a e = refl
literal_of-row _ a e = cc

pub literal_of-behind : (x : Kind) (a : Expr) (c : Counts) → literal_of x ≡ Some a → behind x c ≡ Ok c
literal_of-behind (k.Number z) a c e = refl
literal_of-behind (k.Word w.True) a c e = refl
literal_of-behind (k.Word w.False) a c e = refl
literal_of-behind (k.Word w.Nil) a c e = refl
literal_of-behind _ a c e = cc

-- What stands first.

class-first : {source : List ℕ} {c d : Counts} {ts us : List Token} {a : Given form.Class} → Reads source form.Class c ts a d us
    → row p.Program (next ts) ≡ Some (the p.Class ∷ the p.Program ∷ [])
class-first (class_row e f h x) = ap (λ o. row p.Program (Some o)) e
class-first (tmp_class_row e l f h x) = ap (λ o. row p.Program (Some o)) e

cap-first : {source : List ℕ} {c d : Counts} {ts us : List Token} {a : Cap} → Reads source form.Cap c ts a d us
    → row p.Type' (next ts) ≡ Some (the p.Cap ∷ name ∷ [])
cap-first (cap_row e) = cap_of-type _ _ e

path-first : {source : List ℕ} {c d : Counts} {t : Token} {ts us : List Token} {a : Given form.Path}
    → Reads source form.Path c (t ∷ ts) a d us → Begins t.kind
path-first (path_row e x) = base_of-begins _ _ _ e

path-primary : {source : List ℕ} {c d : Counts} {ts us : List Token} {a : Given form.Path} → Reads source form.Path c ts a d us
    → row p.Primary (next ts) ≡ Some (the p.Path ∷ the p.Is ∷ [])
path-primary (path_row e x) = (base_of-begins _ _ _ e).primary

call-stmt : {source : List ℕ} {c d : Counts} {ts us : List Token} {a : Given form.Call} → Reads source form.Call c ts a d us
    → row p.Stmt (next ts) ≡ Some (the p.Call ∷ mark s.Semicolon ∷ [])
call-stmt (call_start e x f h y) = ap (λ o. row p.Stmt (Some o)) e

call-right : {source : List ℕ} {c d : Counts} {ts us : List Token} {a : Given form.Call} → Reads source form.Call c ts a d us
    → row p.Right (next ts) ≡ Some (the p.Call ∷ [])
call-right (call_start e x f h y) = ap (λ o. row p.Right (Some o)) e

-- the symbols of the row by which something is read
abbrev pub row_of : {source : List ℕ} {f : Form} {c d : Counts} {ts us : List Token} {a : Given f} → Reads source f c ts a d us → List Symbol
row_of (program_class x y) = the p.Class ∷ the p.Program ∷ []
row_of (program_main e x y) = word w.Main ∷ the p.Manager ∷ the p.Block ∷ finish ∷ []
row_of (class_row e f h x) = word w.Class ∷ class_name ∷ the p.ClassRest ∷ []
row_of (tmp_class_row e m f h x) = word w.Tmp ∷ word w.Class ∷ class_name ∷ the p.ClassRest ∷ []
row_of (members_row e h x f) = mark s.OpenBrace ∷ the p.Members ∷ mark s.CloseBrace ∷ []
row_of (element_row e h x f i) = mark s.OpenBracket ∷ the p.Type' ∷ mark s.CloseBracket ∷ mark s.Semicolon ∷ []
row_of (field_row e h i x j y) = field_name ∷ mark s.Colon ∷ the p.Type' ∷ mark s.Semicolon ∷ the p.Members ∷ []
row_of (method_row e x f h i j y l m n o) = word w.Def ∷ the p.Cap ∷ method_name ∷ mark s.OpenParen ∷ the p.Params ∷ mark s.CloseParen
    ∷ the p.Result ∷ the p.Block ∷ the p.Members ∷ []
row_of (no_members e) = []
row_of (cap_row {t = t} e) = that t.kind ∷ []
row_of (plain_type {t = t} e) = that t.kind ∷ []
row_of (ref_type x e) = the p.Cap ∷ name ∷ []
row_of (first_param e h i x y) = param_name ∷ mark s.Colon ∷ the p.Type' ∷ the p.MoreParams ∷ []
row_of (no_params e) = []
row_of (next_param e f h i x y) = mark s.Comma ∷ param_name ∷ mark s.Colon ∷ the p.Type' ∷ the p.MoreParams ∷ []
row_of (no_more_params e) = []
row_of (some_result e x) = mark s.Colon ∷ the p.Type' ∷ []
row_of (no_result e) = []
row_of (manager_row {t = t} e) = that t.kind ∷ []
row_of (block_row e h x f) = mark s.OpenBrace ∷ the p.Stmts ∷ mark s.CloseBrace ∷ []
row_of (no_stmts e) = []
row_of (more_stmts e x y) = the p.Stmt ∷ the p.Stmts ∷ []
row_of (let_row e f h i x j y l) = word w.Let ∷ local_name ∷ mark s.Colon ∷ the p.Type' ∷ mark s.Assign ∷ the p.Right ∷ mark s.Semicolon ∷ []
row_of (assign_row x v e y f) = the p.Path ∷ the p.At ∷ mark s.Assign ∷ the p.Right ∷ mark s.Semicolon ∷ []
row_of (call_row x e) = the p.Call ∷ mark s.Semicolon ∷ []
row_of (swap_row e f h x i) = word w.Swap ∷ name ∷ mark s.Comma ∷ the p.Path ∷ mark s.Semicolon ∷ []
row_of (if_row e x y z) = word w.If ∷ the p.Expr ∷ the p.Block ∷ the p.Else ∷ []
row_of (while_row e x y) = word w.While ∷ the p.Expr ∷ the p.Block ∷ []
row_of (enter_row e x f h i y v) = word w.Enter ∷ the p.Path ∷ word w.As ∷ local_name ∷ the p.Block ∷ the p.Giving ∷ []
row_of (print_row e x f) = word w.Print ∷ the p.Expr ∷ mark s.Semicolon ∷ []
row_of (collect_row e f) = word w.Collect ∷ mark s.Semicolon ∷ []
row_of (return_row e x f) = word w.Return ∷ the p.Expr ∷ mark s.Semicolon ∷ []
row_of (at_row e h x f) = mark s.OpenBracket ∷ the p.Expr ∷ mark s.CloseBracket ∷ []
row_of (no_at e) = []
row_of (giving_row e f h) = word w.Giving ∷ name ∷ mark s.Semicolon ∷ []
row_of (no_giving e) = []
row_of (else_row e x) = word w.Else ∷ the p.Block ∷ []
row_of (else_none e) = []
row_of (path_row {t = t} e x) = base_symbol t.kind ∷ the p.Fields ∷ []
row_of (next_field e f x) = mark s.Dot ∷ name ∷ the p.Fields ∷ []
row_of (no_fields e) = []
row_of (new_row e x) = word w.New ∷ the p.New ∷ []
row_of (freeze_row e f) = word w.Freeze ∷ name ∷ []
row_of (merge_row e f) = word w.Merge ∷ name ∷ []
row_of (input_row {t = t} e) = that t.kind ∷ []
row_of (result_row x) = the p.Call ∷ []
row_of (value_row e x) = the p.Expr ∷ []
row_of (new_plain e x) = name ∷ the p.At ∷ []
row_of (new_temporary e f x) = word w.Tmp ∷ name ∷ the p.At ∷ []
row_of (new_region e f x h y) = word w.Iso ∷ name ∷ the p.At ∷ word w.In ∷ the p.Manager ∷ []
row_of (call_start e x f h y) = word w.Call ∷ the p.CallBase ∷ mark s.Dot ∷ name ∷ the p.CallRest ∷ []
row_of (call_base {t = t} e) = base_symbol t.kind ∷ []
row_of (call_further e f x) = mark s.Dot ∷ name ∷ the p.CallRest ∷ []
row_of (call_args e h x f) = mark s.OpenParen ∷ the p.Args ∷ mark s.CloseParen ∷ []
row_of (no_args e) = []
row_of (first_arg e x y) = the p.Expr ∷ the p.MoreArgs ∷ []
row_of (next_arg e x y) = mark s.Comma ∷ the p.Expr ∷ the p.MoreArgs ∷ []
row_of (no_more_args e) = []
row_of (expr_row x y) = the p.And ∷ the p.OrRest ∷ []
row_of (or_row e h x y) = sign (k.Word w.Or) ∷ the p.And ∷ the p.OrRest ∷ []
row_of (no_or e) = []
row_of (and_row x y) = the p.Not ∷ the p.AndRest ∷ []
row_of (and_further e h x y) = sign (k.Word w.And) ∷ the p.Not ∷ the p.AndRest ∷ []
row_of (no_and e) = []
row_of (not_row e x) = word w.Not ∷ the p.Cmp ∷ []
row_of (no_not e x) = the p.Cmp ∷ []
row_of (cmp_row x y) = the p.Sum ∷ the p.CmpRest ∷ []
row_of (compared {t = t} e h x) = sign t.kind ∷ the p.Sum ∷ []
row_of (not_compared e) = []
row_of (sum_row x y) = the p.Mul ∷ the p.SumRest ∷ []
row_of (sum_further {t = t} e h x y) = sign t.kind ∷ the p.Mul ∷ the p.SumRest ∷ []
row_of (no_sum e) = []
row_of (mul_row x y) = the p.Unary ∷ the p.MulRest ∷ []
row_of (mul_further {t = t} e h x y) = sign t.kind ∷ the p.Unary ∷ the p.MulRest ∷ []
row_of (no_mul e) = []
row_of (minus e x) = mark s.Minus ∷ the p.Primary ∷ []
row_of (no_minus e x) = the p.Primary ∷ []
row_of (literal {t = t} e) = that t.kind ∷ []
row_of (parens e h x f) = mark s.OpenParen ∷ the p.Expr ∷ mark s.CloseParen ∷ []
row_of (size_row e x) = word w.Size ∷ the p.Path ∷ []
row_of (path_value x y) = the p.Path ∷ the p.Is ∷ []
row_of (is_row e f) = word w.Is ∷ word w.Nil ∷ []
row_of (element_of e h x f) = mark s.OpenBracket ∷ the p.Expr ∷ mark s.CloseBracket ∷ []
row_of (no_is e) = []

-- the table has that row
pub row_of-holds : {source : List ℕ} {f : Form} {c d : Counts} {ts us : List Token} {a : Given f} (r : Reads source f c ts a d us)
    → row (phrase_of f) (next ts) ≡ Some (row_of r)
row_of-holds (program_class x y) = class-first x
row_of-holds (program_main e x y) = ap (λ o. row p.Program (Some o)) e
row_of-holds (class_row e f h x) = ap (λ o. row p.Class (Some o)) e
row_of-holds (tmp_class_row e m f h x) = ap (λ o. row p.Class (Some o)) e
row_of-holds (members_row e h x f) = ap (λ o. row p.ClassRest (Some o)) e
row_of-holds (element_row e h x f i) = ap (λ o. row p.ClassRest (Some o)) e
row_of-holds (field_row e h i x j y) = ap (λ o. row p.Members (Some o)) e
row_of-holds (method_row e x f h i j y l m n o) = ap (λ o. row p.Members (Some o)) e
row_of-holds (no_members e) = ap (row p.Members) e
row_of-holds (cap_row e) = cap_of-row _ _ e
row_of-holds (plain_type e) = plain_type_of-row _ _ e
row_of-holds (ref_type x e) = cap-first x
row_of-holds (first_param e h i x y) = ap (λ o. row p.Params (Some o)) e
row_of-holds (no_params e) = ap (row p.Params) e
row_of-holds (next_param e f h i x y) = ap (λ o. row p.MoreParams (Some o)) e
row_of-holds (no_more_params e) = ap (row p.MoreParams) e
row_of-holds (some_result e x) = ap (λ o. row p.Result (Some o)) e
row_of-holds (no_result e) = ap (row p.Result) e
row_of-holds (manager_row e) = manager_of-row _ _ e
row_of-holds (block_row e h x f) = ap (λ o. row p.Block (Some o)) e
row_of-holds (no_stmts e) = ap (row p.Stmts) e
row_of-holds (more_stmts e x y) = e
row_of-holds (let_row e f h i x j y l) = ap (λ o. row p.Stmt (Some o)) e
row_of-holds (assign_row x v e y f) = (path-first x).stmt
row_of-holds (call_row x e) = call-stmt x
row_of-holds (swap_row e f h x i) = ap (λ o. row p.Stmt (Some o)) e
row_of-holds (if_row e x y z) = ap (λ o. row p.Stmt (Some o)) e
row_of-holds (while_row e x y) = ap (λ o. row p.Stmt (Some o)) e
row_of-holds (enter_row e x f h i y v) = ap (λ o. row p.Stmt (Some o)) e
row_of-holds (print_row e x f) = ap (λ o. row p.Stmt (Some o)) e
row_of-holds (collect_row e f) = ap (λ o. row p.Stmt (Some o)) e
row_of-holds (return_row e x f) = ap (λ o. row p.Stmt (Some o)) e
row_of-holds (at_row e h x f) = ap (λ o. row p.At (Some o)) e
row_of-holds (no_at e) = e
row_of-holds (giving_row e f h) = ap (λ o. row p.Giving (Some o)) e
row_of-holds (no_giving e) = e
row_of-holds (else_row e x) = ap (λ o. row p.Else (Some o)) e
row_of-holds (else_none e) = e
row_of-holds (path_row e x) = (base_of-begins _ _ _ e).path
row_of-holds (next_field e f x) = ap (λ o. row p.Fields (Some o)) e
row_of-holds (no_fields e) = e
row_of-holds (new_row e x) = ap (λ o. row p.Right (Some o)) e
row_of-holds (freeze_row e f) = ap (λ o. row p.Right (Some o)) e
row_of-holds (merge_row e f) = ap (λ o. row p.Right (Some o)) e
row_of-holds (input_row e) = input_of-row _ _ e
row_of-holds (result_row x) = call-right x
row_of-holds (value_row e x) = e
row_of-holds (new_plain e x) = ap (λ o. row p.New (Some o)) e
row_of-holds (new_temporary e f x) = ap (λ o. row p.New (Some o)) e
row_of-holds (new_region e f x h y) = ap (λ o. row p.New (Some o)) e
row_of-holds (call_start e x f h y) = ap (λ o. row p.Call (Some o)) e
row_of-holds (call_base e) = (base_of-begins _ _ _ e).call_base
row_of-holds (call_further e f x) = ap (λ o. row p.CallRest (Some o)) e
row_of-holds (call_args e h x f) = ap (λ o. row p.CallRest (Some o)) e
row_of-holds (no_args e) = ap (row p.Args) e
row_of-holds (first_arg e x y) = e
row_of-holds (next_arg e x y) = ap (λ o. row p.MoreArgs (Some o)) e
row_of-holds (no_more_args e) = ap (row p.MoreArgs) e
row_of-holds (expr_row x y) = refl
row_of-holds (or_row e h x y) = ap (λ o. row p.OrRest (Some o)) e
row_of-holds (no_or e) = e
row_of-holds (and_row x y) = refl
row_of-holds (and_further e h x y) = ap (λ o. row p.AndRest (Some o)) e
row_of-holds (no_and e) = e
row_of-holds (not_row e x) = ap (λ o. row p.Not (Some o)) e
row_of-holds (no_not e x) = e
row_of-holds (cmp_row x y) = refl
row_of-holds (compared e h x) = comparison_of-row _ _ e
row_of-holds (not_compared e) = e
row_of-holds (sum_row x y) = refl
row_of-holds (sum_further e h x y) = sum_of-row _ _ e
row_of-holds (no_sum e) = e
row_of-holds (mul_row x y) = refl
row_of-holds (mul_further e h x y) = product_of-row _ _ e
row_of-holds (no_mul e) = e
row_of-holds (minus e x) = ap (λ o. row p.Unary (Some o)) e
row_of-holds (no_minus e x) = e
row_of-holds (literal e) = literal_of-row _ _ e
row_of-holds (parens e h x f) = ap (λ o. row p.Primary (Some o)) e
row_of-holds (size_row e x) = ap (λ o. row p.Primary (Some o)) e
row_of-holds (path_value x y) = path-primary x
row_of-holds (is_row e f) = ap (λ o. row p.Is (Some o)) e
row_of-holds (element_of e h x f) = ap (λ o. row p.Is (Some o)) e
row_of-holds (no_is e) = e
