-- The canonical text as a list of lexemes: blanks, words, signs, names and numbers, each list in front of what follows it.
use Rattle.std.proofs.Common.{ℕ, ℤ, suc, ◌*◌, Bool, true, false, nat_lt, List, [], ◌∷◌, ◌++◌, replicate, Option, None, Some, codes}
use Rattle.std.specs.Fmt.{signed_decimal}
use Rattle.rg_base.specs.declared.words.Cap.{Cap}
use Rattle.rg_base.specs.declared.words.Cap.TheVariants.{Mut, Tmp, Paused, Imm, Iso}
use Rattle.rg_base.specs.declared.words.Manager.{Manager}
use Rattle.rg_base.specs.declared.words.Manager.TheVariants.{Arena, Count, Trace}
use Rattle.rg_base.specs.declared.words.Keyword.{Keyword}
use Rattle.rg_base.specs.declared.words.Keyword.TheVariants as w
use Rattle.rg_base.specs.declared.words.Sign.{Sign}
use Rattle.rg_base.specs.declared.words.Sign.TheVariants as s
use Rattle.rg_tree.specs.declared.rows.BinOp.{BinOp}
use Rattle.rg_tree.specs.declared.rows.BinOp.TheVariants.{Or, And, Eq, Ne, Lt, Le, Gt, Ge, Add, Sub, Mul, Div, Rem}
use Rattle.rg_tree.specs.Tree.{Name, Variable, Path, Ty, int, bool, ref, Expr, number, boolean, nil, path, is_nil, neg, not, binary, size, element}
use Rattle.rg_tree.specs.Tree.{Call, Right, value, new, new_tmp, new_iso, freeze, merge, read, more, result_of, Stmt, stmt, StmtKind, declare, assign}
use Rattle.rg_tree.specs.Tree.{assign_element, call, swap, branch, while, enter, print, collect, return, Else, no_else, otherwise, Block, empty, then}
use Rattle.rg_tree.specs.Tree.{Param, Member, field, method, Class, Tree}
use Rattle.rg_tree.specs.Canonical.{level, left_level, right_level}

pub data Lexeme : Type 0 where
  -- blanks, maybe none
  gap : List ℕ → Lexeme
  word : Keyword → Lexeme
  mark : Sign → Lexeme
  named : Name → Lexeme
  numeral : ℤ → Lexeme

-- the bytes of a reserved word
abbrev pub word_text : Keyword → List ℕ
word_text w.Class = codes "class"
word_text w.Tmp = codes "tmp"
word_text w.Mut = codes "mut"
word_text w.Paused = codes "paused"
word_text w.Imm = codes "imm"
word_text w.Iso = codes "iso"
word_text w.Int = codes "int"
word_text w.Bool = codes "bool"
word_text w.Def = codes "def"
word_text w.Main = codes "main"
word_text w.Arena = codes "arena"
word_text w.Count = codes "count"
word_text w.Trace = codes "trace"
word_text w.Let = codes "let"
word_text w.If = codes "if"
word_text w.Else = codes "else"
word_text w.While = codes "while"
word_text w.Return = codes "return"
word_text w.Print = codes "print"
word_text w.Read = codes "read"
word_text w.More = codes "more"
word_text w.Call = codes "call"
word_text w.New = codes "new"
word_text w.Enter = codes "enter"
word_text w.As = codes "as"
word_text w.In = codes "in"
word_text w.Is = codes "is"
word_text w.Freeze = codes "freeze"
word_text w.Merge = codes "merge"
word_text w.Swap = codes "swap"
word_text w.Collect = codes "collect"
word_text w.Nil = codes "nil"
word_text w.True = codes "true"
word_text w.False = codes "false"
word_text w.And = codes "and"
word_text w.Or = codes "or"
word_text w.Not = codes "not"
word_text w.SelfWord = codes "self"
word_text w.Giving = codes "giving"
word_text w.Size = codes "size"
word_text w.Cown = codes "cown"
word_text w.When = codes "when"

-- the bytes of a sign
abbrev pub sign_text : Sign → List ℕ
sign_text s.OpenBrace = codes "{"
sign_text s.CloseBrace = codes "}"
sign_text s.OpenParen = codes "("
sign_text s.CloseParen = codes ")"
sign_text s.OpenBracket = codes "["
sign_text s.CloseBracket = codes "]"
sign_text s.Colon = codes ":"
sign_text s.Semicolon = codes ";"
sign_text s.Comma = codes ","
sign_text s.Dot = codes "."
sign_text s.Assign = codes "="
sign_text s.Equal = codes "=="
sign_text s.NotEqual = codes "!="
sign_text s.Less = codes "<"
sign_text s.AtMost = codes "<="
sign_text s.Greater = codes ">"
sign_text s.AtLeast = codes ">="
sign_text s.Plus = codes "+"
sign_text s.Minus = codes "-"
sign_text s.Star = codes "*"
sign_text s.Slash = codes "/"
sign_text s.Percent = codes "%"

-- the bytes of a lexeme
abbrev pub lexeme_text : Lexeme → List ℕ
lexeme_text (gap g) = g
lexeme_text (word x) = word_text x
lexeme_text (mark x) = sign_text x
lexeme_text (named n) = n
lexeme_text (numeral z) = signed_decimal z

-- the bytes of lexemes
abbrev pub text_of : List Lexeme → List ℕ
text_of [] = []
text_of (x ∷ xs) = lexeme_text x ++ text_of xs

-- one blank
abbrev pub space : Lexeme
space = gap (32 ∷ [])

-- the end of a line
abbrev pub newline : Lexeme
newline = gap (10 ∷ [])

-- two blanks for each open block
abbrev pub indent : ℕ → Lexeme
indent d = gap (replicate (2 * d) 32)

abbrev pub cap_word : Cap → Keyword
cap_word Mut = w.Mut
cap_word Tmp = w.Tmp
cap_word Paused = w.Paused
cap_word Imm = w.Imm
cap_word Iso = w.Iso

abbrev pub manager_word : Manager → Keyword
manager_word Arena = w.Arena
manager_word Count = w.Count
manager_word Trace = w.Trace

abbrev pub op_lexeme : BinOp → Lexeme
op_lexeme Or = word w.Or
op_lexeme And = word w.And
op_lexeme Eq = mark s.Equal
op_lexeme Ne = mark s.NotEqual
op_lexeme Lt = mark s.Less
op_lexeme Le = mark s.AtMost
op_lexeme Gt = mark s.Greater
op_lexeme Ge = mark s.AtLeast
op_lexeme Add = mark s.Plus
op_lexeme Sub = mark s.Minus
op_lexeme Mul = mark s.Star
op_lexeme Div = mark s.Slash
op_lexeme Rem = mark s.Percent

-- what begins a path
abbrev pub base_lexeme : Variable → Lexeme
base_lexeme None = word w.SelfWord
base_lexeme (Some x) = named x

-- fields of a path
abbrev pub dotted : List Name → List Lexeme → List Lexeme
dotted [] rest = rest
dotted (f ∷ fs) rest = mark s.Dot ∷ named f ∷ dotted fs rest

abbrev pub path_lexemes : Path → List Lexeme → List Lexeme
path_lexemes q rest = base_lexeme q.base ∷ dotted q.fields rest

abbrev pub ty_lexemes : Ty → List Lexeme → List Lexeme
ty_lexemes int rest = word w.Int ∷ rest
ty_lexemes bool rest = word w.Bool ∷ rest
ty_lexemes (ref c n) rest = word (cap_word c) ∷ space ∷ named n ∷ rest

abbrev pub boolean_word : Bool → Keyword
boolean_word true = w.True
boolean_word false = w.False

-- in parentheses, where it can't stand bare
abbrev pub enclosed : Bool → (List Lexeme → List Lexeme) → List Lexeme → List Lexeme
enclosed true inner rest = mark s.OpenParen ∷ inner (mark s.CloseParen ∷ rest)
enclosed false inner rest = inner rest

abbrev pub expr_lexemes : Expr → List Lexeme → List Lexeme
expr_lexemes (number z) rest = numeral z ∷ rest
expr_lexemes (boolean b) rest = word (boolean_word b) ∷ rest
expr_lexemes nil rest = word w.Nil ∷ rest
expr_lexemes (path q) rest = path_lexemes q rest
expr_lexemes (is_nil q) rest = path_lexemes q (space ∷ word w.Is ∷ space ∷ word w.Nil ∷ rest)
expr_lexemes (neg a) rest = mark s.Minus ∷ enclosed (nat_lt (level a) 7) (expr_lexemes a) rest
expr_lexemes (not a) rest = word w.Not ∷ space ∷ enclosed (nat_lt (level a) 3) (expr_lexemes a) rest
expr_lexemes (binary op a b) rest =
    enclosed (nat_lt (level a) (left_level op)) (expr_lexemes a)
    (space ∷ op_lexeme op ∷ space ∷ enclosed (nat_lt (level b) (right_level op)) (expr_lexemes b) rest)
expr_lexemes (size q) rest = word w.Size ∷ space ∷ path_lexemes q rest
expr_lexemes (element q e) rest = path_lexemes q (mark s.OpenBracket ∷ expr_lexemes e (mark s.CloseBracket ∷ rest))

-- an expression in brackets
abbrev pub index_lexemes : Expr → List Lexeme → List Lexeme
index_lexemes e rest = mark s.OpenBracket ∷ expr_lexemes e (mark s.CloseBracket ∷ rest)

-- a size behind a class, where there is one
abbrev pub size_lexemes : Option Expr → List Lexeme → List Lexeme
size_lexemes None rest = rest
size_lexemes (Some e) rest = space ∷ index_lexemes e rest

-- arguments behind others
abbrev pub more_arg_lexemes : List Expr → List Lexeme → List Lexeme
more_arg_lexemes [] rest = rest
more_arg_lexemes (e ∷ es) rest = mark s.Comma ∷ space ∷ expr_lexemes e (more_arg_lexemes es rest)

abbrev pub arg_lexemes : List Expr → List Lexeme → List Lexeme
arg_lexemes [] rest = rest
arg_lexemes (e ∷ es) rest = expr_lexemes e (more_arg_lexemes es rest)

abbrev pub call_lexemes : Call → List Lexeme → List Lexeme
call_lexemes a rest =
    word w.Call ∷ space ∷ path_lexemes a.target (mark s.Dot ∷ named a.method ∷ mark s.OpenParen ∷ arg_lexemes a.args (mark s.CloseParen ∷ rest))

abbrev pub right_lexemes : Right → List Lexeme → List Lexeme
right_lexemes (value e) rest = expr_lexemes e rest
right_lexemes (new n o) rest = word w.New ∷ space ∷ named n ∷ size_lexemes o rest
right_lexemes (new_tmp n o) rest = word w.New ∷ space ∷ word w.Tmp ∷ space ∷ named n ∷ size_lexemes o rest
right_lexemes (new_iso n o m) rest =
    word w.New ∷ space ∷ word w.Iso ∷ space ∷ named n ∷ size_lexemes o (space ∷ word w.In ∷ space ∷ word (manager_word m) ∷ rest)
right_lexemes (freeze n) rest = word w.Freeze ∷ space ∷ named n ∷ rest
right_lexemes (merge n) rest = word w.Merge ∷ space ∷ named n ∷ rest
right_lexemes read rest = word w.Read ∷ rest
right_lexemes more rest = word w.More ∷ rest
right_lexemes (result_of a) rest = call_lexemes a rest

-- what is given behind the block of an enter, if anything
abbrev pub giving_lexemes : Option Name → List Lexeme → List Lexeme
giving_lexemes None rest = rest
giving_lexemes (Some n) rest = space ∷ word w.Giving ∷ space ∷ named n ∷ mark s.Semicolon ∷ rest

-- a block at a depth, without the end of its last line
abbrev pub braces : ℕ → (List Lexeme → List Lexeme) → List Lexeme → List Lexeme
braces d body rest = mark s.OpenBrace ∷ newline ∷ body (indent d ∷ mark s.CloseBrace ∷ rest)

abbrev mutual
  -- a statement on its lines
  pub stmt_lexemes : ℕ → Stmt → List Lexeme → List Lexeme
  stmt_lexemes d (stmt line k) rest = indent d ∷ kind_lexemes d k (newline ∷ rest)

  -- without the indent, and the end of the last line
  pub kind_lexemes : ℕ → StmtKind → List Lexeme → List Lexeme
  kind_lexemes d (declare n t r) rest =
      word w.Let ∷ space ∷ named n ∷ mark s.Colon ∷ space ∷ ty_lexemes t (space ∷ mark s.Assign ∷ space ∷ right_lexemes r (mark s.Semicolon ∷ rest))
  kind_lexemes d (assign q r) rest = path_lexemes q (space ∷ mark s.Assign ∷ space ∷ right_lexemes r (mark s.Semicolon ∷ rest))
  kind_lexemes d (assign_element q e r) rest =
      path_lexemes q (index_lexemes e (space ∷ mark s.Assign ∷ space ∷ right_lexemes r (mark s.Semicolon ∷ rest)))
  kind_lexemes d (call a) rest = call_lexemes a (mark s.Semicolon ∷ rest)
  kind_lexemes d (swap n q) rest = word w.Swap ∷ space ∷ named n ∷ mark s.Comma ∷ space ∷ path_lexemes q (mark s.Semicolon ∷ rest)
  kind_lexemes d (branch e b o) rest = word w.If ∷ space ∷ expr_lexemes e (space ∷ braces d (block_lexemes (suc d) b) (else_lexemes d o rest))
  kind_lexemes d (while e b) rest = word w.While ∷ space ∷ expr_lexemes e (space ∷ braces d (block_lexemes (suc d) b) rest)
  kind_lexemes d (enter q n b o) rest =
      word w.Enter ∷ space ∷ path_lexemes q
      (space ∷ word w.As ∷ space ∷ named n ∷ space ∷ braces d (block_lexemes (suc d) b) (giving_lexemes o rest))
  kind_lexemes d (print e) rest = word w.Print ∷ space ∷ expr_lexemes e (mark s.Semicolon ∷ rest)
  kind_lexemes d collect rest = word w.Collect ∷ mark s.Semicolon ∷ rest
  kind_lexemes d (return e) rest = word w.Return ∷ space ∷ expr_lexemes e (mark s.Semicolon ∷ rest)

  pub else_lexemes : ℕ → Else → List Lexeme → List Lexeme
  else_lexemes d no_else rest = rest
  else_lexemes d (otherwise b) rest = space ∷ word w.Else ∷ space ∷ braces d (block_lexemes (suc d) b) rest

  pub block_lexemes : ℕ → Block → List Lexeme → List Lexeme
  block_lexemes d empty rest = rest
  block_lexemes d (then a b) rest = stmt_lexemes d a (block_lexemes d b rest)

-- parameters behind others
abbrev pub more_param_lexemes : List Param → List Lexeme → List Lexeme
more_param_lexemes [] rest = rest
more_param_lexemes (p ∷ ps) rest = mark s.Comma ∷ space ∷ named p.name ∷ mark s.Colon ∷ space ∷ ty_lexemes p.ty (more_param_lexemes ps rest)

abbrev pub param_lexemes : List Param → List Lexeme → List Lexeme
param_lexemes [] rest = rest
param_lexemes (p ∷ ps) rest = named p.name ∷ mark s.Colon ∷ space ∷ ty_lexemes p.ty (more_param_lexemes ps rest)

abbrev pub result_lexemes : Option Ty → List Lexeme → List Lexeme
result_lexemes None rest = rest
result_lexemes (Some t) rest = mark s.Colon ∷ space ∷ ty_lexemes t rest

abbrev pub member_lexemes : Member → List Lexeme → List Lexeme
member_lexemes (field f) rest = indent 1 ∷ named f.name ∷ mark s.Colon ∷ space ∷ ty_lexemes f.ty (mark s.Semicolon ∷ newline ∷ rest)
member_lexemes (method m) rest =
    indent 1 ∷ word w.Def ∷ space ∷ word (cap_word m.receiver) ∷ space ∷ named m.name ∷ mark s.OpenParen
    ∷ param_lexemes m.params (mark s.CloseParen ∷ result_lexemes m.result (space ∷ braces 1 (block_lexemes 2 m.body) (newline ∷ rest)))

abbrev pub members_lexemes : List Member → List Lexeme → List Lexeme
members_lexemes [] rest = rest
members_lexemes (m ∷ ms) rest = member_lexemes m (members_lexemes ms rest)

-- class, or tmp class
abbrev pub class_lexemes : Bool → List Lexeme → List Lexeme
class_lexemes false rest = word w.Class ∷ rest
class_lexemes true rest = word w.Tmp ∷ space ∷ word w.Class ∷ rest

-- what stands behind the name of a class and a blank
abbrev pub rest_lexemes : (element : Option Ty) → List Member → List Lexeme → List Lexeme
rest_lexemes None ms rest = mark s.OpenBrace ∷ newline ∷ members_lexemes ms (mark s.CloseBrace ∷ newline ∷ rest)
rest_lexemes (Some t) ms rest = mark s.OpenBracket ∷ ty_lexemes t (mark s.CloseBracket ∷ mark s.Semicolon ∷ newline ∷ rest)

abbrev pub one_class_lexemes : Class → List Lexeme → List Lexeme
one_class_lexemes c rest = class_lexemes c.is_tmp (space ∷ named c.name ∷ space ∷ rest_lexemes c.element c.members rest)

abbrev pub classes_lexemes : List Class → List Lexeme → List Lexeme
classes_lexemes [] rest = rest
classes_lexemes (c ∷ cs) rest = one_class_lexemes c (classes_lexemes cs rest)

-- a whole program
abbrev pub program_lexemes : Tree → List Lexeme
program_lexemes r =
    classes_lexemes r.classes (word w.Main ∷ space ∷ word (manager_word r.manager) ∷ space ∷ braces 0 (block_lexemes 1 r.body) (newline ∷ []))
