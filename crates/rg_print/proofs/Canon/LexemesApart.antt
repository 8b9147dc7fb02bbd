-- The lexemes of paths, types, expressions, calls and right sides stand apart, where names and numbers are within their limits.
use Rattle.std.proofs.Common.{◌≡◌, nat_lt, Bool, true, false, List, [], ◌∷◌, Option, None, Some, refl}
use Rattle.rg_base.specs.declared.words.Keyword.TheVariants as w
use Rattle.rg_base.specs.declared.words.Sign.TheVariants as s
use Rattle.rg_tree.specs.declared.rows.BinOp.{BinOp}
use Rattle.rg_tree.specs.declared.rows.BinOp.TheVariants.{Or, And, Eq, Ne, Lt, Le, Gt, Ge, Add, Sub, Mul, Div, Rem}
use Rattle.rg_tree.specs.Tree.{Name, Variable, Path, Ty, int, bool, ref, Expr, number, boolean, nil, path, is_nil, neg, not, binary, size, element}
use Rattle.rg_tree.specs.Tree.{Call, Right, value, new, new_tmp, new_iso, freeze, merge, read, more, result_of}
use Rattle.rg_tree.specs.Canonical.{level, left_level, right_level}
use Rattle.rg_print.proofs.Canon.Lexemes.{Lexeme, word, mark, named, text_of, space, manager_word, op_lexeme, base_lexeme, dotted, path_lexemes}
use Rattle.rg_print.proofs.Canon.Lexemes.{ty_lexemes, enclosed, expr_lexemes, index_lexemes, size_lexemes, more_arg_lexemes, arg_lexemes}
use Rattle.rg_print.proofs.Canon.Lexemes.{call_lexemes, right_lexemes}
use Rattle.rg_print.proofs.Canon.LexemeCuts.{IsName, IsNumber, goes_on, StandApart}

-- Names and numbers within their limits.

abbrev pub NamesPlain : List Name → Type 0
NamesPlain [] = Unit {0}
NamesPlain (n ∷ ns) = IsName n × NamesPlain ns

abbrev pub BasePlain : Variable → Type 0
BasePlain None = Unit {0}
BasePlain (Some n) = IsName n

pub record PathPlain (q : Path) : Type 0 where
  pub base : BasePlain q.base
  pub fields : NamesPlain q.fields

abbrev pub TyPlain : Ty → Type 0
TyPlain int = Unit {0}
TyPlain bool = Unit {0}
TyPlain (ref c n) = IsName n

abbrev pub ExprPlain : Expr → Type 0
ExprPlain (number z) = IsNumber z
ExprPlain (boolean b) = Unit {0}
ExprPlain nil = Unit {0}
ExprPlain (path q) = PathPlain q
ExprPlain (is_nil q) = PathPlain q
ExprPlain (neg a) = ExprPlain a
ExprPlain (not a) = ExprPlain a
ExprPlain (binary op a b) = ExprPlain a × ExprPlain b
ExprPlain (size q) = PathPlain q
ExprPlain (element q e) = PathPlain q × ExprPlain e

abbrev pub ArgsPlain : List Expr → Type 0
ArgsPlain [] = Unit {0}
ArgsPlain (e ∷ es) = ExprPlain e × ArgsPlain es

pub record CallPlain (a : Call) : Type 0 where
  pub target : PathPlain a.target
  pub method : IsName a.method
  pub args : ArgsPlain a.args

abbrev pub SizePlain : Option Expr → Type 0
SizePlain None = Unit {0}
SizePlain (Some e) = ExprPlain e

abbrev pub RightPlain : Right → Type 0
RightPlain (value e) = ExprPlain e
RightPlain (new n o) = IsName n × SizePlain o
RightPlain (new_tmp n o) = IsName n × SizePlain o
RightPlain (new_iso n o m) = IsName n × SizePlain o
RightPlain (freeze n) = IsName n
RightPlain (merge n) = IsName n
RightPlain read = Unit {0}
RightPlain more = Unit {0}
RightPlain (result_of a) = CallPlain a

-- Their lexemes stand apart.

dotted-goes : (fs : List Name) (rest : List Lexeme) → goes_on (text_of rest) ≡ false → goes_on (text_of (dotted fs rest)) ≡ false
dotted-goes [] rest g = g
dotted-goes (f ∷ fs) rest g = refl

dotted-apart : (fs : List Name) (rest : List Lexeme) → NamesPlain fs → goes_on (text_of rest) ≡ false → StandApart rest → StandApart (dotted fs rest)
dotted-apart [] rest n g r = r
dotted-apart (f ∷ fs) rest n g r = (tt, (n.0, dotted-goes fs rest g, dotted-apart fs rest n.1 g r))

base-apart : (b : Variable) (rest : List Lexeme) → BasePlain b → goes_on (text_of rest) ≡ false → StandApart rest → StandApart (base_lexeme b ∷ rest)
base-apart None rest n g r = (g, r)
base-apart (Some x) rest n g r = (n, g, r)

pub path-apart : (q : Path) (rest : List Lexeme) → PathPlain q → goes_on (text_of rest) ≡ false → StandApart rest → StandApart (path_lexemes q rest)
path-apart q rest n g r = base-apart q.base (dotted q.fields rest) n.base (dotted-goes q.fields rest g) (dotted-apart q.fields rest n.fields g r)

pub ty-apart : (t : Ty) (rest : List Lexeme) → TyPlain t → goes_on (text_of rest) ≡ false → StandApart rest → StandApart (ty_lexemes t rest)
ty-apart int rest n g r = (g, r)
ty-apart bool rest n g r = (g, r)
ty-apart (ref c x) rest n g r = (refl, (refl, (n, g, r)))

op-apart : (op : BinOp) (rest : List Lexeme) → StandApart rest → StandApart (space ∷ op_lexeme op ∷ space ∷ rest)
op-apart Or rest r = (refl, (refl, (refl, r)))
op-apart And rest r = (refl, (refl, (refl, r)))
op-apart Eq rest r = (refl, (tt, (refl, r)))
op-apart Ne rest r = (refl, (tt, (refl, r)))
op-apart Lt rest r = (refl, (refl, (refl, r)))
op-apart Le rest r = (refl, (tt, (refl, r)))
op-apart Gt rest r = (refl, (refl, (refl, r)))
op-apart Ge rest r = (refl, (tt, (refl, r)))
op-apart Add rest r = (refl, (tt, (refl, r)))
op-apart Sub rest r = (refl, (tt, (refl, r)))
op-apart Mul rest r = (refl, (tt, (refl, r)))
op-apart Div rest r = (refl, (refl, (refl, r)))
op-apart Rem rest r = (refl, (tt, (refl, r)))

enclosed-apart : (v : Bool) (X : List Lexeme → List Lexeme) → ((rest : List Lexeme) → goes_on (text_of rest) ≡ false → StandApart rest
    → StandApart (X rest))
    → (rest : List Lexeme) → goes_on (text_of rest) ≡ false → StandApart rest → StandApart (enclosed v X rest)
enclosed-apart true X h rest g r = (tt, h (mark s.CloseParen ∷ rest) refl (tt, r))
enclosed-apart false X h rest g r = h rest g r

pub expr-apart : (e : Expr) → ExprPlain e → (rest : List Lexeme) → goes_on (text_of rest) ≡ false → StandApart rest → StandApart (expr_lexemes e rest)
expr-apart (number z) n rest g r = (n, g, r)
expr-apart (boolean b) n rest g r = (g, r)
expr-apart nil n rest g r = (g, r)
expr-apart (path q) n rest g r = path-apart q rest n g r
expr-apart (is_nil q) n rest g r = path-apart q (space ∷ word w.Is ∷ space ∷ word w.Nil ∷ rest) n refl (refl, (refl, (refl, (g, r))))
expr-apart (neg a) n rest g r = (tt, enclosed-apart (nat_lt (level a) 7) (expr_lexemes a) (expr-apart a n) rest g r)
expr-apart (not a) n rest g r = (refl, (refl, enclosed-apart (nat_lt (level a) 3) (expr_lexemes a) (expr-apart a n) rest g r))
expr-apart (binary op a b) n rest g r =
    let right = enclosed (nat_lt (level b) (right_level op)) (expr_lexemes b) rest in
    enclosed-apart (nat_lt (level a) (left_level op)) (expr_lexemes a) (expr-apart a n.0) (space ∷ op_lexeme op ∷ space ∷ right) refl
    (op-apart op right (enclosed-apart (nat_lt (level b) (right_level op)) (expr_lexemes b) (expr-apart b n.1) rest g r))
expr-apart (size q) n rest g r = (refl, (refl, path-apart q rest n g r))
expr-apart (element q e) n rest g r =
    path-apart q (mark s.OpenBracket ∷ expr_lexemes e (mark s.CloseBracket ∷ rest)) n.0 refl
    (tt, expr-apart e n.1 (mark s.CloseBracket ∷ rest) refl (tt, r))

pub index-apart : (e : Expr) (rest : List Lexeme) → ExprPlain e → StandApart rest → StandApart (index_lexemes e rest)
index-apart e rest n r = (tt, expr-apart e n (mark s.CloseBracket ∷ rest) refl (tt, r))

size-goes : (o : Option Expr) (rest : List Lexeme) → goes_on (text_of rest) ≡ false → goes_on (text_of (size_lexemes o rest)) ≡ false
size-goes None rest g = g
size-goes (Some e) rest g = refl

size-apart : (o : Option Expr) (rest : List Lexeme) → SizePlain o → StandApart rest → StandApart (size_lexemes o rest)
size-apart None rest n r = r
size-apart (Some e) rest n r = (refl, index-apart e rest n r)

more_args-goes : (es : List Expr) (rest : List Lexeme) → goes_on (text_of rest) ≡ false → goes_on (text_of (more_arg_lexemes es rest)) ≡ false
more_args-goes [] rest g = g
more_args-goes (e ∷ es) rest g = refl

more_args-apart : (es : List Expr) (rest : List Lexeme) → ArgsPlain es → goes_on (text_of rest) ≡ false → StandApart rest
    → StandApart (more_arg_lexemes es rest)
more_args-apart [] rest n g r = r
more_args-apart (e ∷ es) rest n g r =
    (tt, (refl, expr-apart e n.0 (more_arg_lexemes es rest) (more_args-goes es rest g) (more_args-apart es rest n.1 g r)))

args-apart : (es : List Expr) (rest : List Lexeme) → ArgsPlain es → goes_on (text_of rest) ≡ false → StandApart rest
    → StandApart (arg_lexemes es rest)
args-apart [] rest n g r = r
args-apart (e ∷ es) rest n g r = expr-apart e n.0 (more_arg_lexemes es rest) (more_args-goes es rest g) (more_args-apart es rest n.1 g r)

pub call-apart : (a : Call) (rest : List Lexeme) → CallPlain a → StandApart rest → StandApart (call_lexemes a rest)
call-apart a rest n r = (
  refl,
  (
    refl,
    path-apart a.target (mark s.Dot ∷ named a.method ∷ mark s.OpenParen ∷ arg_lexemes a.args (mark s.CloseParen ∷ rest)) n.target refl
        (tt, (n.method, refl, (tt, args-apart a.args (mark s.CloseParen ∷ rest) n.args refl (tt, r)))),
  ),
)

pub right-apart : (a : Right) (rest : List Lexeme) → RightPlain a → goes_on (text_of rest) ≡ false → StandApart rest
    → StandApart (right_lexemes a rest)
right-apart (value e) rest n g r = expr-apart e n rest g r
right-apart (new x o) rest n g r = (refl, (refl, (n.0, size-goes o rest g, size-apart o rest n.1 r)))
right-apart (new_tmp x o) rest n g r = (refl, (refl, (refl, (refl, (n.0, size-goes o rest g, size-apart o rest n.1 r)))))
right-apart (new_iso x o m) rest n g r =
    let all = space ∷ word w.In ∷ space ∷ word (manager_word m) ∷ rest in
    (refl, (refl, (refl, (refl, (n.0, size-goes o all refl, size-apart o all n.1 (refl, (refl, (refl, (g, r)))))))))
right-apart read rest n g r = (g, r)
right-apart more rest n g r = (g, r)
right-apart (result_of a) rest n g r = call-apart a rest n r
right-apart _ rest n g r = (refl, (refl, (n, g, r)))
