-- What the reading of each form tells of its canonical lexemes: that they stand apart, and are read with the same counts; of the
-- parts of a statement, that they fit the limits.
use Rattle.std.proofs.Common.{◌≡◌, ℕ, zero, suc, ◌+◌, ◌*◌, true, false, List, [], ◌∷◌, length, map, replicate, Option, Some, None, refl, ap, subst}
use Rattle.std.specs.List.{list_all}
use Rattle.rg_base.specs.declared.words.Keyword.TheVariants as w
use Rattle.rg_base.specs.declared.words.Sign.TheVariants as s
use Rattle.rg_base.specs.declared.token.Kind.{Kind}
use Rattle.rg_base.specs.declared.token.Kind.TheVariants as k
use Rattle.rg_base.specs.declared.token.Token.{Token}
use Rattle.rg_base.specs.Pieces.{is_blank}
use Rattle.rg_base.specs.Tokens.{line_behind}
use Rattle.rg_tree.specs.declared.counts.Counts.{Counts}
use Rattle.rg_tree.specs.Tree.{Name, Variable, Path, Ty, int, bool, Expr, Right, read, more, Stmt, stmt, StmtKind, assign, assign_element}
use Rattle.rg_tree.specs.Tree.{Else, Block, empty, then, Param, Member, Class, Tree}
use Rattle.rg_tree.specs.Lineless.{kind_lineless, stmt_lineless, block_lineless, else_lineless, member_lineless, class_lineless, lineless}
use Rattle.rg_tree.specs.Phrases.{the}
use Rattle.rg_tree.specs.Phrases as p
use Rattle.rg_tree.specs.Table.{row}
use Rattle.rg_tree.specs.Operators.{plain_type_of, base_of, input_of}
use Rattle.rg_tree.specs.Forms as form
use Rattle.rg_tree.specs.Forms.{Form, Given}
use Rattle.rg_tree.specs.Grammar.{Reads, assigned, assign_row}
use Rattle.rg_print.proofs.Canon.Lexemes.{Lexeme, text_of, newline, base_lexeme, path_lexemes, braces, stmt_lexemes, kind_lexemes, else_lexemes}
use Rattle.rg_print.proofs.Canon.Lexemes.{block_lexemes, more_param_lexemes, param_lexemes, result_lexemes, members_lexemes, one_class_lexemes}
use Rattle.rg_print.proofs.Canon.Lexemes.{giving_lexemes, rest_lexemes, program_lexemes}
use Rattle.rg_print.proofs.Canon.LexemeCuts.{tokens_at, IsName, goes_on, StandApart}
use Rattle.rg_print.proofs.Canon.FineTokens.{FineKind}
use Rattle.rg_print.proofs.Canon.LexemesApart.{NamesPlain, BasePlain, PathPlain, TyPlain}
use Rattle.rg_print.proofs.Canon.Readings.{ends-all, first_kind, Ends0, depth, Spelt, Read, path-read}
use Rattle.rg_print.proofs.Canon.PartReads.{Fits, ArgsFit, AtFits, CallFits, RightFits, leads}
use Rattle.rg_print.proofs.Canon.SameLines.{rest_lineless}
use Rattle.rg_print.proofs.Canon.ExprLimits.{depth_at}

-- What begins a statement.

pub record StmtBegins (o : Option Kind) : Type 0 where
  pub stmts : row p.Stmts o ≡ Some (the p.Stmt ∷ the p.Stmts ∷ [])
  pub no_else : row p.Else o ≡ Some []
  pub no_giving : row p.Giving o ≡ Some []

-- a token that goes on no statement
pub record EndsStmt (o : Option Kind) : Type 0 where
  pub no_else : row p.Else o ≡ Some []
  pub no_giving : row p.Giving o ≡ Some []

-- paths and statements begin so
pub base-begins : (b : Variable) (xs : List Lexeme) → StmtBegins (first_kind (base_lexeme b ∷ xs))
base-begins None xs = record { stmts = refl; no_else = refl; no_giving = refl }
base-begins (Some x) xs = record { stmts = refl; no_else = refl; no_giving = refl }

pub stmt-begins : (n : ℕ) (a : Stmt) (rest : List Lexeme) → StmtBegins (first_kind (stmt_lexemes n a rest))
stmt-begins n (stmt l (assign q r)) rest = base-begins q.base _
stmt-begins n (stmt l (assign_element q e r)) rest = base-begins q.base _
stmt-begins n (stmt l _) rest = record { stmts = refl; no_else = refl; no_giving = refl }

-- neither an else nor what is given comes behind a statement
pub block-begins : (n : ℕ) (b : Block) (rest : List Lexeme) → first_kind rest ≡ Some (k.Mark s.CloseBrace)
    → EndsStmt (first_kind (block_lexemes n b rest))
block-begins n empty rest h = rw h (record { no_else = refl; no_giving = refl })
block-begins n (then a b) rest h =
    let r = stmt-begins n a (block_lexemes n b rest) in record { no_else = r.no_else; no_giving = r.no_giving }

-- What ends an expression.

pub ends-brace : Ends0 (Some (k.Mark s.OpenBrace))
ends-brace = ends-all refl refl refl refl refl refl refl

pub ends-semicolon : Ends0 (Some (k.Mark s.Semicolon))
ends-semicolon = ends-all refl refl refl refl refl refl refl

-- an indent is blank
pub blanks-blank : (n : ℕ) → list_all is_blank (replicate n 32) ≡ true
blanks-blank zero = refl
blanks-blank (suc n) = blanks-blank n

-- parameters and results are followed by no letter
pub more_params-goes : (ps : List Param) (rest : List Lexeme) → goes_on (text_of rest) ≡ false
    → goes_on (text_of (more_param_lexemes ps rest)) ≡ false
more_params-goes [] rest g = g
more_params-goes (q ∷ ps) rest g = refl

-- what words and names tell
pub plain_type-plain : (x : Kind) (t : Ty) → plain_type_of x ≡ Some t → TyPlain t
plain_type-plain (k.Word w.Int) t h = let e : int ≡ t = cc in subst TyPlain e tt
plain_type-plain (k.Word w.Bool) t h = let e : bool ≡ t = cc in subst TyPlain e tt
plain_type-plain _ t h = cc

pub base-plain : (x : Kind) (n : Name) (b : Variable) → base_of x n ≡ Some b → FineKind x n → BasePlain b
base-plain k.Name n b h f = let e : Some n ≡ b = cc in subst BasePlain e f
base-plain (k.Word w.SelfWord) n b h f = let e : None ≡ b = cc in subst BasePlain e tt
base-plain _ n b h f = cc

pub input-fits : (x : Kind) (r : Right) (c : Counts) → input_of x ≡ Some r → RightFits c r c
input-fits (k.Word w.Read) r c h = let e : read ≡ r = cc in subst (λ z. RightFits c z c) e refl
input-fits (k.Word w.More) r c h = let e : more ≡ r = cc in subst (λ z. RightFits c z c) e refl
input-fits _ r c h = cc

-- what a statement says
abbrev pub kind_of : Stmt → StmtKind
kind_of (stmt l x) = x

module _ (S : List ℕ) where
  -- a reading that gives the same up to lines
  pub record Alike (f : Form) (erase : Given f → Given f) (c : Counts) (ts : List Token) (a : Given f) (d : Counts)
      (rest : List Lexeme) : Type 0 where
    pub tree : Given f
    pub same : erase tree ≡ erase a
    pub read : Read S f c ts tree d rest

  -- what a statement says, read with some line
  pub record KindRead (c : Counts) (ts : List Token) (a : StmtKind) (d : Counts) (rest : List Lexeme) : Type 0 where
    pub at : ℕ
    pub kind : StmtKind
    pub same : kind_lineless kind ≡ kind_lineless a
    pub read : Read S form.Stmt c ts (stmt at kind) d rest

  -- The lexemes of each kind of phrase stand apart, and are read with these counts: what a statement says, the statements of a
  -- block, a block, what stands behind the first block of an if, parameters, a result, members, a class, a program.

  pub record KindWritten (c : Counts) (a : StmtKind) (d : Counts) : Type 0 where
    pub apart : (n : ℕ) (rest : List Lexeme) → StandApart rest → StandApart (kind_lexemes n a rest)
    pub reads : (n from line : ℕ) (rest : List Lexeme) → EndsStmt (first_kind rest) → Spelt S from (kind_lexemes n a rest)
        → KindRead c (tokens_at from line (kind_lexemes n a rest)) a d rest

  pub record BlockWritten (c : Counts) (b : Block) (d : Counts) : Type 0 where
    pub apart : (n : ℕ) (rest : List Lexeme) → StandApart rest → StandApart (block_lexemes n b rest)
    pub reads : (n from line : ℕ) (rest : List Lexeme) → first_kind rest ≡ Some (k.Mark s.CloseBrace) → Spelt S from (block_lexemes n b rest)
        → Alike form.Stmts block_lineless c (tokens_at from line (block_lexemes n b rest)) b d rest

  pub record BracesWritten (c : Counts) (b : Block) (d : Counts) : Type 0 where
    pub apart : (n : ℕ) (rest : List Lexeme) → StandApart rest → StandApart (braces n (block_lexemes (suc n) b) rest)
    pub reads : (n from line : ℕ) (rest : List Lexeme) → Spelt S from (braces n (block_lexemes (suc n) b) rest)
        → Alike form.Block block_lineless c (tokens_at from line (braces n (block_lexemes (suc n) b) rest)) b d rest

  pub record ElseWritten (c : Counts) (o : Else) (d : Counts) : Type 0 where
    pub apart : (n : ℕ) (rest : List Lexeme) → StandApart rest → StandApart (else_lexemes n o rest)
    pub reads : (n from line : ℕ) (rest : List Lexeme) → row p.Else (first_kind rest) ≡ Some [] → Spelt S from (else_lexemes n o rest)
        → Alike form.Else else_lineless c (tokens_at from line (else_lexemes n o rest)) o d rest

  pub record GivingWritten (c : Counts) (o : Option Name) (d : Counts) : Type 0 where
    pub apart : (rest : List Lexeme) → StandApart rest → StandApart (giving_lexemes o rest)
    pub reads : (from line : ℕ) (rest : List Lexeme) → row p.Giving (first_kind rest) ≡ Some [] → Spelt S from (giving_lexemes o rest)
        → Read S form.Giving c (tokens_at from line (giving_lexemes o rest)) o d rest

  pub record MoreParamsWritten (c : Counts) (ps : List Param) (d : Counts) : Type 0 where
    pub apart : (rest : List Lexeme) → goes_on (text_of rest) ≡ false → StandApart rest → StandApart (more_param_lexemes ps rest)
    pub reads : (from line : ℕ) (rest : List Lexeme) → first_kind rest ≡ Some (k.Mark s.CloseParen) → Spelt S from (more_param_lexemes ps rest)
        → Read S form.MoreParams c (tokens_at from line (more_param_lexemes ps rest)) ps d rest

  pub record ParamsWritten (c : Counts) (ps : List Param) (d : Counts) : Type 0 where
    pub apart : (rest : List Lexeme) → goes_on (text_of rest) ≡ false → StandApart rest → StandApart (param_lexemes ps rest)
    pub reads : (from line : ℕ) (rest : List Lexeme) → first_kind rest ≡ Some (k.Mark s.CloseParen) → Spelt S from (param_lexemes ps rest)
        → Read S form.Params c (tokens_at from line (param_lexemes ps rest)) ps d rest

  pub record ResultWritten (c : Counts) (o : Option Ty) (d : Counts) : Type 0 where
    pub apart : (rest : List Lexeme) → goes_on (text_of rest) ≡ false → StandApart rest → StandApart (result_lexemes o rest)
    pub reads : (from line : ℕ) (rest : List Lexeme) → first_kind rest ≡ Some (k.Mark s.OpenBrace) → Spelt S from (result_lexemes o rest)
        → Read S form.Result c (tokens_at from line (result_lexemes o rest)) o d rest

  pub record MembersWritten (c : Counts) (ms : List Member) (d : Counts) : Type 0 where
    pub apart : (rest : List Lexeme) → StandApart rest → StandApart (members_lexemes ms rest)
    pub reads : (from line : ℕ) (rest : List Lexeme) → first_kind rest ≡ Some (k.Mark s.CloseBrace) → Spelt S from (members_lexemes ms rest)
        → Alike form.Members (map member_lineless) c (tokens_at from line (members_lexemes ms rest)) ms d rest

  pub record ClassRestWritten (c : Counts) (a : Given form.ClassRest) (d : Counts) : Type 0 where
    pub apart : (rest : List Lexeme) → StandApart rest → StandApart (rest_lexemes a.0 a.1 rest)
    pub reads : (from line : ℕ) (rest : List Lexeme) → Spelt S from (rest_lexemes a.0 a.1 rest)
        → Alike form.ClassRest rest_lineless c (tokens_at from line (rest_lexemes a.0 a.1 rest)) a d rest

  pub record ClassWritten (c : Counts) (a : Class) (d : Counts) : Type 0 where
    pub apart : (rest : List Lexeme) → StandApart rest → StandApart (one_class_lexemes a rest)
    pub reads : (from line : ℕ) (rest : List Lexeme) → Spelt S from (one_class_lexemes a rest)
        → Alike form.Class class_lineless c (tokens_at from line (one_class_lexemes a rest)) a d rest

  pub record ProgramWritten (c : Counts) (r : Tree) (d : Counts) : Type 0 where
    pub apart : StandApart (program_lexemes r)
    pub reads : (from line : ℕ) → Spelt S from (program_lexemes r)
        → Alike form.Program lineless c (tokens_at from line (program_lexemes r)) r d []

  -- what a reading tells
  abbrev pub Told : (f : Form) → Counts → Given f → Counts → Type 0
  Told form.Program c a d = ProgramWritten c a d
  Told form.Class c a d = ClassWritten c a d
  Told form.ClassRest c a d = ClassRestWritten c a d
  Told form.Members c a d = MembersWritten c a d
  Told form.Cap c a d = c ≡ d
  Told form.Type' c a d = TyPlain a × (c ≡ d)
  Told form.Params c a d = ParamsWritten c a d
  Told form.MoreParams c a d = MoreParamsWritten c a d
  Told form.Result c a d = ResultWritten c a d
  Told form.Manager c a d = c ≡ d
  Told form.Block c a d = BracesWritten c a d
  Told form.Stmts c a d = BlockWritten c a d
  Told form.Stmt c a d = KindWritten c (kind_of a) d
  Told form.At c a d = AtFits c a d
  Told form.Giving c a d = GivingWritten c a d
  Told form.Else c a d = ElseWritten c a d
  Told form.Path c a d = PathPlain a × (c ≡ d)
  Told form.Fields c a d = NamesPlain a × (c ≡ d)
  Told form.Right c a d = RightFits c a d
  Told form.New c a d = RightFits c a d
  Told form.Call c a d = CallFits c a d
  Told form.CallBase c a d = BasePlain a × (c ≡ d)
  Told (form.CallRest q m) c a d = PathPlain q → IsName m → CallFits c a d
  Told form.Args c a d = ArgsFit c a d
  Told form.MoreArgs c a d = ArgsFit c a d
  Told form.Expr c a d = Fits c (depth a) a d
  Told (form.OrRest a) c x d = (b : Counts) → Fits b (depth a) a c → Fits b (depth x) x d
  Told form.And c a d = Fits c (depth_at 1 a) a d
  Told (form.AndRest a) c x d = (b : Counts) → Fits b (depth_at 1 a) a c → Fits b (depth_at 1 x) x d
  Told form.Not c a d = Fits c (depth_at 2 a) a d
  Told form.Cmp c a d = Fits c (depth_at 3 a) a d
  Told (form.CmpRest a) c x d = (b : Counts) → Fits b (depth_at 4 a) a c → Fits b (depth_at 3 x) x d
  Told form.Sum c a d = Fits c (depth_at 4 a) a d
  Told (form.SumRest a) c x d = (b : Counts) → Fits b (depth_at 4 a) a c → Fits b (depth_at 4 x) x d
  Told form.Mul c a d = Fits c (depth_at 5 a) a d
  Told (form.MulRest a) c x d = (b : Counts) → Fits b (depth_at 5 a) a c → Fits b (depth_at 5 x) x d
  Told form.Unary c a d = Fits c (depth_at 6 a) a d
  Told form.Primary c a d = Fits c (depth_at 7 a) a d
  Told (form.Is q) c a d = PathPlain q → Fits c (depth_at 7 a) a d

  -- a statement on its lines
  pub stmt-apart : (n : ℕ) (a : Stmt) (c d : Counts) → KindWritten c (kind_of a) d → (rest : List Lexeme) → StandApart rest
      → StandApart (stmt_lexemes n a rest)
  stmt-apart n (stmt l x) c d h rest r = (blanks-blank (2 * n), h.apart n (newline ∷ rest) (refl, r))

  pub stmt-read : (n : ℕ) (a : Stmt) (c d : Counts) → KindWritten c (kind_of a) d → (from line : ℕ) (rest : List Lexeme)
      → EndsStmt (first_kind rest) → Spelt S from (stmt_lexemes n a rest)
      → Alike form.Stmt stmt_lineless c (tokens_at from line (stmt_lexemes n a rest)) a d rest
  stmt-read n (stmt l x) c d h from line rest m y =
      let blanks = replicate {A = ℕ} (2 * n) 32 in
      let r = h.reads n (from + length blanks) (line_behind line blanks) (newline ∷ rest) m y in
      record {
        tree = stmt r.at r.kind;
        same = ap (stmt 0) r.same;
        read = record { from = r.read.from + 1; line = line_behind r.read.line (10 ∷ []); spelt = r.read.spelt; reads = r.read.reads };
      }

  -- a path, with equal counts behind
  pub path-reads : (q : Path) (c d : Counts) → c ≡ d → (from line : ℕ) (rest : List Lexeme) → row p.Fields (first_kind rest) ≡ Some []
      → Spelt S from (path_lexemes q rest) → Read S form.Path c (tokens_at from line (path_lexemes q rest)) q d rest
  path-reads q c d e from line rest m h = leads S c c d e (path-read S c q.base q.fields from line rest m h)

  -- an assignment, by what begins its path
  pub assign-reads : (b : Variable) (c d e f : Counts) (from line : ℕ) (xs : List Lexeme) (u v : Token) (us vs ws : List Token) (q : Path)
      (o : Option Expr) (r : Right)
      → Reads S form.Path c (tokens_at from line (base_lexeme b ∷ xs)) q d us → Reads S form.At d us o e (u ∷ vs) → u.kind ≡ k.Mark s.Assign
      → Reads S form.Right e vs r f (v ∷ ws) → v.kind ≡ k.Mark s.Semicolon
      → (l : ℕ) × Reads S form.Stmt c (tokens_at from line (base_lexeme b ∷ xs)) (stmt l (assigned q o r)) f ws
  assign-reads None c d e f from line xs u v us vs ws q o r x z i y j = (line, assign_row x z i y j)
  assign-reads (Some n) c d e f from line xs u v us vs ws q o r x z i y j = (line, assign_row x z i y j)
