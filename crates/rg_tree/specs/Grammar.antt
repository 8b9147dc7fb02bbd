-- The grammar within the limits (docs/language.md, "Grammar" and "Limits"), with one rule for each row of the table, in its order.
-- A row without a next token holds where the table says so.
use Rattle.std.specs.Prelude.{ℕ, ◌≡◌, ◌-◌, true, false, List, [], ◌∷◌, ◌++◌, take, drop, Option, Some, None, Ok}
use Rattle.rg_tree.specs.declared.rows.BinOp.{BinOp}
use Rattle.rg_tree.specs.declared.rows.BinOp.TheVariants.{Or, And}
use Rattle.rg_base.specs.declared.words.Cap.{Cap}
use Rattle.rg_base.specs.declared.words.Manager.{Manager}
use Rattle.rg_base.specs.declared.words.Keyword.TheVariants as w
use Rattle.rg_base.specs.declared.words.Sign.TheVariants as s
use Rattle.rg_base.specs.declared.token.Kind.TheVariants as k
use Rattle.rg_base.specs.declared.token.Token.{Token}
use Rattle.rg_tree.specs.Tree.{Name, Variable, Path, Ty, ref, Expr, neg, not, binary, path, is_nil, size, element, Call, Right, value, new, new_tmp}
use Rattle.rg_tree.specs.Tree.{new_iso, freeze, merge, result_of, Stmt, stmt, StmtKind, declare, assign, assign_element, call, swap, branch, while}
use Rattle.rg_tree.specs.Tree.{enter, print, collect, return, Else, no_else, otherwise, Block, empty, then, Param, Member, field, method, Class, Tree}
use Rattle.rg_tree.specs.Phrases.{the}
use Rattle.rg_tree.specs.Phrases as p
use Rattle.rg_tree.specs.Forms.{Form, Given}
use Rattle.rg_tree.specs.Forms as form
use Rattle.rg_tree.specs.declared.counts.Counts.{Counts}
use Rattle.rg_tree.specs.Counts.{at_start, opened, closed, one_class, one_field, one_method, one_param, one_local, one_sign, method_begins}
use Rattle.rg_tree.specs.Counts.{main_begins, no_signs}
use Rattle.rg_tree.specs.Table.{next, row}
use Rattle.rg_tree.specs.Operators.{cap_of, plain_type_of, manager_of, base_of, input_of, comparison_of, sum_of, product_of, literal_of}

-- the bytes of a token
abbrev pub text : List ℕ → Token → List ℕ
text source t = take (t.to - t.from) (drop t.from source)

-- a program with one class more in front
abbrev pub with_class : Class → Tree → Tree
with_class k r = record r { classes = k ∷ r.classes }

-- a path with one field more
abbrev pub longer : Path → Name → Path
longer q f = record q { fields = q.fields ++ f ∷ [] }

-- `q = r`, or `q[e] = r`
abbrev pub assigned : Path → Option Expr → Right → StmtKind
assigned q None r = assign q r
assigned q (Some e) r = assign_element q e r

module _ (source : List ℕ) where
  -- from some counts and tokens a form is read, which leaves counts and tokens
  pub data Reads : (f : Form) → Counts → List Token → Given f → Counts → List Token → Type 0 where
    -- Program, before class or tmp: Class Program
    program_class : {c d e : Counts} {ts us vs : List Token} {k : Class} {r : Tree}
        → Reads form.Class c ts k d us → Reads form.Program d us r e vs
        → Reads form.Program c ts (with_class k r) e vs
    -- Program: main Manager Block, and the end
    program_main : {c d e : Counts} {t : Token} {ts us : List Token} {m : Manager} {b : Block}
        → t.kind ≡ k.Word w.Main → Reads form.Manager (main_begins c) ts m d us → Reads form.Block d us b e []
        → Reads form.Program c (t ∷ ts) (record { classes = []; manager = m; body = b; line = t.line }) e []
    -- Class: class NAME ClassRest
    class_row : {c d e : Counts} {t u : Token} {ts us : List Token} {r : Given form.ClassRest}
        → t.kind ≡ k.Word w.Class → u.kind ≡ k.Name → one_class c ≡ Ok d → Reads form.ClassRest d ts r e us
        → Reads form.Class c (t ∷ u ∷ ts) (record { name = text source u; is_tmp = false; element = r.0; members = r.1; line = t.line }) e us
    -- Class: tmp class NAME ClassRest
    tmp_class_row : {c d e : Counts} {t y u : Token} {ts us : List Token} {r : Given form.ClassRest}
        → t.kind ≡ k.Word w.Tmp → y.kind ≡ k.Word w.Class → u.kind ≡ k.Name → one_class c ≡ Ok d
        → Reads form.ClassRest d ts r e us
        → Reads form.Class c (t ∷ y ∷ u ∷ ts) (record { name = text source u; is_tmp = true; element = r.0; members = r.1; line = t.line }) e us
    -- ClassRest: { Members }
    members_row : {c d e : Counts} {t u : Token} {ts us : List Token} {ms : List Member}
        → t.kind ≡ k.Mark s.OpenBrace → opened c ≡ Ok d → Reads form.Members d ts ms e (u ∷ us) → u.kind ≡ k.Mark s.CloseBrace
        → Reads form.ClassRest c (t ∷ ts) (None, ms) (closed e) us
    -- ClassRest: [ Type ] ;
    element_row : {c d e : Counts} {t u v : Token} {ts us : List Token} {y : Ty}
        → t.kind ≡ k.Mark s.OpenBracket → opened c ≡ Ok d → Reads form.Type' d ts y e (u ∷ v ∷ us) → u.kind ≡ k.Mark s.CloseBracket
        → v.kind ≡ k.Mark s.Semicolon
        → Reads form.ClassRest c (t ∷ ts) (Some y, []) (closed e) us
    -- Members: NAME : Type ; Members
    field_row : {c d e f : Counts} {t u v : Token} {ts us vs : List Token} {y : Ty} {ms : List Member}
        → t.kind ≡ k.Name → one_field c ≡ Ok d → u.kind ≡ k.Mark s.Colon → Reads form.Type' d ts y e (v ∷ us)
        → v.kind ≡ k.Mark s.Semicolon → Reads form.Members e us ms f vs
        → Reads form.Members c (t ∷ u ∷ ts) (field (record { name = text source t; ty = y; line = t.line }) ∷ ms) f vs
    -- Members: def Cap NAME ( Params ) Result Block Members
    method_row : {c d e f g h i j : Counts} {t u v x : Token} {ts us vs ws xs ys : List Token}
        {a : Cap} {ps : List Param} {o : Option Ty} {b : Block} {ms : List Member}
        → t.kind ≡ k.Word w.Def → Reads form.Cap (method_begins c) ts a d (u ∷ v ∷ us) → u.kind ≡ k.Name → one_method d ≡ Ok e
        → v.kind ≡ k.Mark s.OpenParen → opened e ≡ Ok f → Reads form.Params f us ps g (x ∷ vs) → x.kind ≡ k.Mark s.CloseParen
        → Reads form.Result (closed g) vs o h ws → Reads form.Block h ws b i xs → Reads form.Members i xs ms j ys
        → Reads form.Members c (t ∷ ts)
        (method (record { receiver = a; name = text source u; params = ps; result = o; body = b; line = t.line }) ∷ ms) j ys
    -- Members, before }: nothing
    no_members : {c : Counts} {ts : List Token}
        → next ts ≡ Some (k.Mark s.CloseBrace)
        → Reads form.Members c ts [] c ts
    -- Cap: mut, tmp, paused, imm or iso
    cap_row : {c : Counts} {t : Token} {ts : List Token} {a : Cap}
        → cap_of t.kind ≡ Some a
        → Reads form.Cap c (t ∷ ts) a c ts
    -- Type: int or bool
    plain_type : {c : Counts} {t : Token} {ts : List Token} {y : Ty}
        → plain_type_of t.kind ≡ Some y
        → Reads form.Type' c (t ∷ ts) y c ts
    -- Type, before a word of Cap: Cap NAME
    ref_type : {c d : Counts} {t : Token} {ts us : List Token} {a : Cap}
        → Reads form.Cap c ts a d (t ∷ us) → t.kind ≡ k.Name
        → Reads form.Type' c ts (ref a (text source t)) d us
    -- Params: NAME : Type MoreParams
    first_param : {c d e f : Counts} {t u : Token} {ts us vs : List Token} {y : Ty} {ps : List Param}
        → t.kind ≡ k.Name → one_param c ≡ Ok d → u.kind ≡ k.Mark s.Colon → Reads form.Type' d ts y e us
        → Reads form.MoreParams e us ps f vs
        → Reads form.Params c (t ∷ u ∷ ts) (record { name = text source t; ty = y } ∷ ps) f vs
    -- Params, before ): nothing
    no_params : {c : Counts} {ts : List Token}
        → next ts ≡ Some (k.Mark s.CloseParen)
        → Reads form.Params c ts [] c ts
    -- MoreParams: , NAME : Type MoreParams
    next_param : {c d e f : Counts} {t u v : Token} {ts us vs : List Token} {y : Ty} {ps : List Param}
        → t.kind ≡ k.Mark s.Comma → u.kind ≡ k.Name → one_param c ≡ Ok d → v.kind ≡ k.Mark s.Colon → Reads form.Type' d ts y e us
        → Reads form.MoreParams e us ps f vs
        → Reads form.MoreParams c (t ∷ u ∷ v ∷ ts) (record { name = text source u; ty = y } ∷ ps) f vs
    -- MoreParams, before ): nothing
    no_more_params : {c : Counts} {ts : List Token}
        → next ts ≡ Some (k.Mark s.CloseParen)
        → Reads form.MoreParams c ts [] c ts
    -- Result: : Type
    some_result : {c d : Counts} {t : Token} {ts us : List Token} {y : Ty}
        → t.kind ≡ k.Mark s.Colon → Reads form.Type' c ts y d us
        → Reads form.Result c (t ∷ ts) (Some y) d us
    -- Result, before {: nothing
    no_result : {c : Counts} {ts : List Token}
        → next ts ≡ Some (k.Mark s.OpenBrace)
        → Reads form.Result c ts None c ts
    -- Manager: arena, count or trace
    manager_row : {c : Counts} {t : Token} {ts : List Token} {m : Manager}
        → manager_of t.kind ≡ Some m
        → Reads form.Manager c (t ∷ ts) m c ts
    -- Block: { Stmts }
    block_row : {c d e : Counts} {t u : Token} {ts us : List Token} {b : Block}
        → t.kind ≡ k.Mark s.OpenBrace → opened c ≡ Ok d → Reads form.Stmts d ts b e (u ∷ us) → u.kind ≡ k.Mark s.CloseBrace
        → Reads form.Block c (t ∷ ts) b (closed e) us
    -- Stmts, before }: nothing
    no_stmts : {c : Counts} {ts : List Token}
        → next ts ≡ Some (k.Mark s.CloseBrace)
        → Reads form.Stmts c ts empty (no_signs c) ts
    -- Stmts: Stmt Stmts
    more_stmts : {c d e : Counts} {ts us vs : List Token} {a : Stmt} {b : Block}
        → row p.Stmts (next ts) ≡ Some (the p.Stmt ∷ the p.Stmts ∷ []) → Reads form.Stmt (no_signs c) ts a d us
        → Reads form.Stmts d us b e vs
        → Reads form.Stmts c ts (then a b) e vs
    -- Stmt: let NAME : Type = Right ;
    let_row : {c d e f : Counts} {t u v x z : Token} {ts us vs : List Token} {y : Ty} {r : Right}
        → t.kind ≡ k.Word w.Let → u.kind ≡ k.Name → one_local c ≡ Ok d → v.kind ≡ k.Mark s.Colon
        → Reads form.Type' d ts y e (x ∷ us) → x.kind ≡ k.Mark s.Assign → Reads form.Right e us r f (z ∷ vs)
        → z.kind ≡ k.Mark s.Semicolon
        → Reads form.Stmt c (t ∷ u ∷ v ∷ ts) (stmt t.line (declare (text source u) y r)) f vs
    -- Stmt, before NAME or self: Path At = Right ;
    assign_row : {c d e f : Counts} {t u v : Token} {ts us vs ws : List Token} {q : Path} {o : Option Expr} {r : Right}
        → Reads form.Path c (t ∷ ts) q d us → Reads form.At d us o e (u ∷ vs) → u.kind ≡ k.Mark s.Assign
        → Reads form.Right e vs r f (v ∷ ws) → v.kind ≡ k.Mark s.Semicolon
        → Reads form.Stmt c (t ∷ ts) (stmt t.line (assigned q o r)) f ws
    -- Stmt, before call: Call ;
    call_row : {c d : Counts} {t u : Token} {ts us : List Token} {a : Call}
        → Reads form.Call c (t ∷ ts) a d (u ∷ us) → u.kind ≡ k.Mark s.Semicolon
        → Reads form.Stmt c (t ∷ ts) (stmt t.line (call a)) d us
    -- Stmt: swap NAME , Path ;
    swap_row : {c d : Counts} {t u v x : Token} {ts us : List Token} {q : Path}
        → t.kind ≡ k.Word w.Swap → u.kind ≡ k.Name → v.kind ≡ k.Mark s.Comma → Reads form.Path c ts q d (x ∷ us)
        → x.kind ≡ k.Mark s.Semicolon
        → Reads form.Stmt c (t ∷ u ∷ v ∷ ts) (stmt t.line (swap (text source u) q)) d us
    -- Stmt: if Expr Block Else
    if_row : {c d e f : Counts} {t : Token} {ts us vs ws : List Token} {a : Expr} {b : Block} {o : Else}
        → t.kind ≡ k.Word w.If → Reads form.Expr c ts a d us → Reads form.Block d us b e vs → Reads form.Else e vs o f ws
        → Reads form.Stmt c (t ∷ ts) (stmt t.line (branch a b o)) f ws
    -- Stmt: while Expr Block
    while_row : {c d e : Counts} {t : Token} {ts us vs : List Token} {a : Expr} {b : Block}
        → t.kind ≡ k.Word w.While → Reads form.Expr c ts a d us → Reads form.Block d us b e vs
        → Reads form.Stmt c (t ∷ ts) (stmt t.line (while a b)) e vs
    -- Stmt: enter Path as NAME Block Giving
    enter_row : {c d e f g : Counts} {t u v : Token} {ts us vs ws : List Token} {q : Path} {b : Block} {o : Option Name}
        → t.kind ≡ k.Word w.Enter → Reads form.Path c ts q d (u ∷ v ∷ us) → u.kind ≡ k.Word w.As → v.kind ≡ k.Name
        → one_local d ≡ Ok e → Reads form.Block e us b f vs → Reads form.Giving f vs o g ws
        → Reads form.Stmt c (t ∷ ts) (stmt t.line (enter q (text source v) b o)) g ws
    -- Stmt: print Expr ;
    print_row : {c d : Counts} {t u : Token} {ts us : List Token} {a : Expr}
        → t.kind ≡ k.Word w.Print → Reads form.Expr c ts a d (u ∷ us) → u.kind ≡ k.Mark s.Semicolon
        → Reads form.Stmt c (t ∷ ts) (stmt t.line (print a)) d us
    -- Stmt: collect ;
    collect_row : {c : Counts} {t u : Token} {ts : List Token}
        → t.kind ≡ k.Word w.Collect → u.kind ≡ k.Mark s.Semicolon
        → Reads form.Stmt c (t ∷ u ∷ ts) (stmt t.line collect) c ts
    -- Stmt: return Expr ;
    return_row : {c d : Counts} {t u : Token} {ts us : List Token} {a : Expr}
        → t.kind ≡ k.Word w.Return → Reads form.Expr c ts a d (u ∷ us) → u.kind ≡ k.Mark s.Semicolon
        → Reads form.Stmt c (t ∷ ts) (stmt t.line (return a)) d us
    -- At: [ Expr ]
    at_row : {c d e : Counts} {t u : Token} {ts us : List Token} {a : Expr}
        → t.kind ≡ k.Mark s.OpenBracket → opened c ≡ Ok d → Reads form.Expr d ts a e (u ∷ us) → u.kind ≡ k.Mark s.CloseBracket
        → Reads form.At c (t ∷ ts) (Some a) (closed e) us
    -- At: nothing
    no_at : {c : Counts} {ts : List Token}
        → row p.At (next ts) ≡ Some []
        → Reads form.At c ts None c ts
    -- Giving: giving NAME ;
    giving_row : {c : Counts} {t u v : Token} {ts : List Token}
        → t.kind ≡ k.Word w.Giving → u.kind ≡ k.Name → v.kind ≡ k.Mark s.Semicolon
        → Reads form.Giving c (t ∷ u ∷ v ∷ ts) (Some (text source u)) c ts
    -- Giving: nothing
    no_giving : {c : Counts} {ts : List Token}
        → row p.Giving (next ts) ≡ Some []
        → Reads form.Giving c ts None c ts
    -- Else: else Block
    else_row : {c d : Counts} {t : Token} {ts us : List Token} {b : Block}
        → t.kind ≡ k.Word w.Else → Reads form.Block c ts b d us
        → Reads form.Else c (t ∷ ts) (otherwise b) d us
    -- Else: nothing
    else_none : {c : Counts} {ts : List Token}
        → row p.Else (next ts) ≡ Some []
        → Reads form.Else c ts no_else c ts
    -- Path: NAME or self, Fields
    path_row : {c d : Counts} {t : Token} {ts us : List Token} {b : Variable} {fs : List Name}
        → base_of t.kind (text source t) ≡ Some b → Reads form.Fields c ts fs d us
        → Reads form.Path c (t ∷ ts) (record { base = b; fields = fs }) d us
    -- Fields: . NAME Fields
    next_field : {c d : Counts} {t u : Token} {ts us : List Token} {fs : List Name}
        → t.kind ≡ k.Mark s.Dot → u.kind ≡ k.Name → Reads form.Fields c ts fs d us
        → Reads form.Fields c (t ∷ u ∷ ts) (text source u ∷ fs) d us
    -- Fields: nothing
    no_fields : {c : Counts} {ts : List Token}
        → row p.Fields (next ts) ≡ Some []
        → Reads form.Fields c ts [] c ts
    -- Right: new New
    new_row : {c d : Counts} {t : Token} {ts us : List Token} {r : Right}
        → t.kind ≡ k.Word w.New → Reads form.New c ts r d us
        → Reads form.Right c (t ∷ ts) r d us
    -- Right: freeze NAME
    freeze_row : {c : Counts} {t u : Token} {ts : List Token}
        → t.kind ≡ k.Word w.Freeze → u.kind ≡ k.Name
        → Reads form.Right c (t ∷ u ∷ ts) (freeze (text source u)) c ts
    -- Right: merge NAME
    merge_row : {c : Counts} {t u : Token} {ts : List Token}
        → t.kind ≡ k.Word w.Merge → u.kind ≡ k.Name
        → Reads form.Right c (t ∷ u ∷ ts) (merge (text source u)) c ts
    -- Right: read or more
    input_row : {c : Counts} {t : Token} {ts : List Token} {r : Right}
        → input_of t.kind ≡ Some r
        → Reads form.Right c (t ∷ ts) r c ts
    -- Right, before call: Call
    result_row : {c d : Counts} {ts us : List Token} {a : Call}
        → Reads form.Call c ts a d us
        → Reads form.Right c ts (result_of a) d us
    -- Right: Expr
    value_row : {c d : Counts} {ts us : List Token} {a : Expr}
        → row p.Right (next ts) ≡ Some (the p.Expr ∷ []) → Reads form.Expr c ts a d us
        → Reads form.Right c ts (value a) d us
    -- New: NAME At
    new_plain : {c d : Counts} {t : Token} {ts us : List Token} {o : Option Expr}
        → t.kind ≡ k.Name → Reads form.At c ts o d us
        → Reads form.New c (t ∷ ts) (new (text source t) o) d us
    -- New: tmp NAME At
    new_temporary : {c d : Counts} {t u : Token} {ts us : List Token} {o : Option Expr}
        → t.kind ≡ k.Word w.Tmp → u.kind ≡ k.Name → Reads form.At c ts o d us
        → Reads form.New c (t ∷ u ∷ ts) (new_tmp (text source u) o) d us
    -- New: iso NAME At in Manager
    new_region : {c d e : Counts} {t u v : Token} {ts us vs : List Token} {o : Option Expr} {m : Manager}
        → t.kind ≡ k.Word w.Iso → u.kind ≡ k.Name → Reads form.At c ts o d (v ∷ us) → v.kind ≡ k.Word w.In
        → Reads form.Manager d us m e vs
        → Reads form.New c (t ∷ u ∷ ts) (new_iso (text source u) o m) e vs
    -- Call: call CallBase . NAME CallRest
    call_start : {c d e : Counts} {t u v : Token} {ts us vs : List Token} {b : Variable} {a : Call}
        → t.kind ≡ k.Word w.Call → Reads form.CallBase c ts b d (u ∷ v ∷ us) → u.kind ≡ k.Mark s.Dot → v.kind ≡ k.Name
        → Reads (form.CallRest (record { base = b; fields = [] }) (text source v)) d us a e vs
        → Reads form.Call c (t ∷ ts) a e vs
    -- CallBase: NAME or self
    call_base : {c : Counts} {t : Token} {ts : List Token} {b : Variable}
        → base_of t.kind (text source t) ≡ Some b
        → Reads form.CallBase c (t ∷ ts) b c ts
    -- CallRest: . NAME CallRest; the name before it is a field
    call_further : {c d : Counts} {t u : Token} {ts us : List Token} {q : Path} {m : Name} {a : Call}
        → t.kind ≡ k.Mark s.Dot → u.kind ≡ k.Name → Reads (form.CallRest (longer q m) (text source u)) c ts a d us
        → Reads (form.CallRest q m) c (t ∷ u ∷ ts) a d us
    -- CallRest: ( Args ); the name before it is the method
    call_args : {c d e : Counts} {t u : Token} {ts us : List Token} {q : Path} {m : Name} {as' : List Expr}
        → t.kind ≡ k.Mark s.OpenParen → opened c ≡ Ok d → Reads form.Args d ts as' e (u ∷ us) → u.kind ≡ k.Mark s.CloseParen
        → Reads (form.CallRest q m) c (t ∷ ts) (record { target = q; method = m; args = as' }) (closed e) us
    -- Args, before ): nothing
    no_args : {c : Counts} {ts : List Token}
        → next ts ≡ Some (k.Mark s.CloseParen)
        → Reads form.Args c ts [] c ts
    -- Args: Expr MoreArgs
    first_arg : {c d e : Counts} {ts us vs : List Token} {a : Expr} {as' : List Expr}
        → row p.Args (next ts) ≡ Some (the p.Expr ∷ the p.MoreArgs ∷ []) → Reads form.Expr c ts a d us
        → Reads form.MoreArgs d us as' e vs
        → Reads form.Args c ts (a ∷ as') e vs
    -- MoreArgs: , Expr MoreArgs
    next_arg : {c d e : Counts} {t : Token} {ts us vs : List Token} {a : Expr} {as' : List Expr}
        → t.kind ≡ k.Mark s.Comma → Reads form.Expr c ts a d us → Reads form.MoreArgs d us as' e vs
        → Reads form.MoreArgs c (t ∷ ts) (a ∷ as') e vs
    -- MoreArgs, before ): nothing
    no_more_args : {c : Counts} {ts : List Token}
        → next ts ≡ Some (k.Mark s.CloseParen)
        → Reads form.MoreArgs c ts [] c ts
    -- Expr: And OrRest
    expr_row : {c d e : Counts} {ts us vs : List Token} {a b : Expr}
        → Reads form.And c ts a d us → Reads (form.OrRest a) d us b e vs
        → Reads form.Expr c ts b e vs
    -- OrRest: or And OrRest
    or_row : {c d e f : Counts} {t : Token} {ts us vs : List Token} {a b x : Expr}
        → t.kind ≡ k.Word w.Or → one_sign c ≡ Ok d → Reads form.And d ts b e us → Reads (form.OrRest (binary Or a b)) e us x f vs
        → Reads (form.OrRest a) c (t ∷ ts) x f vs
    -- OrRest: nothing
    no_or : {c : Counts} {ts : List Token} {a : Expr}
        → row p.OrRest (next ts) ≡ Some []
        → Reads (form.OrRest a) c ts a c ts
    -- And: Not AndRest
    and_row : {c d e : Counts} {ts us vs : List Token} {a b : Expr}
        → Reads form.Not c ts a d us → Reads (form.AndRest a) d us b e vs
        → Reads form.And c ts b e vs
    -- AndRest: and Not AndRest
    and_further : {c d e f : Counts} {t : Token} {ts us vs : List Token} {a b x : Expr}
        → t.kind ≡ k.Word w.And → one_sign c ≡ Ok d → Reads form.Not d ts b e us
        → Reads (form.AndRest (binary And a b)) e us x f vs
        → Reads (form.AndRest a) c (t ∷ ts) x f vs
    -- AndRest: nothing
    no_and : {c : Counts} {ts : List Token} {a : Expr}
        → row p.AndRest (next ts) ≡ Some []
        → Reads (form.AndRest a) c ts a c ts
    -- Not: not Cmp
    not_row : {c d : Counts} {t : Token} {ts us : List Token} {a : Expr}
        → t.kind ≡ k.Word w.Not → Reads form.Cmp c ts a d us
        → Reads form.Not c (t ∷ ts) (not a) d us
    -- Not: Cmp
    no_not : {c d : Counts} {ts us : List Token} {a : Expr}
        → row p.Not (next ts) ≡ Some (the p.Cmp ∷ []) → Reads form.Cmp c ts a d us
        → Reads form.Not c ts a d us
    -- Cmp: Sum CmpRest
    cmp_row : {c d e : Counts} {ts us vs : List Token} {a b : Expr}
        → Reads form.Sum c ts a d us → Reads (form.CmpRest a) d us b e vs
        → Reads form.Cmp c ts b e vs
    -- CmpRest: a sign of two sums, Sum
    compared : {c d e : Counts} {t : Token} {ts us : List Token} {o : BinOp} {a b : Expr}
        → comparison_of t.kind ≡ Some o → one_sign c ≡ Ok d → Reads form.Sum d ts b e us
        → Reads (form.CmpRest a) c (t ∷ ts) (binary o a b) e us
    -- CmpRest: nothing
    not_compared : {c : Counts} {ts : List Token} {a : Expr}
        → row p.CmpRest (next ts) ≡ Some []
        → Reads (form.CmpRest a) c ts a c ts
    -- Sum: Mul SumRest
    sum_row : {c d e : Counts} {ts us vs : List Token} {a b : Expr}
        → Reads form.Mul c ts a d us → Reads (form.SumRest a) d us b e vs
        → Reads form.Sum c ts b e vs
    -- SumRest: + or -, Mul SumRest
    sum_further : {c d e f : Counts} {t : Token} {ts us vs : List Token} {o : BinOp} {a b x : Expr}
        → sum_of t.kind ≡ Some o → one_sign c ≡ Ok d → Reads form.Mul d ts b e us → Reads (form.SumRest (binary o a b)) e us x f vs
        → Reads (form.SumRest a) c (t ∷ ts) x f vs
    -- SumRest: nothing
    no_sum : {c : Counts} {ts : List Token} {a : Expr}
        → row p.SumRest (next ts) ≡ Some []
        → Reads (form.SumRest a) c ts a c ts
    -- Mul: Unary MulRest
    mul_row : {c d e : Counts} {ts us vs : List Token} {a b : Expr}
        → Reads form.Unary c ts a d us → Reads (form.MulRest a) d us b e vs
        → Reads form.Mul c ts b e vs
    -- MulRest: *, / or %, Unary MulRest
    mul_further : {c d e f : Counts} {t : Token} {ts us vs : List Token} {o : BinOp} {a b x : Expr}
        → product_of t.kind ≡ Some o → one_sign c ≡ Ok d → Reads form.Unary d ts b e us
        → Reads (form.MulRest (binary o a b)) e us x f vs
        → Reads (form.MulRest a) c (t ∷ ts) x f vs
    -- MulRest: nothing
    no_mul : {c : Counts} {ts : List Token} {a : Expr}
        → row p.MulRest (next ts) ≡ Some []
        → Reads (form.MulRest a) c ts a c ts
    -- Unary: - Primary
    minus : {c d : Counts} {t : Token} {ts us : List Token} {a : Expr}
        → t.kind ≡ k.Mark s.Minus → Reads form.Primary c ts a d us
        → Reads form.Unary c (t ∷ ts) (neg a) d us
    -- Unary: Primary
    no_minus : {c d : Counts} {ts us : List Token} {a : Expr}
        → row p.Unary (next ts) ≡ Some (the p.Primary ∷ []) → Reads form.Primary c ts a d us
        → Reads form.Unary c ts a d us
    -- Primary: NUMBER, true, false or nil
    literal : {c : Counts} {t : Token} {ts : List Token} {a : Expr}
        → literal_of t.kind ≡ Some a
        → Reads form.Primary c (t ∷ ts) a c ts
    -- Primary: ( Expr ); the tree doesn't keep them
    parens : {c d e : Counts} {t u : Token} {ts us : List Token} {a : Expr}
        → t.kind ≡ k.Mark s.OpenParen → opened c ≡ Ok d → Reads form.Expr d ts a e (u ∷ us) → u.kind ≡ k.Mark s.CloseParen
        → Reads form.Primary c (t ∷ ts) a (closed e) us
    -- Primary: size Path
    size_row : {c d : Counts} {t : Token} {ts us : List Token} {q : Path}
        → t.kind ≡ k.Word w.Size → Reads form.Path c ts q d us
        → Reads form.Primary c (t ∷ ts) (size q) d us
    -- Primary, before NAME or self: Path Is
    path_value : {c d e : Counts} {ts us vs : List Token} {q : Path} {a : Expr}
        → Reads form.Path c ts q d us → Reads (form.Is q) d us a e vs
        → Reads form.Primary c ts a e vs
    -- Is: is nil
    is_row : {c : Counts} {t u : Token} {ts : List Token} {q : Path}
        → t.kind ≡ k.Word w.Is → u.kind ≡ k.Word w.Nil
        → Reads (form.Is q) c (t ∷ u ∷ ts) (is_nil q) c ts
    -- Is: [ Expr ]
    element_of : {c d e : Counts} {t u : Token} {ts us : List Token} {q : Path} {a : Expr}
        → t.kind ≡ k.Mark s.OpenBracket → opened c ≡ Ok d → Reads form.Expr d ts a e (u ∷ us) → u.kind ≡ k.Mark s.CloseBracket
        → Reads (form.Is q) c (t ∷ ts) (element q a) (closed e) us
    -- Is: nothing
    no_is : {c : Counts} {ts : List Token} {q : Path}
        → row p.Is (next ts) ≡ Some []
        → Reads (form.Is q) c ts (path q) c ts

-- the tokens of a source spell the tree
abbrev pub Spells : List ℕ → Tree → List Token → Type 0
Spells source r ts = (c : Counts) × Reads source form.Program at_start ts r c []
