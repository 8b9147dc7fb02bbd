-- Statements are read by their rows.
use Rattle.std.proofs.Common.{◌≡◌, ◌≢◌, Bool, true, false, ℕ, ◌<◌, List, [], ◌∷◌, ◌++◌, map, length, All, Option, Some, None, option_map, IfSome}
use Rattle.std.proofs.Common.{refl, sym, ◌∙◌, ap, subst, arith}
use Rattle.rg_base.specs.declared.words.Keyword.TheVariants as w
use Rattle.rg_base.specs.declared.words.Sign.TheVariants as s
use Rattle.rg_base.specs.declared.token.Kind.{Kind}
use Rattle.rg_base.specs.declared.token.Kind.TheVariants as k
use Rattle.rg_base.specs.declared.token.Token.{Token}
use Rattle.rg_tree.specs.declared.counts.Counts.{Counts}
use Rattle.rg_tree.specs.declared.rows.Span.{Span}
use Rattle.rg_tree.specs.declared.rows.Path as row_path
use Rattle.rg_tree.specs.declared.rows.TypeRow.{TypeRow}
use Rattle.rg_tree.specs.declared.rows.CallRow.{CallRow}
use Rattle.rg_tree.specs.declared.rows.Right as row_right
use Rattle.rg_tree.specs.declared.rows.StmtKind as row_kind
use Rattle.rg_tree.specs.declared.rows.StmtKind.TheVariants as kind_row
use Rattle.rg_tree.specs.Counts.{no_signs}
use Rattle.rg_tree.specs.Tree.{Path, Expr, Right, Stmt, stmt, declare, call, swap, branch, while, enter, print, collect, return, Block, empty, then}
use Rattle.rg_tree.specs.Tree.{no_else, otherwise}
use Rattle.rg_tree.specs.Forms as form
use Rattle.rg_tree.specs.Phrases.{Symbol, word, mark, name, local_name, the}
use Rattle.rg_tree.specs.Phrases as p
use Rattle.rg_tree.specs.Grammar.{Reads, text, assigned, block_row, no_stmts, more_stmts, let_row, assign_row, call_row, swap_row, if_row, while_row}
use Rattle.rg_tree.specs.Grammar.{enter_row, giving_row, no_giving, print_row, collect_row, return_row, else_row, else_none}
use Rattle.rg_tree.specs.Stuck.{Stops, no_row, by_row, another, line_at}
use Rattle.rg_tree.proofs.Stopping.{Stops-unique}
use Rattle.rg_base.specs.declared.fault.Code.{Code}
use Rattle.rg_base.specs.declared.fault.Code.TheVariants.{Syntax}
use Rattle.rg_reader.specs.declared.reader.halt.Halt.{Halt}
use Rattle.rg_reader.specs.declared.reader.halt.Halt.TheVariants as halt
use Rattle.rg_tree.specs.Rows.Tables.{Tables}
use Rattle.rg_tree.specs.Rows.RowTrees.{path_of, expr_at, right_of, kind_over, stmt_at, stmt_of, block_over}
use Rattle.rg_tree.specs.Rows.RowsExist.{IsPathIn, IsExprNumber, IsRightIn, IsKindIn}
use Rattle.rg_tree.specs.Table.{next, row}
use Rattle.rg_tree.specs.Adds.{Means}
use Rattle.rg_tree.specs.Rows.RowsExist.{IsStmtNumber}
use Rattle.rg_reader.specs.Lists.{numbers_of, IsListed}
use Rattle.rg_parse.specs.Inner.Starts.{stmt_start}
use Rattle.rg_parse.specs.declared.starts.StmtStart.{StmtStart}
use Rattle.rg_parse.specs.declared.starts.StmtStart.TheVariants as start
use Rattle.std.proofs.lemmas.Bool.{false≢true}
use Rattle.rg_parse.specs.Inner.Readings.{FoundKind, FoundStmt, FoundBlock, FoundStmts, FoundElse, FoundRight}
use Rattle.rg_reader.specs.Readings.{FoundPath, FoundType, FoundCall}
use Rattle.rg_reader.specs.Readings.{FoundExpr, FoundIndex}
use Rattle.rg_parse.specs.Inner.Readings.{FoundGiving, set_row}
use Rattle.rg_reader.specs.Steps.{State, Took, took, took_brace, Used, used, Declared, declared, Found, found, Kept, kept, Reset, reset}
use Rattle.rg_reader.specs.Steps.{Halts}
use Rattle.rg_reader.proofs.Growing.{extends-same, extends-trans, means-later}
use Rattle.rg_reader.proofs.Halting.{halts-row, halts-here, halts-found}
use Rattle.rg_reader.proofs.Loops.{st, Along, along, means-nil, means-push}

-- the row of each start

abbrev stmt_row : StmtStart → Option (List Symbol)
stmt_row start.Let = Some (word w.Let ∷ local_name ∷ mark s.Colon ∷ the p.Type' ∷ mark s.Assign ∷ the p.Right ∷ mark s.Semicolon ∷ [])
stmt_row start.Assign = Some (the p.Path ∷ the p.At ∷ mark s.Assign ∷ the p.Right ∷ mark s.Semicolon ∷ [])
stmt_row start.Call = Some (the p.Call ∷ mark s.Semicolon ∷ [])
stmt_row start.Swap = Some (word w.Swap ∷ name ∷ mark s.Comma ∷ the p.Path ∷ mark s.Semicolon ∷ [])
stmt_row start.If = Some (word w.If ∷ the p.Expr ∷ the p.Block ∷ the p.Else ∷ [])
stmt_row start.While = Some (word w.While ∷ the p.Expr ∷ the p.Block ∷ [])
stmt_row start.Enter = Some (word w.Enter ∷ the p.Path ∷ word w.As ∷ local_name ∷ the p.Block ∷ the p.Giving ∷ [])
stmt_row start.Print = Some (word w.Print ∷ the p.Expr ∷ mark s.Semicolon ∷ [])
stmt_row start.Collect = Some (word w.Collect ∷ mark s.Semicolon ∷ [])
stmt_row start.Return = Some (word w.Return ∷ the p.Expr ∷ mark s.Semicolon ∷ [])
stmt_row start.Nothing = None

stmt-rows : (o : Option Kind) → row p.Stmt o ≡ stmt_row (stmt_start o)
stmt-rows (Some (k.Word w.Let)) = refl
stmt-rows (Some k.Name) = refl
stmt-rows (Some (k.Word w.SelfWord)) = refl
stmt-rows (Some (k.Word w.Call)) = refl
stmt-rows (Some (k.Word w.Swap)) = refl
stmt-rows (Some (k.Word w.If)) = refl
stmt-rows (Some (k.Word w.While)) = refl
stmt-rows (Some (k.Word w.Enter)) = refl
stmt-rows (Some (k.Word w.Print)) = refl
stmt-rows (Some (k.Word w.Collect)) = refl
stmt-rows (Some (k.Word w.Return)) = refl
stmt-rows _ = refl

abbrev is_call : StmtStart → Bool
is_call start.Call = true
is_call _ = false

pub let-row : (o : Option Kind) → stmt_start o ≡ start.Let
    → row p.Stmt o ≡ Some (word w.Let ∷ local_name ∷ mark s.Colon ∷ the p.Type' ∷ mark s.Assign ∷ the p.Right ∷ mark s.Semicolon ∷ [])
let-row o e = stmt-rows o ∙ ap stmt_row e

pub assign-row : (o : Option Kind) → stmt_start o ≡ start.Assign
    → row p.Stmt o ≡ Some (the p.Path ∷ the p.At ∷ mark s.Assign ∷ the p.Right ∷ mark s.Semicolon ∷ [])
assign-row o e = stmt-rows o ∙ ap stmt_row e

pub call-row : (o : Option Kind) → stmt_start o ≡ start.Call → row p.Stmt o ≡ Some (the p.Call ∷ mark s.Semicolon ∷ [])
call-row o e = stmt-rows o ∙ ap stmt_row e

pub swap-row : (o : Option Kind) → stmt_start o ≡ start.Swap
    → row p.Stmt o ≡ Some (word w.Swap ∷ name ∷ mark s.Comma ∷ the p.Path ∷ mark s.Semicolon ∷ [])
swap-row o e = stmt-rows o ∙ ap stmt_row e

pub if-row : (o : Option Kind) → stmt_start o ≡ start.If → row p.Stmt o ≡ Some (word w.If ∷ the p.Expr ∷ the p.Block ∷ the p.Else ∷ [])
if-row o e = stmt-rows o ∙ ap stmt_row e

pub while-row : (o : Option Kind) → stmt_start o ≡ start.While → row p.Stmt o ≡ Some (word w.While ∷ the p.Expr ∷ the p.Block ∷ [])
while-row o e = stmt-rows o ∙ ap stmt_row e

pub enter-row : (o : Option Kind) → stmt_start o ≡ start.Enter
    → row p.Stmt o ≡ Some (word w.Enter ∷ the p.Path ∷ word w.As ∷ local_name ∷ the p.Block ∷ the p.Giving ∷ [])
enter-row o e = stmt-rows o ∙ ap stmt_row e

pub print-row : (o : Option Kind) → stmt_start o ≡ start.Print → row p.Stmt o ≡ Some (word w.Print ∷ the p.Expr ∷ mark s.Semicolon ∷ [])
print-row o e = stmt-rows o ∙ ap stmt_row e

pub collect-row : (o : Option Kind) → stmt_start o ≡ start.Collect → row p.Stmt o ≡ Some (word w.Collect ∷ mark s.Semicolon ∷ [])
collect-row o e = stmt-rows o ∙ ap stmt_row e

pub return-row : (o : Option Kind) → stmt_start o ≡ start.Return → row p.Stmt o ≡ Some (word w.Return ∷ the p.Expr ∷ mark s.Semicolon ∷ [])
return-row o e = stmt-rows o ∙ ap stmt_row e

pub no-stmt : (o : Option Kind) → stmt_start o ≡ start.Nothing → row p.Stmt o ≡ None
no-stmt o e = stmt-rows o ∙ ap stmt_row e

-- the next token begins a call
pub call-next : (o : Option Kind) → stmt_start o ≡ start.Call → o ≡ Some (k.Word w.Call)
call-next (Some (k.Word w.Call)) e = refl
call-next _ e = absurd (false≢true (ap is_call e))

-- a token stands next

pub assign-some : (ts : List Token) → stmt_start (next ts) ≡ start.Assign → 0 < length ts
assign-some [] e = cc
assign-some (t ∷ ts) e = omega arith

pub call-some : (ts : List Token) → stmt_start (next ts) ≡ start.Call → 0 < length ts
call-some [] e = cc
call-some (t ∷ ts) e = omega arith

-- statements by their rows

pub let-found : {a b c d e f g h : State} {n : ℕ} {y : TypeRow} {r : row_right.Right} → Took (k.Word w.Let) a b → Declared local_name b n c
    → Took (k.Mark s.Colon) c d → FoundType d y e → Took (k.Mark s.Assign) e f → FoundRight f r g → Took (k.Mark s.Semicolon) g h
    → FoundKind a (kind_row.Let n y r) h
let-found (took i1 h1) (declared {source = source} {t = t} h2 l2 n g2) (took i3 h3) (found y r4 m4 g4) (took i5 h5) (found x r6 m6 g6)
    (took i7 h7) =
    let g46 = extends-trans g4 g6 in
    found (declare (text source t) y x) (let_row h1 h2 l2 h3 r4 h5 r6 h7)
    (record {
      is = λ u z. let e2 = (means-later n g46).is u z in let e4 = (means-later m4 g6).is u z in let e6 = m6.is u z in cc;
      there = λ u z. ((means-later n g46).there u z, (means-later m4 g6).there u z, m6.there u z);
    })
    (extends-trans g2 g46)

-- the row of an assignment stands for it
set-means : {t : Tables} {q : row_path.Path} {x : Path} {y : Option Expr} {r : row_right.Right} {v : Right} (o : Option ℕ)
    → Means path_of IsPathIn t q x → Means (λ u. option_map (expr_at u)) (λ u o. IfSome o (IsExprNumber u)) t o y → Means right_of IsRightIn t r v
    → Means (λ u. kind_over u (stmt_at u)) (λ u. IsKindIn u (length u.stmts)) t (set_row q o r) (assigned x y v)
set-means None m n l = record {
  is = λ u z. let e = m.is u z in let f = l.is u z in rw (← n.is u z) cc;
  there = λ u z. (m.there u z, l.there u z);
}
set-means (Some i) m n l = record {
  is = λ u z. let e = m.is u z in let f = l.is u z in rw (← n.is u z) cc;
  there = λ u z. (m.there u z, n.there u z, l.there u z);
}

pub assign-found : {a b c d e f : State} {q : row_path.Path} {o : Option ℕ} {r : row_right.Right} → 0 < length a.rest → FoundPath a q b
    → FoundIndex b o c → Took (k.Mark s.Assign) c d → FoundRight d r e → Took (k.Mark s.Semicolon) e f → FoundKind a (set_row q o r) f
assign-found l (found {ts = []} x r1 m1 g1) (found o r2 m2 g2) (took i3 h3) (found y r4 m4 g4) (took i5 h5) = absurd (omega arith)
assign-found {o = i} l (found {ts = t ∷ ts} x r1 m1 g1) (found o r2 m2 g2) (took i3 h3) (found y r4 m4 g4) (took i5 h5) =
    let g24 = extends-trans g2 g4 in
    found (assigned x o y) (assign_row r1 r2 h3 r4 h5) (set-means i (means-later m1 g24) (means-later m2 g4) m4) (extends-trans g1 g24)

pub call-found : {a b c : State} {x : CallRow} → 0 < length a.rest → FoundCall a x b → Took (k.Mark s.Semicolon) b c
    → FoundKind a (kind_row.Call x) c
call-found l (found {ts = []} x r1 m1 g1) (took i2 h2) = absurd (omega arith)
call-found l (found {ts = t ∷ ts} x r1 m1 g1) (took i2 h2) =
    found (call x) (call_row r1 h2) (record { is = λ u z. ap call (m1.is u z); there = m1.there }) g1

pub swap-found : {a b c d e f : State} {n : ℕ} {q : row_path.Path} → Took (k.Word w.Swap) a b → Used b n c → Took (k.Mark s.Comma) c d
    → FoundPath d q e → Took (k.Mark s.Semicolon) e f → FoundKind a (kind_row.Swap n q) f
swap-found (took i1 h1) (used {source = source} {t = t} h2 n g2) (took i3 h3) (found x r4 m4 g4) (took i5 h5) =
    found (swap (text source t) x) (swap_row h1 h2 h3 r4 h5)
    (record {
      is = λ u z. let e2 = (means-later n g4).is u z in let e4 = m4.is u z in cc;
      there = λ u z. ((means-later n g4).there u z, m4.there u z);
    })
    (extends-trans g2 g4)

pub if-found : {a b c d e : State} {x : ℕ} {y : Span} {o : Option Span} → Took (k.Word w.If) a b → FoundExpr b x c → FoundBlock c y d
    → FoundElse d o e → FoundKind a (kind_row.If x y o) e
if-found (took i1 h1) (found x r2 m2 g2) (found y r3 m3 g3) (found o r4 m4 g4) =
    let g34 = extends-trans g3 g4 in
    found (branch x y o) (if_row h1 r2 r3 r4)
    (record {
      is = λ u z. let e2 = (means-later m2 g34).is u z in let e3 = (means-later m3 g4).is u z in let e4 = m4.is u z in cc;
      there = λ u z. ((means-later m2 g34).there u z, (means-later m3 g4).there u z, m4.there u z);
    })
    (extends-trans g2 g34)

pub no_else-found : (a : State) → row p.Else (next a.rest) ≡ Some [] → FoundElse a None a
no_else-found a e = found no_else (else_none e) (record { is = λ u z. refl; there = λ u z. tt }) (extends-same a.tables)

pub else-found : {a b c : State} {x : Span} → Took (k.Word w.Else) a b → FoundBlock b x c → FoundElse a (Some x) c
else-found (took i h) (found x r m g) = found (otherwise x) (else_row h r) (record { is = λ u z. ap otherwise (m.is u z); there = m.there }) g

pub no_else-row : (o : Option Kind) → o ≢ Some (k.Word w.Else) → row p.Else o ≡ Some []
no_else-row (Some (k.Word w.Else)) h = absurd (h refl)
no_else-row _ h = refl

pub while-found : {a b c d : State} {x : ℕ} {y : Span} → Took (k.Word w.While) a b → FoundExpr b x c → FoundBlock c y d
    → FoundKind a (kind_row.While x y) d
while-found (took i1 h1) (found x r2 m2 g2) (found y r3 m3 g3) =
    found (while x y) (while_row h1 r2 r3)
    (record {
      is = λ u z. let e2 = (means-later m2 g3).is u z in let e3 = m3.is u z in cc;
      there = λ u z. ((means-later m2 g3).there u z, m3.there u z);
    })
    (extends-trans g2 g3)

pub enter-found : {a b c d e f g : State} {q : row_path.Path} {n : ℕ} {y : Span} {o : Option ℕ} → Took (k.Word w.Enter) a b → FoundPath b q c
    → Took (k.Word w.As) c d → Declared local_name d n e → FoundBlock e y f → FoundGiving f o g → FoundKind a (kind_row.Enter q n y o) g
enter-found (took i1 h1) (found x r2 m2 g2) (took i3 h3) (declared {source = source} {t = t} h4 l4 n g4) (found y r5 m5 g5) (found o r6 m6 g6) =
    let g56 = extends-trans g5 g6 in
    let g46 = extends-trans g4 g56 in
    found (enter x (text source t) y o) (enter_row h1 r2 h3 h4 l4 r5 r6)
    (record {
      is =
          λ u z.
          let e2 = (means-later m2 g46).is u z in
          let e4 = (means-later n g56).is u z in
          let e5 = (means-later m5 g6).is u z in
          let e6 = m6.is u z in
          cc;
      there = λ u z. ((means-later m2 g46).there u z, (means-later n g56).there u z, (means-later m5 g6).there u z, m6.there u z);
    })
    (extends-trans g2 g46)

pub no_giving-found : (a : State) → next a.rest ≢ Some (k.Word w.Giving) → FoundGiving a None a
no_giving-found a h =
    found None (no_giving (no_giving-row (next a.rest) h)) (record { is = λ u z. refl; there = λ u z. tt }) (extends-same a.tables)
  where
    no_giving-row : (o : Option Kind) → o ≢ Some (k.Word w.Giving) → row p.Giving o ≡ Some []
    no_giving-row (Some (k.Word w.Giving)) h = absurd (h refl)
    no_giving-row _ h = refl

pub giving-found : {a b c d : State} {n : ℕ} → Took (k.Word w.Giving) a b → Used b n c → Took (k.Mark s.Semicolon) c d → FoundGiving a (Some n) d
giving-found (took i h) (used {source = source} {t = t} j n l) (took i' f) =
    found (Some (text source t)) (giving_row h j f) (record { is = λ u z. ap Some (n.is u z); there = n.there }) l

pub print-found : {a b c d : State} {x : ℕ} → Took (k.Word w.Print) a b → FoundExpr b x c → Took (k.Mark s.Semicolon) c d
    → FoundKind a (kind_row.Print x) d
print-found (took i1 h1) (found x r m g) (took i3 h3) =
    found (print x) (print_row h1 r h3) (record { is = λ u z. ap print (m.is u z); there = m.there }) g

pub collect-found : {a b c : State} → Took (k.Word w.Collect) a b → Took (k.Mark s.Semicolon) b c → FoundKind a kind_row.Collect c
collect-found (took {u = u} i1 h1) (took i2 h2) =
    found collect (collect_row h1 h2) (record { is = λ v z. refl; there = λ v z. tt }) (extends-same u)

pub return-found : {a b c d : State} {x : ℕ} → Took (k.Word w.Return) a b → FoundExpr b x c → Took (k.Mark s.Semicolon) c d
    → FoundKind a (kind_row.Return x) d
return-found (took i1 h1) (found x r m g) (took i3 h3) =
    found (return x) (return_row h1 r h3) (record { is = λ u z. ap return (m.is u z); there = m.there }) g

-- a statement with its line

pub stmt-found : {a b c d : State} {x : row_kind.StmtKind} {n : ℕ} (line : ℕ) → Reset a b → line ≡ line_at 0 b.rest → FoundKind b x c → Kept c d
    → Means stmt_at IsStmtNumber d.tables n (stmt_of c.tables (record { line = line; kind = x })) → FoundStmt a n d
stmt-found line (reset {ts = ts}) e (found y r m g) (kept {u = u} l) q =
    found (stmt (line_at 0 ts) y) r
    (record {
      is = λ v z. let f = m.is u (extends-same u).keeps in q.is v z ∙ cc;
      there = q.there;
    })
    (extends-trans g l)

-- blocks

pub block-found : {a b c d : State} {x : Span} → Took (k.Mark s.OpenBrace) a b → FoundStmts b x c → Took (k.Mark s.CloseBrace) c d
    → FoundBlock a x d
block-found (took i1 h1) q t = absurd i1
block-found (took_brace h1 l1) (found x r m g) (took i3 h3) = found x (block_row h1 l1 r h3) m g

-- a list of statements in front of a block
abbrev pub onto : List Stmt → Block → Block
onto [] b = b
onto (x ∷ xs) b = then x (onto xs b)

onto-append : (xs ys : List Stmt) (b : Block) → onto (xs ++ ys) b ≡ onto xs (onto ys b)
onto-append [] ys b = refl
onto-append (x ∷ xs) ys b = ap (then x) (onto-append xs ys b)

block_over-map : (f : ℕ → Stmt) (ks : List ℕ) → block_over f ks ≡ onto (map f ks) empty
block_over-map f [] = refl
block_over-map f (n ∷ ks) = ap (then (f n)) (block_over-map f ks)

abbrev pub AlongStmts : State → List ℕ → State → Type 0
AlongStmts = Along (λ source. Reads source form.Stmts) (λ source. Reads source form.Stmts) onto p.Stmts p.Stmts stmt_at IsStmtNumber

pub stmts-start : (a : State) → AlongStmts a [] a
stmts-start a = along [] (means-nil stmt_at IsStmtNumber a.tables) (extends-same a.tables) (λ r e vs q. q) (λ e b h. h)

stmts-row : (o : Option Kind) → o ≢ Some (k.Mark s.CloseBrace) → row p.Stmts o ≡ Some (the p.Stmt ∷ the p.Stmts ∷ [])
stmts-row (Some (k.Mark s.CloseBrace)) h = absurd (h refl)
stmts-row _ h = refl

pub stmts-stop : {b : State} (a : State) (e : Halt) → next a.rest ≢ Some (k.Mark s.CloseBrace)
    → Halts (the p.Stmt ∷ []) (record a { counts = no_signs a.counts }) e b → Halts (the p.Stmts ∷ []) a e b
stmts-stop a e h i = halts-row a e (stmts-row (next a.rest) h) (halts-here e i)

-- a block begins with its bracket
block-stops : (o : Option Kind) {ss : List Symbol} {c : Counts} {ts at : List Token} {f : Code} → next ts ≡ o
    → Stops (mark s.OpenBrace ∷ the p.Stmts ∷ mark s.CloseBrace ∷ ss) c ts f at → Stops (the p.Block ∷ ss) c ts f at
block-stops (Some (k.Mark s.OpenBrace)) e h = by_row (ap (row p.Block) e) h
block-stops _ {ss} {c} {ts} {at} {f} e h =
    let same = Stops-unique (another {y = mark s.OpenBrace} refl (λ z. let no : ⊥ = cc in no)) h in
    subst (λ g. Stops (the p.Block ∷ ss) c ts g at) same.0
    (subst (λ us. Stops (the p.Block ∷ ss) c ts Syntax us) same.1 (no_row (ap (row p.Block) e)))

pub block-halts : {b : State} (a : State) (e : Halt) → Halts (mark s.OpenBrace ∷ []) a e b → Halts (the p.Block ∷ []) a e b
block-halts a halt.Memory h = record { stops = tt }
block-halts a (halt.At f) h = record { stops = λ ss. block-stops (next a.rest) refl (h.stops (the p.Stmts ∷ mark s.CloseBrace ∷ ss)) }

pub stmts-step : {a m n : State} {ks : List ℕ} {v : ℕ} → AlongStmts a ks m → next m.rest ≢ Some (k.Mark s.CloseBrace) → FoundStmt m v n
    → AlongStmts a (ks ++ v ∷ []) n
stmts-step (along {source = source} {ts = ts} {us = us} {c = c} {d = d} {v = v} done m g reads halts) h (found {us = vs} {d = f} {v = w} x r n l) =
    let rows = stmts-row (next us) h in
    along (done ++ x ∷ []) (means-push (means-later m l) n) (extends-trans g l)
    (λ b e ws q. rw (onto-append done (x ∷ []) b) (reads (then x b) e ws (more_stmts rows r q)))
    (λ e b y. halts e b (halts-row (st source us d v) e rows
    (halts-found form.Stmt e tt
    (let again : Found (λ s. Reads s form.Stmt) stmt_at IsStmtNumber (st source us (no_signs d) v) _ (st source vs f w) = found x r n l in again) y)))

pub stmts-end : {a m i n : State} {ks : List ℕ} {x : Span} → AlongStmts a ks m → next m.rest ≡ Some (k.Mark s.CloseBrace) → Reset m i → Kept i n
    → Means numbers_of IsListed n.tables x ks → FoundStmts a x n
stmts-end (along {source = source} {ts = ts} {us = us} {c = c} {d = d} {ks = ks} done m g reads halts) h reset (kept l) o =
    found (onto done empty) (reads empty (no_signs d) us (no_stmts h))
    (record {
      is = λ u z. ap (block_over (stmt_at u)) (o.is u z) ∙ block_over-map (stmt_at u) ks ∙ ap (λ xs. onto xs empty) ((means-later m l).is u z);
      there = λ u z. record { within = o.there u z; each = subst (All (λ i. i < length u.stmts)) (sym (o.is u z)) ((means-later m l).there u z) };
    })
    (extends-trans g l)
