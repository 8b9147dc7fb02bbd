-- Expressions are read by their rows.
use Rattle.std.proofs.Common.{◌≡◌, ◌≢◌, ℕ, List, [], ◌∷◌, Option, Some, None, Ok, refl, sym, ◌∙◌, ap, subst}
use Rattle.rg_base.specs.declared.words.Keyword.TheVariants as w
use Rattle.rg_base.specs.declared.words.Sign.TheVariants as s
use Rattle.rg_base.specs.declared.token.Kind.{Kind}
use Rattle.rg_base.specs.declared.token.Kind.TheVariants as k
use Rattle.rg_base.specs.declared.token.Token.{Token}
use Rattle.rg_tree.specs.declared.counts.Counts.{Counts}
use Rattle.rg_tree.specs.declared.rows.BinOp.{BinOp}
use Rattle.rg_tree.specs.declared.rows.BinOp.TheVariants as op
use Rattle.rg_tree.specs.declared.rows.Path as row_path
use Rattle.rg_tree.specs.declared.rows.ExprRow.{ExprRow}
use Rattle.rg_tree.specs.declared.rows.ExprRow.TheVariants as expr_row
use Rattle.rg_tree.specs.Counts.{one_sign}
use Rattle.rg_tree.specs.Tree.{Expr, path, is_nil, neg, not, binary, size, element}
use Rattle.rg_tree.specs.Forms as form
use Rattle.rg_tree.specs.Phrases.{Symbol, that, sign, word, mark, the}
use Rattle.rg_tree.specs.Phrases as p
use Rattle.rg_tree.specs.Grammar as grammar
use Rattle.rg_tree.specs.Grammar.{Reads}
use Rattle.rg_tree.specs.Operators.{comparison_of, literal_of}
use Rattle.rg_tree.specs.Rows.RowTrees.{path_of, expr_at, expr_of}
use Rattle.rg_tree.specs.Rows.RowsExist.{IsExprNumber, IsPathIn}
use Rattle.rg_tree.specs.Table.{next, row}
use Rattle.rg_tree.specs.Rows.Tables.{Tables}
use Rattle.rg_tree.proofs.ByRows.{comparison_of-row, sum_of-row, product_of-row, literal_of-behind}
use Rattle.rg_tree.specs.Adds.{Means}
use Rattle.rg_reader.specs.declared.reader.halt.Halt.{Halt}
use Rattle.rg_reader.specs.declared.reader.kinds.Level.{Level}
use Rattle.rg_reader.specs.declared.reader.kinds.Level.TheVariants as level
use Rattle.rg_reader.specs.Inner.Levels.{IsNext, NoneNext, operator_at, ReadsChain, ReadsRest, ReadsOperand, chain_at, rest_at, operand_at}
use Rattle.rg_reader.specs.Inner.Starts.{primary_start}
use Rattle.rg_reader.specs.declared.reader.starts.PrimaryStart.{PrimaryStart}
use Rattle.rg_reader.specs.declared.reader.starts.PrimaryStart.TheVariants as start
use Rattle.rg_reader.specs.Inner.Parts.{FoundChain, FoundOperand, FoundNot, FoundCmp, FoundUnary, FoundPrimary}
use Rattle.rg_reader.specs.Readings.{FoundExpr, FoundPath}
use Rattle.rg_reader.specs.Inner.Parts.{FoundIs, FoundSomeIndex, index_row}
use Rattle.rg_reader.specs.Readings.{FoundIndex}
use Rattle.rg_reader.specs.Steps.{State, Took, took, took_brace, took_paren, took_bracket, Signed, signed, found, Kept, kept, Extends, Halts}
use Rattle.rg_reader.proofs.Growing.{extends-same, extends-trans, means-later, path-means}
use Rattle.rg_reader.proofs.Halting.{halts-row, halts-here, halts-signed, halts-found, halts-kept}
use Rattle.rg_reader.proofs.Loops.{st}
use Rattle.rg_reader.proofs.TypeRows.{stays}

-- The rows that are added for expressions.

module _ {t u : Tables} {m : ℕ} (g : Extends t u) where
  pub binary-means : (o : BinOp) {l r : ℕ} {x y : Expr} → Means expr_at IsExprNumber t l x → Means expr_at IsExprNumber t r y
      → Means expr_at IsExprNumber u m (expr_of t (expr_row.Binary o l r)) → Means expr_at IsExprNumber u m (binary o x y)
  binary-means o a b n = record {
    is = λ w k. let e = a.is t (extends-same t).keeps in let f = b.is t (extends-same t).keeps in n.is w k ∙ cc;
    there = n.there;
  }

  pub not-means : {l : ℕ} {x : Expr} → Means expr_at IsExprNumber t l x → Means expr_at IsExprNumber u m (expr_of t (expr_row.Not l))
      → Means expr_at IsExprNumber u m (not x)
  not-means a n = record { is = λ w k. n.is w k ∙ ap not (a.is t (extends-same t).keeps); there = n.there }

  pub neg-means : {l : ℕ} {x : Expr} → Means expr_at IsExprNumber t l x → Means expr_at IsExprNumber u m (expr_of t (expr_row.Neg l))
      → Means expr_at IsExprNumber u m (neg x)
  neg-means a n = record { is = λ w k. n.is w k ∙ ap neg (a.is t (extends-same t).keeps); there = n.there }

-- Chains of a level.

-- a level of one word has one operator

none-some : {A : Type 0} {a : A} → None ≡ Some a → ⊥
none-some e = cc

some-is : {A : Type 0} {a b : A} → Some a ≡ Some b → a ≡ b
some-is e = cc

or-is : (x : Kind) (o : BinOp) → operator_at level.Or x ≡ Some o → (x ≡ k.Word w.Or) × (o ≡ op.Or)
or-is (k.Word w.Or) o e = (refl, sym (some-is e))
or-is _ o e = absurd (none-some e)

and-is : (x : Kind) (o : BinOp) → operator_at level.And x ≡ Some o → (x ≡ k.Word w.And) × (o ≡ op.And)
and-is (k.Word w.And) o e = (refl, sym (some-is e))
and-is _ o e = absurd (none-some e)

rest-row : (l : Level) (x : Kind) (o : BinOp) → operator_at l x ≡ Some o
    → row (rest_at l) (Some x) ≡ Some (sign x ∷ the (operand_at l) ∷ the (rest_at l) ∷ [])
rest-row level.Or x o e = rw (or-is x o e).0 refl
rest-row level.And x o e = rw (and-is x o e).0 refl
rest-row level.Sum x o e = sum_of-row x o e
rest-row level.Product x o e = product_of-row x o e

none-row : (l : Level) (o : Option Kind) → NoneNext (operator_at l) o → row (rest_at l) o ≡ Some []
none-row level.Or (Some (k.Word w.Or)) h = let e = h _ refl in cc
none-row level.And (Some (k.Word w.And)) h = let e = h _ refl in cc
none-row level.Sum (Some (k.Mark s.Plus)) h = let e = h _ refl in cc
none-row level.Sum (Some (k.Mark s.Minus)) h = let e = h _ refl in cc
none-row level.Product (Some (k.Mark s.Star)) h = let e = h _ refl in cc
none-row level.Product (Some (k.Mark s.Slash)) h = let e = h _ refl in cc
none-row level.Product (Some (k.Mark s.Percent)) h = let e = h _ refl in cc
none-row level.Or _ h = refl
none-row level.And _ h = refl
none-row level.Sum _ h = refl
none-row level.Product _ h = refl

rest-reads : (l : Level) (x : Kind) (o : BinOp) (source : List ℕ) (t : Token) (ts us vs : List Token) (c d e f : Counts) (a b y : Expr) → t.kind ≡ x
    → operator_at l x ≡ Some o → one_sign c ≡ Ok d → ReadsOperand l source d ts b e us → ReadsRest l (binary o a b) source e us y f vs
    → ReadsRest l a source c (t ∷ ts) y f vs
rest-reads level.Or x o source t ts us vs c d e f a b y h i j r q =
    let is = or-is x o i in
    grammar.or_row (h ∙ is.0) j r (subst (λ z. Reads source (form.OrRest (binary z a b)) e us y f vs) is.1 q)
rest-reads level.And x o source t ts us vs c d e f a b y h i j r q =
    let is = and-is x o i in
    grammar.and_further (h ∙ is.0) j r (subst (λ z. Reads source (form.AndRest (binary z a b)) e us y f vs) is.1 q)
rest-reads level.Sum x o source t ts us vs c d e f a b y h i j r q = grammar.sum_further (rw h i) j r q
rest-reads level.Product x o source t ts us vs c d e f a b y h i j r q = grammar.mul_further (rw h i) j r q

rest-ends : (l : Level) (source : List ℕ) (c : Counts) (ts : List Token) (a : Expr) → NoneNext (operator_at l) (next ts)
    → ReadsRest l a source c ts a c ts
rest-ends level.Or source c ts a h = grammar.no_or (none-row level.Or (next ts) h)
rest-ends level.And source c ts a h = grammar.no_and (none-row level.And (next ts) h)
rest-ends level.Sum source c ts a h = grammar.no_sum (none-row level.Sum (next ts) h)
rest-ends level.Product source c ts a h = grammar.no_mul (none-row level.Product (next ts) h)

chain-reads : (l : Level) (source : List ℕ) (ts us vs : List Token) (c d e : Counts) (a y : Expr) → ReadsOperand l source c ts a d us
    → ReadsRest l a source d us y e vs → ReadsChain l source c ts y e vs
chain-reads level.Or source ts us vs c d e a y r q = grammar.expr_row r q
chain-reads level.And source ts us vs c d e a y r q = grammar.and_row r q
chain-reads level.Sum source ts us vs c d e a y r q = grammar.sum_row r q
chain-reads level.Product source ts us vs c d e a y r q = grammar.mul_row r q

-- where a reading of a chain stops

halts-operand : (l : Level) {a m b : State} {n : ℕ} {ys : List Symbol} (e : Halt) → FoundOperand l a n m → Halts ys m e b
    → Halts (the (operand_at l) ∷ ys) a e b
halts-operand level.Or e f h = halts-found form.And e tt f h
halts-operand level.And e f h = halts-found form.Not e tt f h
halts-operand level.Sum e f h = halts-found form.Mul e tt f h
halts-operand level.Product e f h = halts-found form.Unary e tt f h

halts-chain : (l : Level) {b : State} (a : State) (e : Halt) → Halts (the (operand_at l) ∷ the (rest_at l) ∷ []) a e b
    → Halts (the (chain_at l) ∷ []) a e b
halts-chain level.Or a e h = halts-row a e refl h
halts-chain level.And a e h = halts-row a e refl h
halts-chain level.Sum a e h = halts-row a e refl h
halts-chain level.Product a e h = halts-row a e refl h

halts-rest : (l : Level) {b : State} {ys : List Symbol} (a : State) (e : Halt) → row (rest_at l) (next a.rest) ≡ Some ys → Halts ys a e b
    → Halts (the (rest_at l) ∷ []) a e b
halts-rest level.Or a e i h = halts-row a e i h
halts-rest level.And a e i h = halts-row a e i h
halts-rest level.Sum a e i h = halts-row a e i h
halts-rest level.Product a e i h = halts-row a e i h

-- What stands left of the rest of a chain is read, and has that number.
pub data Goes (l : Level) : State → ℕ → State → Type 0 where
  goes : {source : List ℕ} {ts us : List Token} {c d : Counts} {u v : Tables} {n : ℕ} (x : Expr) → Means expr_at IsExprNumber v n x → Extends u v
      → ((y : Expr) (e : Counts) (vs : List Token) → ReadsRest l x source d us y e vs → ReadsChain l source c ts y e vs)
      → ((e : Halt) (b : State) → Halts (the (rest_at l) ∷ []) (st source us d v) e b → Halts (the (chain_at l) ∷ []) (st source ts c u) e b)
      → Goes l (st source ts c u) n (st source us d v)

pub chain-start : (l : Level) {a b : State} {n : ℕ} → FoundOperand l a n b → Goes l a n b
chain-start l (found {source = source} {ts = ts} {us = us} {c = c} {d = d} {u = u} x r m g) =
    goes x m g (λ y e vs q. chain-reads l source ts us vs c d e x y r q)
    (λ e b h. halts-chain l (st source ts c u) e (halts-operand l e (found x r m g) h))

pub chain-step : (l : Level) (x : Kind) (o : BinOp) {a m i j b : State} {n r q : ℕ} → Goes l a n m → IsNext (operator_at l) (next m.rest) x o
    → Signed x m i → FoundOperand l i r j → Kept j b → Means expr_at IsExprNumber b.tables q (expr_of j.tables (expr_row.Binary o n r)) → Goes l a q b
chain-step l x o (goes {source = source} {us = us} {d = d} {v = v} y m g reads halts) e (signed {t = t} {ts = ts} {d = c} h i)
    (found {us = vs} {d = f} z r n k) (kept j) q =
    goes (binary o y z) (binary-means j o (means-later m k) n q) (extends-trans g (extends-trans k j))
    (λ b a ws p. reads b a ws (rest-reads l x o source t ts vs ws d c f a y z b h e.1 i r p))
    (λ a b p. halts a b (halts-rest l (st source us d v) a (ap (row (rest_at l)) e.0 ∙ rest-row l x o e.1)
    (halts-signed a (signed h i) (halts-operand l a (found z r n k) (halts-kept a (kept j) p)))))

pub chain-end : (l : Level) {a m : State} {n : ℕ} → Goes l a n m → NoneNext (operator_at l) (next m.rest) → FoundChain l a n m
chain-end l (goes {source = source} {us = us} {d = d} y m g reads halts) h = found y (reads y d us (rest-ends l source d us y h)) m g

pub chain-left_halts : (l : Level) {a b : State} (e : Halt) → Halts (the (operand_at l) ∷ []) a e b → Halts (the (chain_at l) ∷ []) a e b
chain-left_halts l {a} e h = halts-chain l a e (halts-here e h)

pub chain-sign_halts : (l : Level) (x : Kind) (o : BinOp) {a m b : State} {n : ℕ} (e : Halt) → Goes l a n m → IsNext (operator_at l) (next m.rest) x o
    → Halts (sign x ∷ []) m e b → Halts (the (chain_at l) ∷ []) a e b
chain-sign_halts l x o {b = b} e (goes {source = source} {us = us} {d = d} {v = v} y m g reads halts) i h =
    halts e b (halts-rest l (st source us d v) e (ap (row (rest_at l)) i.0 ∙ rest-row l x o i.1) (halts-here e h))

pub chain-right_halts : (l : Level) (x : Kind) (o : BinOp) {a m i b : State} {n : ℕ} (e : Halt) → Goes l a n m
    → IsNext (operator_at l) (next m.rest) x o → Signed x m i → Halts (the (operand_at l) ∷ []) i e b → Halts (the (chain_at l) ∷ []) a e b
chain-right_halts l x o {b = b} e (goes {source = source} {us = us} {d = d} {v = v} y m g reads halts) i f h =
    halts e b (halts-rest l (st source us d v) e (ap (row (rest_at l)) i.0 ∙ rest-row l x o i.1) (halts-signed e f (halts-here e h)))

-- not, and comparisons

not-plain_row : (o : Option Kind) → o ≢ Some (k.Word w.Not) → row p.Not o ≡ Some (the p.Cmp ∷ [])
not-plain_row (Some (k.Word w.Not)) h = absurd (h refl)
not-plain_row _ h = refl

pub not-found : {a b c d : State} {n m : ℕ} → Took (k.Word w.Not) a b → FoundCmp b n c → Kept c d
    → Means expr_at IsExprNumber d.tables m (expr_of c.tables (expr_row.Not n)) → FoundNot a m d
not-found (took i h) (found x r m g) (kept l) q = found (not x) (grammar.not_row h r) (not-means l m q) (extends-trans g l)

pub no_not-found : {a b : State} {n : ℕ} → next a.rest ≢ Some (k.Word w.Not) → FoundCmp a n b → FoundNot a n b
no_not-found h (found {ts = ts} x r m g) = found x (grammar.no_not (not-plain_row (next ts) h) r) m g

pub no_not-halts : {a b : State} (e : Halt) → next a.rest ≢ Some (k.Word w.Not) → Halts (the p.Cmp ∷ []) a e b → Halts (the p.Not ∷ []) a e b
no_not-halts {a} e h t = halts-row a e (not-plain_row (next a.rest) h) t

no_comparison-row : (o : Option Kind) → NoneNext comparison_of o → row p.CmpRest o ≡ Some []
no_comparison-row (Some (k.Mark s.Equal)) h = let e = h _ refl in cc
no_comparison-row (Some (k.Mark s.NotEqual)) h = let e = h _ refl in cc
no_comparison-row (Some (k.Mark s.Less)) h = let e = h _ refl in cc
no_comparison-row (Some (k.Mark s.AtMost)) h = let e = h _ refl in cc
no_comparison-row (Some (k.Mark s.Greater)) h = let e = h _ refl in cc
no_comparison-row (Some (k.Mark s.AtLeast)) h = let e = h _ refl in cc
no_comparison-row _ h = refl

pub not_compared-found : {a b : State} {n : ℕ} → FoundChain level.Sum a n b → NoneNext comparison_of (next b.rest) → FoundCmp a n b
not_compared-found (found {us = us} x r m g) h = found x (grammar.cmp_row r (grammar.not_compared (no_comparison-row (next us) h))) m g

pub compared-found : (x : Kind) (o : BinOp) {a b c d f : State} {n m q : ℕ} → FoundChain level.Sum a n b → IsNext comparison_of (next b.rest) x o
    → Signed x b c → FoundChain level.Sum c m d → Kept d f → Means expr_at IsExprNumber f.tables q (expr_of d.tables (expr_row.Binary o n m))
    → FoundCmp a q f
compared-found x o (found y r m g) e (signed h i) (found z t n l) (kept k) q =
    found (binary o y z) (grammar.cmp_row r (grammar.compared (rw h e.1) i t)) (binary-means k o (means-later m l) n q)
    (extends-trans g (extends-trans l k))

pub compared-left_halts : {a b : State} (e : Halt) → Halts (the p.Sum ∷ []) a e b → Halts (the p.Cmp ∷ []) a e b
compared-left_halts {a} e h = halts-row a e refl (halts-here e h)

pub compared-sign_halts : (x : Kind) (o : BinOp) {a m b : State} {n : ℕ} (e : Halt) → FoundChain level.Sum a n m
    → IsNext comparison_of (next m.rest) x o → Halts (sign x ∷ []) m e b → Halts (the p.Cmp ∷ []) a e b
compared-sign_halts x o {a} {m} e f i h =
    halts-row a e refl (halts-found form.Sum e tt f (halts-row m e (ap (row p.CmpRest) i.0 ∙ comparison_of-row x o i.1) (halts-here e h)))

pub compared-right_halts : (x : Kind) (o : BinOp) {a m i b : State} {n : ℕ} (e : Halt) → FoundChain level.Sum a n m
    → IsNext comparison_of (next m.rest) x o → Signed x m i → Halts (the p.Sum ∷ []) i e b → Halts (the p.Cmp ∷ []) a e b
compared-right_halts x o {a} {m} e f i g h =
    halts-row a e refl
    (halts-found form.Sum e tt f (halts-row m e (ap (row p.CmpRest) i.0 ∙ comparison_of-row x o i.1) (halts-signed e g h)))

-- minus, and primaries

no_minus-row : (o : Option Kind) → o ≢ Some (k.Mark s.Minus) → row p.Unary o ≡ Some (the p.Primary ∷ [])
no_minus-row (Some (k.Mark s.Minus)) h = absurd (h refl)
no_minus-row _ h = refl

pub minus-found : {a b c d : State} {n m : ℕ} → Took (k.Mark s.Minus) a b → FoundPrimary b n c → Kept c d
    → Means expr_at IsExprNumber d.tables m (expr_of c.tables (expr_row.Neg n)) → FoundUnary a m d
minus-found (took i h) (found x r m g) (kept l) q = found (neg x) (grammar.minus h r) (neg-means l m q) (extends-trans g l)

pub no_minus-found : {a b : State} {n : ℕ} → next a.rest ≢ Some (k.Mark s.Minus) → FoundPrimary a n b → FoundUnary a n b
no_minus-found h (found {ts = ts} x r m g) = found x (grammar.no_minus (no_minus-row (next ts) h) r) m g

pub no_minus-halts : {a b : State} (e : Halt) → next a.rest ≢ Some (k.Mark s.Minus) → Halts (the p.Primary ∷ []) a e b
    → Halts (the p.Unary ∷ []) a e b
no_minus-halts {a} e h t = halts-row a e (no_minus-row (next a.rest) h) t

abbrev primary_row : PrimaryStart → Option (List Symbol)
primary_row (start.Number z) = Some (that (k.Number z) ∷ [])
primary_row start.True = Some (that (k.Word w.True) ∷ [])
primary_row start.False = Some (that (k.Word w.False) ∷ [])
primary_row start.Nil = Some (that (k.Word w.Nil) ∷ [])
primary_row start.Paren = Some (mark s.OpenParen ∷ the p.Expr ∷ mark s.CloseParen ∷ [])
primary_row start.Size = Some (word w.Size ∷ the p.Path ∷ [])
primary_row start.Path = Some (the p.Path ∷ the p.Is ∷ [])
primary_row start.Nothing = None

primary-rows : (o : Option Kind) → row p.Primary o ≡ primary_row (primary_start o)
primary-rows (Some (k.Number z)) = refl
primary-rows (Some (k.Word w.True)) = refl
primary-rows (Some (k.Word w.False)) = refl
primary-rows (Some (k.Word w.Nil)) = refl
primary-rows (Some (k.Mark s.OpenParen)) = refl
primary-rows (Some (k.Word w.Size)) = refl
primary-rows (Some k.Name) = refl
primary-rows (Some (k.Word w.SelfWord)) = refl
primary-rows _ = refl

pub no-primary : (o : Option Kind) → primary_start o ≡ start.Nothing → row p.Primary o ≡ None
no-primary o e = primary-rows o ∙ ap primary_row e

pub paren-row : (o : Option Kind) → primary_start o ≡ start.Paren
    → row p.Primary o ≡ Some (mark s.OpenParen ∷ the p.Expr ∷ mark s.CloseParen ∷ [])
paren-row o e = primary-rows o ∙ ap primary_row e

pub size-row : (o : Option Kind) → primary_start o ≡ start.Size → row p.Primary o ≡ Some (word w.Size ∷ the p.Path ∷ [])
size-row o e = primary-rows o ∙ ap primary_row e

pub path-row : (o : Option Kind) → primary_start o ≡ start.Path → row p.Primary o ≡ Some (the p.Path ∷ the p.Is ∷ [])
path-row o e = primary-rows o ∙ ap primary_row e

pub literal-found : (x : Kind) (y : Expr) {a b c : State} {n : ℕ} → literal_of x ≡ Some y → Took x a b → Kept b c
    → Means expr_at IsExprNumber c.tables n y → FoundPrimary a n c
literal-found x y e (took {source = source} {t = t} {ts = ts} {c = c} i h) (kept l) m =
    let r : Reads source form.Primary c (t ∷ ts) y c ts = grammar.literal (ap literal_of h ∙ e) in
    found y (subst (λ d. Reads source form.Primary c (t ∷ ts) y d ts) (sym (stays x c i (literal_of-behind x y c e))) r) m l
literal-found _ y e (took_brace h l) (kept g) m = absurd (none-some e)
literal-found _ y e (took_paren h l) (kept g) m = absurd (none-some e)
literal-found _ y e (took_bracket h l) (kept g) m = absurd (none-some e)

pub parens-found : {a b c d : State} {n : ℕ} → Took (k.Mark s.OpenParen) a b → FoundExpr b n c → Took (k.Mark s.CloseParen) c d → FoundPrimary a n d
parens-found (took i h) q t = absurd i
parens-found (took_paren h l) (found x r m g) (took i f) = found x (grammar.parens h l r f) m g

pub size-found : {a b c d : State} {q : row_path.Path} {n : ℕ} → Took (k.Word w.Size) a b → FoundPath b q c → Kept c d
    → Means expr_at IsExprNumber d.tables n (expr_of c.tables (expr_row.Size q)) → FoundPrimary a n d
size-found (took i h) (found {v = v} x r m g) (kept l) n =
    found (size x) (grammar.size_row h r) (record { is = λ u z. n.is u z ∙ ap size (m.is v (extends-same v).keeps); there = n.there })
    (extends-trans g l)

-- indices, and what stands behind a path

pub some_index-found : {a b c d : State} {n : ℕ} → Took (k.Mark s.OpenBracket) a b → FoundExpr b n c → Took (k.Mark s.CloseBracket) c d
    → FoundSomeIndex a n d
some_index-found (took i h) q t = absurd i
some_index-found (took_bracket h l) (found x r m g) (took i f) = found x (index_row h l r f) m g

pub index-found : {a b : State} {n : ℕ} → FoundSomeIndex a n b → FoundIndex a (Some n) b
index-found (found x (index_row h l r f) m g) =
    found (Some x) (grammar.at_row h l r f) (record { is = λ u z. ap Some (m.is u z); there = m.there }) g

no_index-row : (o : Option Kind) → o ≢ Some (k.Mark s.OpenBracket) → row p.At o ≡ Some []
no_index-row (Some (k.Mark s.OpenBracket)) h = absurd (h refl)
no_index-row _ h = refl

pub no_index-found : (a : State) → next a.rest ≢ Some (k.Mark s.OpenBracket) → FoundIndex a None a
no_index-found a h = found None (grammar.no_at (no_index-row (next a.rest) h))
    (record { is = λ u z. refl; there = λ u z. tt }) (extends-same a.tables)

pub is_nil-found : {a b c : State} (q : row_path.Path) → IsPathIn a.tables q → Took (k.Word w.Is) a b → Took (k.Word w.Nil) b c
    → FoundIs (path_of a.tables q) a (expr_row.IsNil q) c
is_nil-found q there (took {u = u} i h) (took i' h') =
    let m = path-means q there in
    found (is_nil (path_of u q)) (grammar.is_row h h') (record { is = λ v z. ap is_nil (m.is v z); there = m.there }) (extends-same u)

pub element-found : {a b : State} {n : ℕ} (q : row_path.Path) → IsPathIn a.tables q → FoundSomeIndex a n b
    → FoundIs (path_of a.tables q) a (expr_row.At q n) b
element-found q there (found {u = u} x (index_row h l r f) m g) =
    let n = means-later (path-means q there) g in
    found (element (path_of u q) x) (grammar.element_of h l r f)
    (record { is = λ v z. let e1 = n.is v z in let e2 = m.is v z in cc; there = λ v z. (n.there v z, m.there v z) }) g

no_is-row : (o : Option Kind) → o ≢ Some (k.Word w.Is) → o ≢ Some (k.Mark s.OpenBracket) → row p.Is o ≡ Some []
no_is-row (Some (k.Word w.Is)) h i = absurd (h refl)
no_is-row (Some (k.Mark s.OpenBracket)) h i = absurd (i refl)
no_is-row _ h i = refl

pub no_is-found : (a : State) (q : row_path.Path) → IsPathIn a.tables q → next a.rest ≢ Some (k.Word w.Is)
    → next a.rest ≢ Some (k.Mark s.OpenBracket) → FoundIs (path_of a.tables q) a (expr_row.Path q) a
no_is-found a q there h i =
    let m = path-means q there in
    found (path (path_of a.tables q)) (grammar.no_is (no_is-row (next a.rest) h i))
    (record { is = λ v z. ap path (m.is v z); there = m.there }) (extends-same a.tables)

pub path-found : {a b c d : State} {q : row_path.Path} {x : ExprRow} {n : ℕ} → FoundPath a q b → FoundIs (path_of b.tables q) b x c → Kept c d
    → Means expr_at IsExprNumber d.tables n (expr_of c.tables x) → FoundPrimary a n d
path-found (found {source = source} {us = ts} {d = c} {v = v} y r m g) (found {us = us} {d = d} {v = w} z s o k) (kept l) n =
    let read = subst (λ p. Reads source (form.Is p) c ts z d us) (m.is v (extends-same v).keeps) s in
    found z (grammar.path_value r read) (record { is = λ u q. n.is u q ∙ o.is w (extends-same w).keeps; there = n.there })
    (extends-trans g (extends-trans k l))

-- The operands of a row exist.

pub chain-there : (l : Level) (x : Kind) {a m i j : State} {n r : ℕ} → Goes l a n m → Signed x m i → FoundOperand l i r j
    → IsExprNumber j.tables n × IsExprNumber j.tables r
chain-there l x (goes y m g reads halts) (signed h i) (found {v = u} z r n k) =
    (m.there u k.keeps, n.there u (extends-same u).keeps)

pub compared-there : (x : Kind) {a b c d : State} {n m : ℕ} → FoundChain level.Sum a n b → Signed x b c → FoundChain level.Sum c m d
    → IsExprNumber d.tables n × IsExprNumber d.tables m
compared-there x (found y r m g) (signed h i) (found {v = u} z t n k) = (m.there u k.keeps, n.there u (extends-same u).keeps)
