-- Paths and calls are read by their rows.
use Rattle.std.proofs.Common.{◌≡◌, ◌≢◌, ℕ, List, [], ◌∷◌, ◌++◌, option_map, length, Option, Some, None, IfSome, refl, ◌∙◌, ap, subst}
use Rattle.std.proofs.Common.{append_assoc, append-nil}
use Rattle.rg_base.specs.declared.words.Keyword.TheVariants as w
use Rattle.rg_base.specs.declared.words.Sign.TheVariants as s
use Rattle.rg_base.specs.declared.token.Kind.{Kind}
use Rattle.rg_base.specs.declared.token.Kind.TheVariants as k
use Rattle.rg_base.specs.declared.token.Token.{Token}
use Rattle.rg_tree.specs.declared.counts.Counts.{Counts}
use Rattle.rg_tree.specs.declared.rows.Span.{Span}
use Rattle.rg_tree.specs.declared.rows.CallRow.{CallRow}
use Rattle.rg_base.specs.declared.fault.Code.TheVariants.{Syntax}
use Rattle.rg_tree.specs.Tree.{Name, Variable, Expr, Call}
use Rattle.rg_tree.specs.Forms as form
use Rattle.rg_tree.specs.Phrases.{Symbol, word, mark, name, the}
use Rattle.rg_tree.specs.Phrases as p
use Rattle.rg_tree.specs.Grammar.{Reads, text, path_row, next_field, no_fields, call_base, call_start, call_further, call_args, no_args, first_arg}
use Rattle.rg_tree.specs.Grammar.{next_arg, no_more_args}
use Rattle.rg_tree.specs.Rows.RowTrees.{expr_at}
use Rattle.rg_tree.specs.Rows.RowsExist.{IsNameIn, IsExprNumber}
use Rattle.rg_tree.specs.Table.{next, row}
use Rattle.rg_tree.specs.Rows.Tables.{Tables, name_at}
use Rattle.rg_tree.specs.Adds.{Means}
use Rattle.rg_tree.proofs.Adding.{name-means}
use Rattle.rg_reader.specs.declared.reader.halt.Halt.{Halt}
use Rattle.rg_reader.specs.declared.reader.halt.Halt.TheVariants as halt
use Rattle.rg_reader.specs.Lists.{numbers_of, IsListed}
use Rattle.rg_reader.specs.Inner.Starts.{base_start}
use Rattle.rg_reader.specs.declared.reader.starts.BaseStart.{BaseStart}
use Rattle.rg_reader.specs.declared.reader.starts.BaseStart.TheVariants as base
use Rattle.rg_reader.specs.Readings.{FoundPath, FoundCall, FoundExpr}
use Rattle.rg_reader.specs.Inner.Parts.{FoundFields, FoundBase, FoundCallRest, FoundCallArgs, FoundArgs}
use Rattle.rg_reader.specs.Steps.{State, Took, took, took_paren, Used, used, found, Kept, kept, Extends, Halts}
use Rattle.rg_reader.proofs.Growing.{extends-same, extends-trans, means-later, base-means}
use Rattle.rg_reader.proofs.Halting.{halts-none, halts-row, halts-here, halts-took, halts-used, halts-found, halts-kept}
use Rattle.rg_reader.proofs.Loops.{st, MeansAll, Along, along, means-nil, means-push, means-span}

-- fields

abbrev pub AlongFields : State → List ℕ → State → Type 0
AlongFields = Along (λ source. Reads source form.Fields) (λ source. Reads source form.Fields) (◌++◌ {A = Name}) p.Fields p.Fields name_at IsNameIn

pub fields-start : (a : State) → AlongFields a [] a
fields-start a = along [] (means-nil name_at IsNameIn a.tables) (extends-same a.tables) (λ r e vs q. q) (λ e b h. h)

pub fields-step : {a m i n : State} {ks : List ℕ} {v : ℕ} → AlongFields a ks m → Took (k.Mark s.Dot) m i → Used i v n
    → AlongFields a (ks ++ v ∷ []) n
fields-step (along {source = source} {ts = ts} {c = c} done m g reads halts) (took i h) (used {t = t} {ts = us} {c = d} {u = u} j n l) =
    along (done ++ text source t ∷ []) (means-push (means-later m l) n) (extends-trans g l)
    (λ r e vs q. rw (append_assoc done (text source t ∷ []) r) (reads (text source t ∷ r) e vs (next_field h j q)))
    (λ e b x. halts e b (halts-row _ e (ap (λ z. row p.Fields (Some z)) h) (halts-took e (took i h) (halts-used e (used j n l) x))))

no_fields-row : (o : Option Kind) → o ≢ Some (k.Mark s.Dot) → row p.Fields o ≡ Some []
no_fields-row (Some (k.Mark s.Dot)) h = absurd (h refl)
no_fields-row _ h = refl

pub fields-end : {a m n : State} {ks : List ℕ} {x : Span} → AlongFields a ks m → next m.rest ≢ Some (k.Mark s.Dot) → Kept m n
    → Means numbers_of IsListed n.tables x ks → FoundFields a x n
fields-end (along {source = source} {ts = ts} {us = us} {c = c} {d = d} done m g reads halts) h (kept l) o =
    found done (rw append-nil at (reads [] d us (no_fields (no_fields-row (next us) h))))
    (means-span (λ t. length t.names) (means-later m l) o) (extends-trans g l)

-- paths

abbrev path_start_row : BaseStart → Option (List Symbol)
path_start_row base.Name = Some (name ∷ the p.Fields ∷ [])
path_start_row base.SelfWord = Some (word w.SelfWord ∷ the p.Fields ∷ [])
path_start_row base.Nothing = None

path-rows : (o : Option Kind) → row p.Path o ≡ path_start_row (base_start o)
path-rows (Some k.Name) = refl
path-rows (Some (k.Word w.SelfWord)) = refl
path-rows _ = refl

pub no-path : (o : Option Kind) → base_start o ≡ base.Nothing → row p.Path o ≡ None
no-path o e = path-rows o ∙ ap path_start_row e

pub name_path-row : (o : Option Kind) → base_start o ≡ base.Name → row p.Path o ≡ Some (name ∷ the p.Fields ∷ [])
name_path-row o e = path-rows o ∙ ap path_start_row e

pub self_path-row : (o : Option Kind) → base_start o ≡ base.SelfWord → row p.Path o ≡ Some (word w.SelfWord ∷ the p.Fields ∷ [])
self_path-row o e = path-rows o ∙ ap path_start_row e

pub name_path-found : {a m b : State} {n : ℕ} {x : Span} → Used a n m → FoundFields m x b
    → FoundPath a (record { base = Some n; fields = x }) b
name_path-found (used {source = source} {t = t} h n l) (found y r q g) =
    found (record { base = Some (text source t); fields = y }) (path_row (rw h refl) r)
    (record {
      is = λ u z. let e = (means-later n g).is u z in let f = q.is u z in cc;
      there = λ u z. record { base = (means-later n g).there u z; fields = q.there u z };
    })
    (extends-trans l g)

pub self_path-found : {a m b : State} {x : Span} → Took (k.Word w.SelfWord) a m → FoundFields m x b
    → FoundPath a (record { base = None; fields = x }) b
self_path-found (took i h) (found y r q g) =
    found (record { base = None; fields = y }) (path_row (rw h refl) r)
    (record { is = λ u z. let f = q.is u z in cc; there = λ u z. record { base = tt; fields = q.there u z } })
    g

-- what a call begins with

abbrev base_start_row : BaseStart → Option (List Symbol)
base_start_row base.Name = Some (name ∷ [])
base_start_row base.SelfWord = Some (word w.SelfWord ∷ [])
base_start_row base.Nothing = None

base-rows : (o : Option Kind) → row p.CallBase o ≡ base_start_row (base_start o)
base-rows (Some k.Name) = refl
base-rows (Some (k.Word w.SelfWord)) = refl
base-rows _ = refl

pub no-base : (o : Option Kind) → base_start o ≡ base.Nothing → row p.CallBase o ≡ None
no-base o e = base-rows o ∙ ap base_start_row e

pub name_base-row : (o : Option Kind) → base_start o ≡ base.Name → row p.CallBase o ≡ Some (name ∷ [])
name_base-row o e = base-rows o ∙ ap base_start_row e

pub self_base-row : (o : Option Kind) → base_start o ≡ base.SelfWord → row p.CallBase o ≡ Some (word w.SelfWord ∷ [])
self_base-row o e = base-rows o ∙ ap base_start_row e

pub name_base-found : {a b : State} {n : ℕ} → Used a n b → FoundBase a (Some n) b
name_base-found (used {source = source} {t = t} h n l) =
    found (Some (text source t)) (call_base (rw h refl)) (record { is = λ u z. ap Some (n.is u z); there = n.there }) l

pub self_base-found : {a b : State} → Took (k.Word w.SelfWord) a b → FoundBase a None b
self_base-found (took {u = u} i h) = found None (call_base (rw h refl)) (record { is = λ w z. refl; there = λ w z. tt }) (extends-same u)

-- calls

-- The names so far are fields of the target, and the last one may be the method.
pub data AlongCall (b : Variable) (m : Name) : State → List ℕ → ℕ → State → Type 0 where
  along_call : {source : List ℕ} {ts us : List Token} {c d : Counts} {u v : Tables} {ks : List ℕ} {n : ℕ} (done : List Name) (last : Name)
      → MeansAll name_at IsNameIn v ks done → Means name_at IsNameIn v n last → Extends u v
      → ((a : Call) (e : Counts) (vs : List Token) → Reads source (form.CallRest (record { base = b; fields = done }) last) d us a e vs
      → Reads source (form.CallRest (record { base = b; fields = [] }) m) c ts a e vs)
      → ((e : Halt) (z : State) → Halts (the p.CallRest ∷ []) (st source us d v) e z → Halts (the p.CallRest ∷ []) (st source ts c u) e z)
      → AlongCall b m (st source ts c u) ks n (st source us d v)

pub call-start : (b : Variable) (a : State) (n : ℕ) → IsNameIn a.tables n → AlongCall b (name_at a.tables n) a [] n a
call-start b a n l =
    along_call [] (name_at a.tables n) (means-nil name_at IsNameIn a.tables) (name-means n _ refl l) (extends-same a.tables) (λ x e vs q. q)
    (λ e z h. h)

pub call-step : {b : Variable} {x : Name} {a m i o : State} {ks : List ℕ} {n v : ℕ} → AlongCall b x a ks n m → Took (k.Mark s.Dot) m i → Used i v o
    → AlongCall b x a (ks ++ n ∷ []) v o
call-step (along_call done last m named g reads halts) (took i h) (used {source = source} {t = t} j n l) =
    along_call (done ++ last ∷ []) (text source t) (means-push (means-later m l) (means-later named l)) n (extends-trans g l)
    (λ y e vs q. reads y e vs (call_further h j q))
    (λ e z w. halts e z (halts-row _ e (ap (λ y. row p.CallRest (Some y)) h) (halts-took e (took i h) (halts-used e (used j n l) w))))

-- the state of a call behind its names
pub call-behind : {b : Variable} {x : Name} {a m i z : State} {ks : List ℕ} {n : ℕ} (e : Halt) → AlongCall b x a ks n m → Kept m i
    → Halts (the p.CallRest ∷ []) i e z → Halts (the p.CallRest ∷ []) a e z
call-behind {z = z} e (along_call done last m named g reads halts) (kept l) h = halts e z (halts-kept e (kept l) h)

pub call-stop : {b : Variable} {x : Name} {a m z : State} {ks : List ℕ} {n : ℕ} (e : Halt) → AlongCall b x a ks n m
    → next m.rest ≡ Some (k.Mark s.Dot) → Halts (mark s.Dot ∷ name ∷ the p.CallRest ∷ []) m e z → Halts (the p.CallRest ∷ []) a e z
call-stop {z = z} e (along_call done last m named g reads halts) i h = halts e z (halts-row _ e (ap (row p.CallRest) i) h)

pub call-end : {x : Name} {a m i j : State} {ks : List ℕ} {n : ℕ} {f y : Span} (o : Option ℕ) → IfSome o (IsNameIn a.tables)
    → AlongCall (option_map (name_at a.tables) o) x a ks n m → Kept m i → Means numbers_of IsListed i.tables f ks → FoundCallArgs i y j
    → FoundCallRest (option_map (name_at a.tables) o) x a (record { path = record { base = o; fields = f }; method = n; args = y }) j
call-end o there (along_call {u = u} done last m named g reads halts) (kept l) w (found z r q k) =
    let b = base-means o there in
    let fs = means-later (means-span (λ t. length t.names) (means-later m l) w) k in
    let method = means-later named (extends-trans l k) in
    let all = extends-trans g (extends-trans l k) in
    found (record { target = record { base = option_map (name_at u) o; fields = done }; method = last; args = z }) (reads _ _ _ (r _ _))
    (record {
      is = λ t h. let e1 = (means-later b all).is t h in let e2 = fs.is t h in let e3 = method.is t h in let e4 = q.is t h in cc;
      there = λ t h. record {
        target = record { base = (means-later b all).there t h; fields = fs.there t h };
        method = method.there t h;
        args = q.there t h;
      };
    })
    all

no_call-row : (o : Option Kind) → o ≢ Some (k.Mark s.Dot) → o ≢ Some (k.Mark s.OpenParen) → row p.CallRest o ≡ None
no_call-row (Some (k.Mark s.Dot)) h i = absurd (h refl)
no_call-row (Some (k.Mark s.OpenParen)) h i = absurd (i refl)
no_call-row _ h i = refl

pub no_call-halts : (a : State) → next a.rest ≢ Some (k.Mark s.Dot) → next a.rest ≢ Some (k.Mark s.OpenParen)
    → Halts (the p.CallRest ∷ []) a (halt.At Syntax) a
no_call-halts a h i = halts-none a (no_call-row (next a.rest) h i)

pub enclosed-found : {a b c d : State} {x : Span} → Took (k.Mark s.OpenParen) a b → FoundArgs b x c → Took (k.Mark s.CloseParen) c d
    → FoundCallArgs a x d
enclosed-found (took i h) q t = absurd i
enclosed-found (took_paren h l) (found x r m g) (took i f) = found x (λ q m. call_args h l r f) m g

pub call-found : {a b c d e f : State} {o : Option ℕ} {n : ℕ} {x : CallRow} → Took (k.Word w.Call) a b → FoundBase b o c → Took (k.Mark s.Dot) c d
    → Used d n e → FoundCallRest (option_map (name_at e.tables) o) (name_at e.tables n) e x f → FoundCall a x f
call-found (took i1 h1) (found y r2 m2 g2) (took i3 h3) (used {source = source} {t = t} {ts = ts} {c = c} {v = v} {n = i} h4 n g4)
    (found {us = us} {d = d} z r5 m5 g5) =
    let same = (extends-same v).keeps in
    let P : Variable → Name → Type 0 = λ b m. Reads source (form.CallRest (record { base = b; fields = [] }) m) c ts z d us in
    let r = subst (λ m. P y m) (n.is v same) (subst (λ b. P b (name_at v i)) ((means-later m2 g4).is v same) r5) in
    found z (call_start h1 r2 h3 h4 r) m5 (extends-trans g2 (extends-trans g4 g5))

pub base-there : {b c d e : State} {o : Option ℕ} {n : ℕ} → FoundBase b o c → Took (k.Mark s.Dot) c d → Used d n e → IfSome o (IsNameIn e.tables)
base-there (found y r m g) (took i h) (used {v = v} j n l) = (means-later m l).there v (extends-same v).keeps

pub name-there : {d e : State} {n : ℕ} → Used d n e → IsNameIn e.tables n
name-there (used {v = v} j n l) = n.there v (extends-same v).keeps

-- arguments

abbrev pub AlongArgs : State → List ℕ → State → Type 0
AlongArgs = Along (λ source. Reads source form.Args) (λ source. Reads source form.MoreArgs) (◌++◌ {A = Expr}) p.Args p.MoreArgs expr_at IsExprNumber

args-row : (o : Option Kind) → o ≢ Some (k.Mark s.CloseParen) → row p.Args o ≡ Some (the p.Expr ∷ the p.MoreArgs ∷ [])
args-row (Some (k.Mark s.CloseParen)) h = absurd (h refl)
args-row _ h = refl

pub args-first_halts : {a b : State} (e : Halt) → next a.rest ≢ Some (k.Mark s.CloseParen) → Halts (the p.Expr ∷ []) a e b
    → Halts (the p.Args ∷ []) a e b
args-first_halts {a} e h i = halts-row a e (args-row (next a.rest) h) (halts-here e i)

pub args-start : {a b : State} {n : ℕ} → next a.rest ≢ Some (k.Mark s.CloseParen) → FoundExpr a n b → AlongArgs a (n ∷ []) b
args-start h (found {source = source} {ts = ts} {us = us} {c = c} {u = u} x r m g) =
    let rows = args-row (next ts) h in
    along (x ∷ []) (means-push (means-nil expr_at IsExprNumber _) m) g (λ y e vs q. first_arg rows r q)
    (λ e b i. halts-row (st source ts c u) e rows (halts-found form.Expr e tt (found x r m g) i))

pub args-step : {a m i n : State} {ks : List ℕ} {v : ℕ} → AlongArgs a ks m → Took (k.Mark s.Comma) m i → FoundExpr i v n
    → AlongArgs a (ks ++ v ∷ []) n
args-step (along done m g reads halts) (took i h) (found x r n l) =
    along (done ++ x ∷ []) (means-push (means-later m l) n) (extends-trans g l)
    (λ y e vs q. rw (append_assoc done (x ∷ []) y) (reads (x ∷ y) e vs (next_arg h r q)))
    (λ e b w. halts e b (halts-row _ e (ap (λ z. row p.MoreArgs (Some z)) h)
    (halts-took e (took i h) (halts-found form.Expr e tt (found x r n l) w))))

pub args-stop : {a m b : State} {ks : List ℕ} (e : Halt) → AlongArgs a ks m → next m.rest ≡ Some (k.Mark s.Comma)
    → Halts (mark s.Comma ∷ the p.Expr ∷ the p.MoreArgs ∷ []) m e b → Halts (the p.Args ∷ []) a e b
args-stop {b = b} e (along done m g reads halts) i h = halts e b (halts-row _ e (ap (row p.MoreArgs) i) h)

no_more-row : (o : Option Kind) → o ≢ Some (k.Mark s.Comma) → o ≢ Some (k.Mark s.CloseParen) → row p.MoreArgs o ≡ None
no_more-row (Some (k.Mark s.Comma)) h i = absurd (h refl)
no_more-row (Some (k.Mark s.CloseParen)) h i = absurd (i refl)
no_more-row _ h i = refl

pub args-none : {a m : State} {ks : List ℕ} (e : Halt) → AlongArgs a ks m → next m.rest ≢ Some (k.Mark s.Comma)
    → (e ≡ halt.At Syntax) × (next m.rest ≢ Some (k.Mark s.CloseParen)) → Halts (the p.Args ∷ []) a e m
args-none e (along {us = us} done m g reads halts) h i = rw i.0 (halts (halt.At Syntax) _ (halts-none _ (no_more-row (next us) h i.1)))

pub args-end : {a m n : State} {ks : List ℕ} {x : Span} → AlongArgs a ks m → next m.rest ≡ Some (k.Mark s.CloseParen) → Kept m n
    → Means numbers_of IsListed n.tables x ks → FoundArgs a x n
args-end (along {us = us} {d = d} done m g reads halts) h (kept l) o =
    found done (rw append-nil at (reads [] d us (no_more_args h))) (means-span (λ t. length t.exprs) (means-later m l) o) (extends-trans g l)

pub no_args-found : {a b : State} {x : Span} → next a.rest ≡ Some (k.Mark s.CloseParen) → Kept a b → Means numbers_of IsListed b.tables x []
    → FoundArgs a x b
no_args-found h (kept l) o = found [] (no_args h) (means-span (λ t. length t.exprs) (means-nil expr_at IsExprNumber _) o) l

-- where fields stop
pub fields-stop : {a m b : State} {ks : List ℕ} (e : Halt) → AlongFields a ks m → next m.rest ≡ Some (k.Mark s.Dot)
    → Halts (mark s.Dot ∷ name ∷ the p.Fields ∷ []) m e b → Halts (the p.Fields ∷ []) a e b
fields-stop {b = b} e (along done m g reads halts) i h = halts e b (halts-row _ e (ap (row p.Fields) i) h)
