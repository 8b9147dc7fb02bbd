-- One token is passed, or a reading stops at it.
use Rattle.std.proofs.Common.{◌≡◌, ◌≢◌, ◌≤◌, ℕ, List, [], ◌∷◌, length, Option, Some, None, Result, Ok, Err, IfErr, refl, sym, ◌∙◌, ap, subst, arith}
use Rattle.std.specs.Result.{IsErrAnd}
use Rattle.std.proofs.lemmas.Result.{err_from_is_err_and}
use Rattle.rg_base.specs.declared.words.Keyword.TheVariants as w
use Rattle.rg_base.specs.declared.words.Sign.TheVariants as s
use Rattle.rg_base.specs.declared.token.Kind.{Kind}
use Rattle.rg_base.specs.declared.token.Kind.TheVariants as k
use Rattle.rg_base.specs.declared.token.Token.{Token}
use Rattle.rg_base.specs.declared.fault.Code.{Code}
use Rattle.rg_base.specs.declared.fault.Code.TheVariants.{Syntax}
use Rattle.rg_tree.specs.declared.counts.Counts.{Counts}
use Rattle.rg_tree.specs.Counts.{behind, counted, one_sign}
use Rattle.rg_tree.specs.Grammar.{text}
use Rattle.rg_tree.specs.Phrases.{Symbol, finish}
use Rattle.rg_tree.specs.Stuck.{Stops, expected, another, past}
use Rattle.rg_tree.specs.Table.{next}
use Rattle.rg_tree.specs.Rows.Tables.{Tables, name_at}
use Rattle.rg_tree.specs.Rows.RowsExist.{IsNameIn}
use Rattle.rg_tree.specs.Adds.{Means}
use Rattle.rg_reader.specs.declared.reader.halt.Halt.{Halt}
use Rattle.rg_reader.specs.declared.reader.halt.Halt.TheVariants as halt
use Rattle.rg_reader.specs.declared.reader.limits.Role.{Role}
use Rattle.rg_reader.specs.declared.reader.limits.Role.TheVariants as role
use Rattle.rg_reader.specs.Roles.{symbol_of}
use Rattle.rg_reader.specs.Steps.{State, Halts, IsFirst, IsFree, settled, Took, took, took_brace, took_paren, took_bracket, Signed, signed, Used}
use Rattle.rg_reader.specs.Steps.{used, Declared, declared, Extends}

-- another token than the expected one
pub halts-another : {y : Symbol} {x : Kind} {a : State} → expected y ≡ Some (Some x) → next a.rest ≢ Some x → Halts (y ∷ []) a (halt.At Syntax) a
halts-another e h = record { stops = λ ss. another e h }

-- the expected token, past a limit
pub halts-past : {y : Symbol} {x : Kind} {a : State} {t : Token} {ts : List Token} {f : Code} → IsFirst x a t ts → expected y ≡ Some (Some x)
    → counted y a.counts ≡ Err f → Halts (y ∷ []) a (halt.At f) a
halts-past {y} {x} {a} {t} {ts} {f} i e l = record {
  stops =
      λ ss.
      let P : List Token → Type 0 = λ us. Stops (y ∷ ss) a.counts us f us in
      subst P (sym i.is) (past (e ∙ ap (λ z. Some (Some z)) (sym i.kind)) l);
}

-- the symbol of a declared name expects a name
pub expected-symbol_of : (r : Role) → expected (symbol_of r) ≡ Some (Some k.Name)
expected-symbol_of role.Class = refl
expected-symbol_of _ = refl

-- a state whose tokens are these
abbrev at : State → List Token → Counts → Tables → State
at a ts c u = record { source = a.source; rest = ts; counts = c; tables = u }

took-free : (x : Kind) {source : List ℕ} {t : Token} {ts : List Token} (c d : Counts) {u : Tables} → IsFree x → t.kind ≡ x → settled x c ≡ d
    → Took x (record { source = source; rest = t ∷ ts; counts = c; tables = u }) (record { source = source; rest = ts; counts = d; tables = u })
took-free x {source} {t} {ts} c d {u} h e l =
    let P : Counts → Type 0 =
    λ z. Took x (record { source = source; rest = t ∷ ts; counts = c; tables = u }) (record { source = source; rest = ts; counts = z; tables = u }) in
    subst P l (took h e)

took-behind : (x : Kind) {source : List ℕ} {t : Token} {ts : List Token} (c d : Counts) {u : Tables} → t.kind ≡ x → behind x c ≡ Ok d
    → Took x (record { source = source; rest = t ∷ ts; counts = c; tables = u }) (record { source = source; rest = ts; counts = d; tables = u })
took-behind (k.Mark s.OpenBrace) c d e l = took_brace e l
took-behind (k.Mark s.OpenParen) c d e l = took_paren e l
took-behind (k.Mark s.OpenBracket) c d e l = took_bracket e l
took-behind (k.Mark s.CloseBrace) c d e l = took-free (k.Mark s.CloseBrace) c d tt e cc
took-behind (k.Mark s.CloseParen) c d e l = took-free (k.Mark s.CloseParen) c d tt e cc
took-behind (k.Mark s.CloseBracket) c d e l = took-free (k.Mark s.CloseBracket) c d tt e cc
took-behind (k.Word w.Def) c d e l = took-free (k.Word w.Def) c d tt e cc
took-behind (k.Word w.Main) c d e l = took-free (k.Word w.Main) c d tt e cc
took-behind x c d e l = took-free x c d tt e cc

pub took-first : {x : Kind} {a : State} {t : Token} {ts : List Token} {d : Counts} → IsFirst x a t ts → behind x a.counts ≡ Ok d
    → Took x a (at a ts d a.tables)
took-first {x} {a} {t} {ts} {d} i l = subst (λ us. Took x (at a us a.counts a.tables) (at a ts d a.tables)) (sym i.is)
    (took-behind x a.counts d i.kind l)

pub signed-first : {x : Kind} {a : State} {t : Token} {ts : List Token} {d : Counts} → IsFirst x a t ts → one_sign a.counts ≡ Ok d
    → Signed x a (at a ts d a.tables)
signed-first {x} {a} {t} {ts} {d} i l = subst (λ us. Signed x (at a us a.counts a.tables) (at a ts d a.tables)) (sym i.is) (signed i.kind l)

pub used-first : {a : State} {t : Token} {ts : List Token} {u : Tables} {n : ℕ} → IsFirst k.Name a t ts
    → Means name_at IsNameIn u n (text a.source t) → Extends a.tables u → Used a n (at a ts a.counts u)
used-first {a} {t} {ts} {u} {n} i m g = subst (λ us. Used (at a us a.counts a.tables) n (at a ts a.counts u)) (sym i.is) (used i.kind m g)

pub declared-first : {y : Symbol} {a : State} {t : Token} {ts : List Token} {d : Counts} {u : Tables} {n : ℕ} → IsFirst k.Name a t ts
    → counted y a.counts ≡ Ok d → Means name_at IsNameIn u n (text a.source t) → Extends a.tables u → Declared y a n (at a ts d u)
declared-first {y} {a} {t} {ts} {d} {u} {n} i l m g =
    subst (λ us. Declared y (at a us a.counts a.tables) n (at a ts d u)) (sym i.is) (declared i.kind l m g)

-- what the exit of a ? hands on
pub exit : {T : Type 0} {ys : List Symbol} {a b : State} {x : Halt} (r : Result T Halt) → IsErrAnd r (λ y. y ≡ x) → Halts ys a x b
    → IfErr r (λ e. Halts ys a e b)
exit {ys = ys} {a = a} {b = b} r h w = let p = err_from_is_err_and r h in rw (p.1, p.2) w

-- the first token is the next one
pub first-next : {x : Kind} {a : State} {t : Token} {ts : List Token} → IsFirst x a t ts → next a.rest ≡ Some x
first-next i = ap next i.is ∙ ap Some i.kind

-- what a test of the next token says
pub started : {S : Type 0} (f : Option Kind → S) {r o : Option Kind} {v : S} → r ≡ o → v ≡ f r → f o ≡ v
started f e h = ap f (sym e) ∙ sym h

-- the end is expected, and tokens are left
pub halts-finish : (a : State) → 1 ≤ length a.rest → Halts (finish ∷ []) a (halt.At Syntax) a
halts-finish a l = record { stops = λ ss. another {y = finish} refl (λ e. some a.rest l e) }
  where
    some : (ts : List Token) → 1 ≤ length ts → next ts ≡ None → ⊥
    some [] l e = absurd (omega arith)
    some (t ∷ ts) l e = let no : ⊥ = cc in no
