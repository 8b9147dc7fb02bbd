-- A reading that stops behind what is read stops a reading of the whole.
use Rattle.std.proofs.Common.{◌≡◌, ℕ, List, [], ◌∷◌, ◌++◌, Some, None, refl, ap, ◌∙◌, Ok}
use Rattle.rg_base.specs.declared.token.Kind.{Kind}
use Rattle.rg_base.specs.declared.token.Kind.TheVariants as k
use Rattle.rg_base.specs.declared.words.Keyword.TheVariants as w
use Rattle.rg_base.specs.declared.words.Sign.TheVariants as s
use Rattle.rg_base.specs.declared.token.Token.{Token}
use Rattle.rg_base.specs.declared.fault.Code.TheVariants.{Syntax}
use Rattle.rg_tree.specs.declared.counts.Counts.{Counts}
use Rattle.rg_tree.specs.Counts.{entered, behind}
use Rattle.rg_tree.specs.Forms.{Form, Given}
use Rattle.rg_tree.specs.Grammar.{Reads}
use Rattle.rg_tree.specs.Phrases.{Phrase, Symbol, that, sign, name, the}
use Rattle.rg_tree.specs.Stuck.{no_row, by_row, fits}
use Rattle.rg_tree.specs.Table.{next, row}
use Rattle.rg_tree.specs.Rows.Tables.{Tables}
use Rattle.rg_tree.proofs.ByRows.{phrase_of}
use Rattle.rg_tree.proofs.Passing.{IsPart, passes}
use Rattle.rg_tree.proofs.Stopping.{kind_is}
use Rattle.rg_reader.specs.declared.reader.halt.Halt.{Halt}
use Rattle.rg_reader.specs.declared.reader.halt.Halt.TheVariants as halt
use Rattle.rg_reader.specs.declared.reader.limits.Role.{Role}
use Rattle.rg_reader.specs.Roles.{symbol_of}
use Rattle.rg_reader.specs.Steps.{State, Halts, Took, took, took_brace, took_paren, took_bracket, Signed, signed, Used, used, Declared}
use Rattle.rg_reader.specs.Steps.{declared, Found, found, Kept, kept, settled, IsFree}
use Rattle.rg_reader.proofs.Tokens.{expected-symbol_of}

-- want of memory says nothing
pub halts-memory : (ys : List Symbol) (a b : State) (e : Halt) → e ≡ halt.Memory → Halts ys a e b
halts-memory ys a b e h = rw h (record { stops = tt })

-- no row holds
pub halts-none : {x : Phrase} (a : State) → row x (next a.rest) ≡ None → Halts (the x ∷ []) a (halt.At Syntax) a
halts-none a e = record { stops = λ ss. no_row e }

-- by the row that holds
pub halts-row : {x : Phrase} {ys : List Symbol} {b : State} (a : State) (e : Halt) → row x (next a.rest) ≡ Some ys
    → Halts ys (record a { counts = entered x a.counts }) e b → Halts (the x ∷ []) a e b
halts-row a halt.Memory h w = record { stops = tt }
halts-row a (halt.At f) h w = record { stops = λ ss. by_row h (w.stops ss) }

-- at the first symbol of several
pub halts-here : {y : Symbol} {ys : List Symbol} {a b : State} (e : Halt) → Halts (y ∷ []) a e b → Halts (y ∷ ys) a e b
halts-here halt.Memory w = record { stops = tt }
halts-here {ys = ys} (halt.At f) w = record { stops = λ ss. w.stops (ys ++ ss) }

-- the counts behind a token that no limit holds up
pub free-behind : (x : Kind) (c : Counts) → IsFree x → behind x c ≡ Ok (settled x c)
free-behind (k.Mark s.OpenBrace) c h = absurd h
free-behind (k.Mark s.OpenParen) c h = absurd h
free-behind (k.Mark s.OpenBracket) c h = absurd h
free-behind (k.Mark s.CloseBrace) c h = refl
free-behind (k.Mark s.CloseParen) c h = refl
free-behind (k.Mark s.CloseBracket) c h = refl
free-behind (k.Word w.Def) c h = refl
free-behind (k.Word w.Main) c h = refl
free-behind _ c h = refl

-- behind a token
pub halts-took : {x : Kind} {ys : List Symbol} {a m b : State} (e : Halt) → Took x a m → Halts ys m e b → Halts (that x ∷ ys) a e b
halts-took halt.Memory h w = record { stops = tt }
halts-took {x} (halt.At f) (took {c = c} i h) w = record { stops = λ ss. fits {y = that x} (kind_is h) (free-behind x c i) (w.stops ss) }
halts-took (halt.At f) (took_brace h l) w = record { stops = λ ss. fits {y = that (k.Mark s.OpenBrace)} (kind_is h) l (w.stops ss) }
halts-took (halt.At f) (took_paren h l) w = record { stops = λ ss. fits {y = that (k.Mark s.OpenParen)} (kind_is h) l (w.stops ss) }
halts-took (halt.At f) (took_bracket h l) w = record { stops = λ ss. fits {y = that (k.Mark s.OpenBracket)} (kind_is h) l (w.stops ss) }

pub halts-signed : {x : Kind} {ys : List Symbol} {a m b : State} (e : Halt) → Signed x a m → Halts ys m e b → Halts (sign x ∷ ys) a e b
halts-signed halt.Memory h w = record { stops = tt }
halts-signed {x} (halt.At f) (signed h l) w = record { stops = λ ss. fits {y = sign x} (kind_is h) l (w.stops ss) }

pub halts-used : {n : ℕ} {ys : List Symbol} {a m b : State} (e : Halt) → Used a n m → Halts ys m e b → Halts (name ∷ ys) a e b
halts-used halt.Memory h w = record { stops = tt }
halts-used (halt.At f) (used h n g) w = record { stops = λ ss. fits {y = name} (kind_is h) refl (w.stops ss) }

pub halts-declared : (r : Role) {n : ℕ} {ys : List Symbol} {a m b : State} (e : Halt) → Declared (symbol_of r) a n m → Halts ys m e b
    → Halts (symbol_of r ∷ ys) a e b
halts-declared r halt.Memory h w = record { stops = tt }
halts-declared r (halt.At f) (declared h l n g) w = record {
  stops = λ ss. fits {y = symbol_of r} (expected-symbol_of r ∙ kind_is h) l (w.stops ss);
}

-- behind what is read
pub halts-found : {V : Type 0} (f : Form) {tree : Tables → V → Given f} {exists : Tables → V → Type 0} {v : V} {ys : List Symbol} {a m b : State}
    (e : Halt) → IsPart f → Found (λ source. Reads source f) tree exists a v m → Halts ys m e b → Halts (the (phrase_of f) ∷ ys) a e b
halts-found f halt.Memory p h w = record { stops = tt }
halts-found f (halt.At g) p (found x r n l) w = record { stops = λ ss. passes r p (w.stops ss) }

pub halts-kept : {ys : List Symbol} {a m b : State} (e : Halt) → Kept a m → Halts ys m e b → Halts ys a e b
halts-kept halt.Memory h w = record { stops = tt }
halts-kept (halt.At f) (kept h) w = record { stops = w.stops }

-- where a reading stops doesn't hang on the tables
pub halts-tables : {ys : List Symbol} {source : List ℕ} {ts : List Token} {c : Counts} {b : State} (u v : Tables) (e : Halt)
    → Halts ys (record { source = source; rest = ts; counts = c; tables = u }) e b
    → Halts ys (record { source = source; rest = ts; counts = c; tables = v }) e b
halts-tables u v halt.Memory h = record { stops = tt }
halts-tables u v (halt.At f) h = record { stops = h.stops }

-- a token that was passed stood next
pub took-next : {x : Kind} {a b : State} → Took x a b → next a.rest ≡ Some x
took-next (took i h) = ap Some h
took-next (took_brace h l) = ap Some h
took-next (took_paren h l) = ap Some h
took-next (took_bracket h l) = ap Some h
