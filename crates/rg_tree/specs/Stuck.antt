-- Where a reading by the table stops, and with which code (docs/language.md, "Grammar" and "Limits").
use Rattle.std.specs.Prelude.{ℕ, ◌≡◌, ◌≢◌, List, [], ◌∷◌, ◌++◌, Option, Some, None, Ok, Err}
use Rattle.rg_base.specs.declared.token.Kind.{Kind}
use Rattle.rg_base.specs.declared.token.Kind.TheVariants as k
use Rattle.rg_base.specs.declared.token.Token.{Token}
use Rattle.rg_base.specs.declared.fault.Code.{Code}
use Rattle.rg_base.specs.declared.fault.Code.TheVariants.{Syntax}
use Rattle.rg_base.specs.declared.fault.Fault.{Fault}
use Rattle.rg_tree.specs.Phrases.{Phrase, Symbol, that, sign, name, class_name, field_name, method_name, param_name, local_name, finish, the}
use Rattle.rg_tree.specs.Phrases as p
use Rattle.rg_tree.specs.declared.counts.Counts.{Counts}
use Rattle.rg_tree.specs.Counts.{at_start, counted, entered}
use Rattle.rg_tree.specs.Table.{next, row}

-- the next token that a symbol expects, which is none at the end; no answer for a phrase
abbrev pub expected : Symbol → Option (Option Kind)
expected (that x) = Some (Some x)
expected (sign x) = Some (Some x)
expected name = Some (Some k.Name)
expected class_name = Some (Some k.Name)
expected field_name = Some (Some k.Name)
expected method_name = Some (Some k.Name)
expected param_name = Some (Some k.Name)
expected local_name = Some (Some k.Name)
expected finish = Some None
expected (the x) = None

-- With these symbols expected and these counts, a reading of the tokens stops with the code in front of the last list: no row
-- holds, another token is expected, or the token passes a limit. Else it goes on by the row, or behind the token.
pub data Stops : List Symbol → Counts → List Token → Code → List Token → Type 0 where
  -- no row holds
  no_row : {x : Phrase} {ss : List Symbol} {c : Counts} {ts : List Token}
      → row x (next ts) ≡ None
      → Stops (the x ∷ ss) c ts Syntax ts
  -- on by a row
  by_row : {x : Phrase} {ss r : List Symbol} {c : Counts} {ts at : List Token} {f : Code}
      → row x (next ts) ≡ Some r → Stops (r ++ ss) (entered x c) ts f at
      → Stops (the x ∷ ss) c ts f at
  -- another token is expected, or the end
  another : {y : Symbol} {o : Option Kind} {ss : List Symbol} {c : Counts} {ts : List Token}
      → expected y ≡ Some o → next ts ≢ o
      → Stops (y ∷ ss) c ts Syntax ts
  -- the token passes a limit
  past : {y : Symbol} {ss : List Symbol} {c : Counts} {t : Token} {ts : List Token} {f : Code}
      → expected y ≡ Some (Some t.kind) → counted y c ≡ Err f
      → Stops (y ∷ ss) c (t ∷ ts) f (t ∷ ts)
  -- on behind the token
  fits : {y : Symbol} {ss : List Symbol} {c d : Counts} {t : Token} {ts at : List Token} {f : Code}
      → expected y ≡ Some (Some t.kind) → counted y c ≡ Ok d → Stops ss d ts f at
      → Stops (y ∷ ss) c (t ∷ ts) f at

-- the tokens are stuck with the code in front of the last list
abbrev pub Stuck : List Token → Code → List Token → Type 0
Stuck ts f at = Stops (the p.Program ∷ []) at_start ts f at

-- the line of the first token, or that of the end
abbrev pub line_at : ℕ → List Token → ℕ
line_at end [] = end
line_at end (t ∷ ts) = t.line

-- the fault of tokens that are stuck there, with the line of the end
abbrev pub fault_at : Code → ℕ → List Token → Fault
fault_at f end at = record { code = f; line = line_at end at }
