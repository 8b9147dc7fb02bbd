-- Where a reading stops, computed in so many steps.
use Rattle.std.proofs.Common.{◌≡◌, ℕ, zero, suc, Bool, true, false, List, [], ◌∷◌, ◌++◌, Option, Some, None, Result, Ok, Err, refl, sym, ◌∙◌, ap}
use Rattle.std.proofs.Common.{subst}
use Rattle.std.specs.Bool.{Decides}
use Rattle.rg_base.specs.declared.token.Kind.{Kind}
use Rattle.rg_base.specs.declared.token.Token.{Token}
use Rattle.rg_base.specs.declared.fault.Code.{Code}
use Rattle.rg_base.specs.declared.fault.Code.TheVariants.{Syntax}
use Rattle.rg_tree.specs.Phrases.{Phrase, Symbol, that, sign, name, class_name, field_name, method_name, param_name, local_name, finish, the}
use Rattle.rg_tree.specs.Phrases as p
use Rattle.rg_tree.specs.declared.counts.Counts.{Counts}
use Rattle.rg_tree.specs.Counts.{at_start, counted, entered}
use Rattle.rg_tree.specs.Table.{next, row}
use Rattle.rg_tree.specs.Stuck.{expected, Stops, no_row, by_row, another, past, fits, Stuck}
use Rattle.rg_tree.proofs.SameKinds.{same_next, same_next-Decides}

-- an answer: the code and the place, or none where the reading ends or takes more steps
pub data Halt : Type 0 where
  going : Halt
  halted : Code → List Token → Halt

same-code : {f g : Code} {ts us : List Token} → halted f ts ≡ halted g us → f ≡ g
same-code e = cc

same-place : {f g : Code} {ts us : List Token} → halted f ts ≡ halted g us → ts ≡ us
same-place e = cc

-- on by a row
abbrev on_row : Option (List Symbol) → List Symbol → List Token → (List Symbol → Halt) → Halt
on_row None ss ts go = halted Syntax ts
on_row (Some r) ss ts go = go (r ++ ss)

-- on behind a token that is or isn't the expected one
abbrev on_token : Bool → Result Counts Code → List Token → (Counts → List Token → Halt) → Halt
on_token false r ts go = halted Syntax ts
on_token true r [] go = going
on_token true (Err f) (t ∷ ts) go = halted f (t ∷ ts)
on_token true (Ok d) (t ∷ ts) go = go d ts

-- on behind a symbol
abbrev on_symbol : Option (Option Kind) → Result Counts Code → List Token → (Counts → List Token → Halt) → Halt
on_symbol None r ts go = going
on_symbol (Some o) r ts go = on_token (same_next (next ts) o) r ts go

-- where the reading stops within so many steps
abbrev pub halts : ℕ → List Symbol → Counts → List Token → Halt
halts zero ss c ts = going
halts (suc n) [] c ts = going
halts (suc n) (the x ∷ ss) c ts = on_row (row x (next ts)) ss ts (λ rs. halts n rs (entered x c) ts)
halts (suc n) (y ∷ ss) c ts = on_symbol (expected y) (counted y c) ts (λ d us. halts n ss d us)

row-stops : {x : Phrase} {ss : List Symbol} {c : Counts} {ts at : List Token} {f : Code} (r : Option (List Symbol)) (go : List Symbol
    → Halt) → row x (next ts) ≡ r
    → ((q : List Symbol) → go q ≡ halted f at → Stops q (entered x c) ts f at) → on_row r ss ts go ≡ halted f at → Stops (the x ∷ ss) c ts f at
row-stops {x} {ss} {c} {ts} {at} {f} None go h s e =
    let e0 : Syntax ≡ f = same-code e in let e1 : ts ≡ at = same-place e in
    subst (λ g. Stops (the x ∷ ss) c ts g at) e0 (subst (λ us. Stops (the x ∷ ss) c ts Syntax us) e1 (no_row h))
row-stops (Some r) go h s e = by_row h (s _ e)

token-stops : {y : Symbol} {o : Option Kind} {ss : List Symbol} {c : Counts} {at : List Token} {f : Code} (ts : List Token) (b : Bool)
    (r : Result Counts Code) (go : Counts → List Token → Halt)
    → expected y ≡ Some o → Decides b (next ts ≡ o) → counted y c ≡ r
    → ((d : Counts) (us : List Token) → go d us ≡ halted f at → Stops ss d us f at) → on_token b r ts go ≡ halted f at → Stops (y ∷ ss) c ts f at
token-stops {y} {o} {ss} {c} {at} {f} ts false r go h d k s e =
    let e0 : Syntax ≡ f = same-code e in let e1 : ts ≡ at = same-place e in
    subst (λ g. Stops (y ∷ ss) c ts g at) e0 (subst (λ us. Stops (y ∷ ss) c ts Syntax us) e1 (another h (λ i. let j = d.1 i in cc)))
token-stops [] true r go h d k s e = cc
token-stops {y} {o} {ss} {c} {at} {f} (t ∷ ts) true (Err g) go h d k s e =
    let e0 : g ≡ f = same-code e in let e1 : ◌≡◌ {A = List Token} (t ∷ ts) at = same-place e in
    subst (λ x. Stops (y ∷ ss) c (t ∷ ts) x at) e0 (subst (λ us. Stops (y ∷ ss) c (t ∷ ts) g us) e1 (past (h ∙ ap Some (sym (d.0 refl))) k))
token-stops (t ∷ ts) true (Ok n) go h d k s e = fits (h ∙ ap Some (sym (d.0 refl))) k (s n ts e)

symbol-stops : {y : Symbol} {ss : List Symbol} {c : Counts} {ts at : List Token} {f : Code} (o : Option (Option Kind)) (go : Counts
    → List Token → Halt) → expected y ≡ o
    → ((d : Counts) (us : List Token) → go d us ≡ halted f at → Stops ss d us f at) → on_symbol o (counted y c) ts go ≡ halted f at
    → Stops (y ∷ ss) c ts f at
symbol-stops None go h s e = cc
symbol-stops {y} {ss} {c} {ts} {at} {f} (Some o) go h s e = token-stops ts (same_next (next ts) o) (counted y c) go h
    (same_next-Decides (next ts) o) refl s e

-- what is computed holds
pub halts-stops : (n : ℕ) (ss : List Symbol) (c : Counts) (ts at : List Token) (f : Code) → halts n ss c ts ≡ halted f at → Stops ss c ts f at
halts-stops zero ss c ts at f e = cc
halts-stops (suc n) [] c ts at f e = cc
halts-stops (suc n) (the x ∷ ss) c ts at f e = row-stops (row x (next ts)) (λ rs. halts n rs (entered x c) ts) refl (λ q h.
    halts-stops n q (entered x c) ts at f h) e
halts-stops (suc n) (y ∷ ss) c ts at f e = symbol-stops (expected y) (λ d us. halts n ss d us) refl (λ d us h. halts-stops n ss d us at f h) e

-- where all tokens are stuck, in so many steps
abbrev pub stuck_within : ℕ → List Token → Halt
stuck_within n ts = halts n (the p.Program ∷ []) at_start ts

pub stuck_within-Stuck : (n : ℕ) (ts at : List Token) (f : Code) → stuck_within n ts ≡ halted f at → Stuck ts f at
stuck_within-Stuck n ts at f e = halts-stops n (the p.Program ∷ []) at_start ts at f e
