-- The tokens of a source stand on lines that its bytes bound.
use Rattle.std.proofs.Common.{◌≡◌, refl, subst, ℕ, zero, suc, ◌+◌, ◌-◌, ◌≤◌, ◌==◌, Bool as Truth, true, false, if◌then◌else◌, List, [], ◌∷◌, length}
use Rattle.std.proofs.Common.{Option, Some, None, Result, Ok, Err, arith}
use Rattle.rg_base.specs.declared.token.Kind.{Kind}
use Rattle.rg_base.specs.declared.token.Token.{Token}
use Rattle.rg_base.specs.declared.fault.Code.{Code}
use Rattle.rg_base.specs.declared.fault.Fault.{Fault}
use Rattle.rg_base.specs.Pieces.{front}
use Rattle.rg_base.specs.Tokens.{read_front, placed, with_token, line_after, cut_from, cut}

-- each token is on such a line
abbrev pub AreEarly : (most : ℕ) → List Token → Type 0
AreEarly most [] = Unit {0}
AreEarly most (t ∷ ts) = (t.line ≤ most) × AreEarly most ts

line-by : (b : Truth) (line : ℕ) → (if b then line + 1 else line) ≤ line + 1
line-by true line = omega arith
line-by false line = omega arith

line-within : (line b : ℕ) → line_after line b ≤ line + 1
line-within line b = line-by (b == 10) line

token-early : (most : ℕ) (t : Token) (r : Result (List Token) Fault) (ts : List Token) → t.line ≤ most
    → ((us : List Token) → r ≡ Ok us → AreEarly most us) → with_token t r ≡ Ok ts → AreEarly most ts
token-early most t (Err e) ts f g h = cc
token-early most t (Ok us) ts f g h = let i : t ∷ us ≡ ts = cc in subst (λ x. AreEarly most x) i (f, g us refl)

placed-early : (most from n line : ℕ) (o : Result (Option Kind) Code) (r : Result (List Token) Fault) (ts : List Token) → line ≤ most
    → ((us : List Token) → r ≡ Ok us → AreEarly most us) → placed from n line o r ≡ Ok ts → AreEarly most ts
placed-early most from n line (Err c) r ts f g h = cc
placed-early most from n line (Ok None) r ts f g h = g ts h
placed-early most from n line (Ok (Some kind)) r ts f g h =
    token-early most (record { kind = kind; from = from; to = from + n; line = line }) r ts f g h

-- from a line on, in front of so many bytes
cut_from-early : (most left from line : ℕ) (bs : List ℕ) (ts : List Token) → line + length bs ≤ most → cut_from left from line bs ≡ Ok ts
    → AreEarly most ts
unfolding cut_from
cut_from-early most left from line [] ts l h = let i : [] ≡ ts = cc in subst (λ x. AreEarly most x) i tt
cut_from-early most (suc left) from line (b ∷ bs) ts l h =
    let w = line-within line b in cut_from-early most left (suc from) (line_after line b) bs ts (omega (arith, l, w)) h
cut_from-early most zero from line (b ∷ bs) ts l h =
    let n = front (b ∷ bs) in
    let w = line-within line b in
    placed-early most from n line (read_front n (b ∷ bs)) (cut_from (n - 1) (suc from) (line_after line b) bs) ts (omega (arith, l))
    (λ us e. cut_from-early most (n - 1) (suc from) (line_after line b) bs us (omega (arith, l, w)) e) h

-- what is cut is on such lines
pub cut-early : (source : List ℕ) (ts : List Token) → cut source ≡ Ok ts → AreEarly (suc (length source)) ts
cut-early source ts h = cut_from-early (suc (length source)) 0 0 1 source ts (omega arith) h
