-- The tokens of a source stand in order, within it, on its lines; for callers.
use Rattle.std.proofs.Common.{◌≡◌, ℕ, zero, suc, ◌+◌, ◌-◌, ◌<◌, ◌≤◌, ◌==◌, Bool, true, false, cond, List, [], ◌∷◌, length, slice_get, Option, Some}
use Rattle.std.proofs.Common.{None, Result, Ok, Err, refl, arith}
use Rattle.rg_base.specs.declared.token.Kind.{Kind}
use Rattle.rg_base.specs.declared.token.Token.{Token}
use Rattle.rg_base.specs.declared.fault.Code.{Code}
use Rattle.rg_base.specs.declared.fault.Code.TheVariants as code
use Rattle.rg_base.specs.declared.fault.Fault.{Fault}
use Rattle.rg_base.specs.Pieces.{front}
use Rattle.rg_base.specs.Tokens.{read_front, placed, line_after, cut_from, cut, line_behind, end_line}
use Rattle.rg_base.proofs.Fronts.{front-le}
use Rattle.rg_lex.specs.Places.{AreSpans, AreLines}

-- from an earlier place on
AreSpans-from : (ts : List Token) (early from to : ℕ) → early ≤ from → AreSpans from to ts → AreSpans early to ts
AreSpans-from [] early from to l s = omega arith
AreSpans-from (t ∷ ts) early from to l s = (omega (arith, s.0), s.1, s.2)

-- from an earlier line on
AreLines-from : (ts : List Token) (early first last : ℕ) → early ≤ first → AreLines first last ts → AreLines early last ts
AreLines-from [] early first last l s = omega arith
AreLines-from (t ∷ ts) early first last l s = (omega (arith, s.0), s.1)

-- what a piece of that length leaves in front of the rest
placed-spans : (from n line to : ℕ) (r : Result (Option Kind) Code) (rest : Result (List Token) Fault) (ts : List Token)
    → (n ≡ 0 → r ≡ Err code.Byte) → ((us : List Token) → rest ≡ Ok us → AreSpans (from + n) to us) → placed from n line r rest ≡ Ok ts
    → AreSpans from to ts
placed-spans from n line to (Err c) rest ts some h e = cc
placed-spans from n line to (Ok None) rest ts some h e = AreSpans-from ts from (from + n) to (omega arith) (h ts e)
placed-spans from n line to (Ok (Some kind)) (Err f) ts some h e = cc
placed-spans from n line to (Ok (Some kind)) (Ok us) ts some h e =
    let all : record { kind = kind; from = from; to = from + n; line = line } ∷ us ≡ ts = cc in
    rw (← all) (omega arith, longer n some, h us refl)
  where
    longer : (n : ℕ) → (n ≡ 0 → Ok (Some kind) ≡ Err code.Byte) → from < from + n
    longer zero some = let no = some refl in cc
    longer (suc n) some = omega arith

cut_from-spans : (left from line to : ℕ) (bytes : List ℕ) (ts : List Token) → left ≤ length bytes → from + length bytes ≡ to
    → cut_from left from line bytes ≡ Ok ts → AreSpans (from + left) to ts
unfolding cut_from
cut_from-spans zero from line to [] ts l z e = let none : [] ≡ ts = cc in rw (← none) (omega arith)
cut_from-spans (suc left) from line to [] ts l z e = absurd (omega arith)
cut_from-spans (suc left) from line to (b ∷ bs) ts l z e =
    AreSpans-from ts (from + suc left) (suc from + left) to (omega arith)
    (cut_from-spans left (suc from) (line_after line b) to bs ts (omega arith) (omega arith) e)
cut_from-spans zero from line to (b ∷ bs) ts l z e =
    let n = front (b ∷ bs) in
    let most : n ≤ suc (length bs) = front-le (b ∷ bs) in
    AreSpans-from ts (from + 0) from to (omega arith)
    (placed-spans from n line to (read_front n (b ∷ bs)) (cut_from (n - 1) (suc from) (line_after line b) bs) ts (λ none. rw none refl)
    (λ us h. AreSpans-from us (from + n) (suc from + (n - 1)) to (omega arith)
    (cut_from-spans (n - 1) (suc from) (line_after line b) to bs us (omega arith) (omega arith) h)) e)

-- the tokens of a source stand in order, within it
pub cut-spans : (bytes : List ℕ) (ts : List Token) → cut bytes ≡ Ok ts → AreSpans 0 (length bytes) ts
cut-spans bytes ts e = cut_from-spans 0 0 1 (length bytes) bytes ts (omega arith) (omega arith) e

-- a byte leads to no earlier line, and to the next one at most
pub line_after-near : (line b : ℕ) → (line ≤ line_after line b) × (line_after line b ≤ line + 1)
line_after-near line b = go (b == 10)
  where
    go : (v : Bool) → (line ≤ cond v (line + 1) line) × (cond v (line + 1) line ≤ line + 1)
    go true = (omega arith, omega arith)
    go false = (omega arith, omega arith)

placed-lines : (from n line last : ℕ) (r : Result (Option Kind) Code) (rest : Result (List Token) Fault) (ts : List Token)
    → ((us : List Token) → rest ≡ Ok us → AreLines line last us) → placed from n line r rest ≡ Ok ts → AreLines line last ts
placed-lines from n line last (Err c) rest ts h e = cc
placed-lines from n line last (Ok None) rest ts h e = h ts e
placed-lines from n line last (Ok (Some kind)) (Err f) ts h e = cc
placed-lines from n line last (Ok (Some kind)) (Ok us) ts h e =
    let all : record { kind = kind; from = from; to = from + n; line = line } ∷ us ≡ ts = cc in
    rw (← all) (omega arith, h us refl)

cut_from-lines : (left from line : ℕ) (bytes : List ℕ) (ts : List Token) → cut_from left from line bytes ≡ Ok ts
    → AreLines line (line_behind line bytes) ts
unfolding cut_from
cut_from-lines zero from line [] ts e = let none : [] ≡ ts = cc in rw (← none) (omega arith)
cut_from-lines (suc left) from line [] ts e = let none : [] ≡ ts = cc in rw (← none) (omega arith)
cut_from-lines (suc left) from line (b ∷ bs) ts e =
    let next = line_after line b in
    AreLines-from ts line next (line_behind next bs) (line_after-near line b).0 (cut_from-lines left (suc from) next bs ts e)
cut_from-lines zero from line (b ∷ bs) ts e =
    let n = front (b ∷ bs) in
    let next = line_after line b in
    placed-lines from n line (line_behind next bs) (read_front n (b ∷ bs)) (cut_from (n - 1) (suc from) next bs) ts
    (λ us h. AreLines-from us line next (line_behind next bs) (line_after-near line b).0 (cut_from-lines (n - 1) (suc from) next bs us h)) e

-- the tokens of a source stand on its lines, in order
pub cut-lines : (bytes : List ℕ) (ts : List Token) → cut bytes ≡ Ok ts → AreLines 1 (end_line bytes) ts
cut-lines bytes ts e = cut_from-lines 0 0 1 bytes ts e

line_behind-le : (line : ℕ) (bytes : List ℕ) → line_behind line bytes ≤ line + length bytes
line_behind-le line [] = omega arith
line_behind-le line (b ∷ bs) = let near = line_after-near line b in omega (arith, near.1, line_behind-le (line_after line b) bs)

-- a source has one line more than bytes at most
pub end_line-le : (bytes : List ℕ) → end_line bytes ≤ 1 + length bytes
end_line-le bytes = line_behind-le 1 bytes

AreSpans-ends : (ts : List Token) (from to : ℕ) → AreSpans from to ts → from ≤ to
AreSpans-ends [] from to s = s
AreSpans-ends (t ∷ ts) from to s = omega (arith, s.0, s.1, AreSpans-ends ts t.to to s.2)

AreLines-ends : (ts : List Token) (first last : ℕ) → AreLines first last ts → first ≤ last
AreLines-ends [] first last s = s
AreLines-ends (t ∷ ts) first last s = omega (arith, s.0, AreLines-ends ts t.line last s.1)

-- the token at an index has a byte, and stands between the places
pub AreSpans-get : (ts : List Token) (i from to : ℕ) (t : Token) → AreSpans from to ts → slice_get ts i ≡ Some t
    → (from ≤ t.from) × (t.from < t.to) × (t.to ≤ to)
AreSpans-get [] i from to t s e = cc
AreSpans-get (u ∷ ts) zero from to t s e =
    let same : u ≡ t = cc in
    rw (← same) (s.0, s.1, AreSpans-ends ts u.to to s.2)
AreSpans-get (u ∷ ts) (suc i) from to t s e =
    let r = AreSpans-get ts i u.to to t s.2 e in
    (omega (arith, s.0, s.1, r.0), r.1, r.2)

-- the token at an index stands between the lines
pub AreLines-get : (ts : List Token) (i first last : ℕ) (t : Token) → AreLines first last ts → slice_get ts i ≡ Some t
    → (first ≤ t.line) × (t.line ≤ last)
AreLines-get [] i first last t s e = cc
AreLines-get (u ∷ ts) zero first last t s e =
    let same : u ≡ t = cc in
    rw (← same) (s.0, AreLines-ends ts u.line last s.1)
AreLines-get (u ∷ ts) (suc i) first last t s e =
    let r = AreLines-get ts i u.line last t s.1 e in
    (omega (arith, s.0, r.0), r.1)
