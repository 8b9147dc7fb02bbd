-- The names of a source that is cut have no brackets in them, and its numbers are no greater than they may be.
use Rattle.std.proofs.Common.{◌≡◌, ℕ, pos, zero, suc, ◌+◌, ◌-◌, ◌≤◌, nat_lt, Bool as Truth, true, false, ◌&&◌, if◌then◌else◌, List, [], ◌∷◌, length}
use Rattle.std.proofs.Common.{take, drop, Option, Some, None, option_map, Result, Ok, Err, unsigned_abs, refl, subst, arith}
use Rattle.std.specs.List.{list_any, list_all}
use Rattle.std.proofs.lemmas.Bool.Decides.{nat_tests}
use Rattle.rg_base.specs.declared.words.Sign.{Sign}
use Rattle.rg_base.specs.declared.words.Keyword.{Keyword}
use Rattle.rg_base.specs.declared.token.Kind.{Kind}
use Rattle.rg_base.specs.declared.token.Kind.TheVariants as k
use Rattle.rg_base.specs.declared.token.Token.{Token}
use Rattle.rg_base.specs.declared.fault.Code.{Code}
use Rattle.rg_base.specs.declared.fault.Fault.{Fault}
use Rattle.rg_base.specs.declared.limits.TheConstants.{NAME_BYTES, GREATEST_NUMBER}
use Rattle.rg_base.specs.Words.{keyword_of, sign_of}
use Rattle.rg_base.specs.Pieces.{Piece, blank, comment, name, number, sign, is_blank, is_letter, is_digit, is_in_name, is_empty, is_comment}
use Rattle.rg_base.specs.Pieces.{only_if, piece_of, front}
use Rattle.rg_base.specs.Tokens.{value_of, begins_name, word_or_name, name_within, number_within, reading, read_front, placed, with_token, line_after}
use Rattle.rg_base.specs.Tokens.{cut_from, cut}
use Rattle.rg_tree.specs.Tree.{Name}
use Rattle.rg_tree.specs.Grammar.{text}
use Rattle.rg_limits.specs.Bare.{is_bracket, IsBare}

-- a name or a number with this text
abbrev pub FineKind : Kind → Name → Type 0
FineKind k.Name n = IsBare n
FineKind (k.Number z) n = unsigned_abs z ≤ GREATEST_NUMBER
FineKind _ n = Unit {0}

-- each token is one
abbrev pub AreFine : List ℕ → List Token → Type 0
AreFine source [] = Unit {0}
AreFine source (t ∷ ts) = FineKind t.kind (text source t) × AreFine source ts

-- A piece that is a name

letters : (blanks letter digit slashes empty inner digits : Truth) (o : Option Sign)
    → (if blanks then only_if empty blank else
    if letter then only_if inner name else
    if digit then only_if digits number else
    if slashes then Some comment else option_map sign o) ≡ Some name
    → (letter ≡ true) × (inner ≡ true)
letters true l d c true i ds o h = cc
letters true l d c false i ds o h = cc
letters false true d c e true ds o h = (refl, refl)
letters false true d c e false ds o h = cc
letters false false true c e i true o h = cc
letters false false true c e i false o h = cc
letters false false false true e i ds o h = cc
letters false false false false e i ds None h = cc
letters false false false false e i ds (Some s) h = cc

letter-bare : (b : ℕ) → is_letter b ≡ true → is_bracket b ≡ false
letter-bare b h = grind (arith, nat_tests)

inner-bare : (b : ℕ) → is_in_name b ≡ true → is_bracket b ≡ false
inner-bare b h = grind (arith, nat_tests)

and-parts : (x y : Truth) → (x && y) ≡ true → (x ≡ true) × (y ≡ true)
and-parts true y h = (refl, h)
and-parts false y h = cc

all-bare : (bs : List ℕ) → list_all is_in_name bs ≡ true → list_any is_bracket bs ≡ false
all-bare [] h = refl
all-bare (b ∷ bs) h =
    let p = and-parts (is_in_name b) (list_all is_in_name bs) h in
    let e = inner-bare b p.0 in
    rw e (all-bare bs p.1)

name-bare : (x : Name) → piece_of x ≡ Some name → IsBare x
name-bare [] h = cc
name-bare (b ∷ bs) h =
    let p = letters (is_blank b) (is_letter b) (is_digit b) (is_comment (b ∷ bs)) (is_empty bs) (list_all is_in_name bs) (list_all is_digit bs)
    (sign_of (b ∷ bs)) h in
    let e = letter-bare b p.0 in
    rw e (all-bare bs p.1)

-- What is read of a name, of a number, and of any piece

name-fine : (short : Truth) (o : Option Keyword) (n : Name) (kind : Kind) → piece_of n ≡ Some name
    → name_within short (word_or_name o) ≡ Ok (Some kind) → FineKind kind n
name-fine false o n kind p h = cc
name-fine true None n kind p h = let i : k.Name ≡ kind = cc in subst (λ x. FineKind x n) i (name-bare n p)
name-fine true (Some w) n kind p h = let i : k.Word w ≡ kind = cc in subst (λ x. FineKind x n) i tt

at-most : (v most : ℕ) → nat_lt v (most + 1) ≡ true → v ≤ most
at-most v most h = grind (arith, nat_tests)

number-fine : (small letter : Truth) (v : ℕ) (n : Name) (kind : Kind) → nat_lt v (GREATEST_NUMBER + 1) ≡ small
    → number_within small letter (k.Number (pos v)) ≡ Ok (Some kind) → FineKind kind n
number-fine false letter v n kind s h = cc
number-fine true true v n kind s h = cc
number-fine true false v n kind s h = let i : k.Number (pos v) ≡ kind = cc in subst (λ x. FineKind x n) i (at-most v GREATEST_NUMBER s)

reading-fine : (p : Option Piece) (x after : List ℕ) (kind : Kind) → piece_of x ≡ p → reading p x after ≡ Ok (Some kind) → FineKind kind x
reading-fine None x after kind e h = cc
reading-fine (Some blank) x after kind e h = cc
reading-fine (Some comment) x after kind e h = cc
reading-fine (Some name) x after kind e h = name-fine (nat_lt (length x) (NAME_BYTES + 1)) (keyword_of x) x kind e h
reading-fine (Some number) x after kind e h = number-fine (nat_lt (value_of x) (GREATEST_NUMBER + 1)) (begins_name after) (value_of x) x kind refl h
reading-fine (Some (sign s)) x after kind e h = let i : k.Mark s ≡ kind = cc in subst (λ z. FineKind z x) i tt

-- a token in front of others
token-fine : (source : List ℕ) (t : Token) (r : Result (List Token) Fault) (ts : List Token) → FineKind t.kind (text source t)
    → ((us : List Token) → r ≡ Ok us → AreFine source us) → with_token t r ≡ Ok ts → AreFine source ts
token-fine source t (Err e) ts f g h = cc
token-fine source t (Ok us) ts f g h = let i : t ∷ us ≡ ts = cc in subst (λ x. AreFine source x) i (f, g us refl)

-- a token at a place and a line
abbrev token_at : Kind → ℕ → ℕ → ℕ → Token
token_at kind from n line = record { kind = kind; from = from; to = from + n; line = line }

-- what is read of one piece, in front of what comes behind it
placed-fine : (source : List ℕ) (from n line : ℕ) (o : Result (Option Kind) Code) (r : Result (List Token) Fault) (ts : List Token)
    → ((kind : Kind) → o ≡ Ok (Some kind) → FineKind kind (text source (token_at kind from n line)))
    → ((us : List Token) → r ≡ Ok us → AreFine source us) → placed from n line o r ≡ Ok ts → AreFine source ts
placed-fine source from n line (Err c) r ts f g h = cc
placed-fine source from n line (Ok None) r ts f g h = g ts h
placed-fine source from n line (Ok (Some kind)) r ts f g h = token-fine source (token_at kind from n line) r ts (f kind refl) g h

-- one byte further
drop-behind : {A : Type 0} (xs : List A) (n : ℕ) (y : A) (ys : List A) → drop n xs ≡ y ∷ ys → drop (suc n) xs ≡ ys
drop-behind [] zero y ys h = cc
drop-behind [] (suc n) y ys h = cc
drop-behind (x ∷ xs) zero y ys h = cc
drop-behind (x ∷ xs) (suc n) y ys h = drop-behind xs n y ys h

-- from a place on
cut_from-fine : (source : List ℕ) (left from line : ℕ) (bs : List ℕ) (ts : List Token) → drop from source ≡ bs → cut_from left from line bs ≡ Ok ts
    → AreFine source ts
unfolding cut_from
cut_from-fine source left from line [] ts d h = let i : [] ≡ ts = cc in subst (λ x. AreFine source x) i tt
cut_from-fine source (suc left) from line (b ∷ bs) ts d h =
    cut_from-fine source left (suc from) (line_after line b) bs ts (drop-behind source from b bs d) h
cut_from-fine source zero from line (b ∷ bs) ts d h =
    let n = front (b ∷ bs) in
    placed-fine source from n line (read_front n (b ∷ bs)) (cut_from (n - 1) (suc from) (line_after line b) bs) ts
    (λ kind e. let w : from + n - from ≡ n = omega arith in
    rw (w, d) (reading-fine (piece_of (take n (b ∷ bs))) (take n (b ∷ bs)) (drop n (b ∷ bs)) kind refl e))
    (λ us e. cut_from-fine source (n - 1) (suc from) (line_after line b) bs us (drop-behind source from b bs d) e) h

-- what is cut has names without brackets, and numbers within their limit
pub cut-fine : (source : List ℕ) (ts : List Token) → cut source ≡ Ok ts → AreFine source ts
cut-fine source ts h = cut_from-fine source 0 0 1 source ts refl h
