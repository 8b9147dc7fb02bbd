-- The names and numbers of a source that is cut are within their limits.
use Rattle.std.proofs.Common.{◌≡◌, ℕ, pos, zero, suc, ◌+◌, ◌-◌, nat_lt, Bool, true, false, List, [], ◌∷◌, length, take, drop, Option, Some, None}
use Rattle.std.proofs.Common.{Result, Ok, Err, refl, subst, arith}
use Rattle.rg_base.specs.declared.words.Keyword.{Keyword}
use Rattle.rg_base.specs.declared.token.Kind.{Kind}
use Rattle.rg_base.specs.declared.token.Kind.TheVariants as k
use Rattle.rg_base.specs.declared.token.Token.{Token}
use Rattle.rg_base.specs.declared.fault.Code.{Code}
use Rattle.rg_base.specs.declared.fault.Fault.{Fault}
use Rattle.rg_base.specs.declared.limits.TheConstants.{NAME_BYTES, GREATEST_NUMBER}
use Rattle.rg_base.specs.Words.{keyword_of}
use Rattle.rg_base.specs.Pieces.{Piece, blank, comment, name, number, sign, piece_of, front}
use Rattle.rg_base.specs.Tokens.{value_of, begins_name, word_or_name, name_within, number_within, reading, read_front, placed, with_token, line_after}
use Rattle.rg_base.specs.Tokens.{cut_from, cut}
use Rattle.rg_tree.specs.Tree.{Name}
use Rattle.rg_tree.specs.Grammar.{text}
use Rattle.rg_print.proofs.Canon.LexemeCuts.{token_at, IsName, IsNumber}

-- a name or a number with this text
abbrev pub FineKind : Kind → Name → Type 0
FineKind k.Name n = IsName n
FineKind (k.Number z) n = IsNumber z
FineKind _ n = Unit {0}

-- each token is one
abbrev pub AreFine : List ℕ → List Token → Type 0
AreFine source [] = Unit {0}
AreFine source (t ∷ ts) = FineKind t.kind (text source t) × AreFine source ts

-- what is read of a name, of a number, and of any piece
name-fine : (short : Bool) (o : Option Keyword) (n : Name) (kind : Kind) → piece_of n ≡ Some name → nat_lt (length n) (NAME_BYTES + 1) ≡ short
    → keyword_of n ≡ o → name_within short (word_or_name o) ≡ Ok (Some kind) → FineKind kind n
name-fine false o n kind p s e h = cc
name-fine true None n kind p s e h =
    let i : k.Name ≡ kind = cc in subst (λ x. FineKind x n) i (record { piece = p; short = s; plain = e })
name-fine true (Some w) n kind p s e h = let i : k.Word w ≡ kind = cc in subst (λ x. FineKind x n) i tt

number-fine : (small letter : Bool) (v : ℕ) (n : Name) (kind : Kind) → nat_lt v (GREATEST_NUMBER + 1) ≡ small
    → number_within small letter (k.Number (pos v)) ≡ Ok (Some kind) → FineKind kind n
number-fine false letter v n kind s h = cc
number-fine true true v n kind s h = cc
number-fine true false v n kind s h = let i : k.Number (pos v) ≡ kind = cc in subst (λ x. FineKind x n) i s

reading-fine : (p : Option Piece) (x after : List ℕ) (kind : Kind) → piece_of x ≡ p → reading p x after ≡ Ok (Some kind) → FineKind kind x
reading-fine None x after kind e h = cc
reading-fine (Some blank) x after kind e h = cc
reading-fine (Some comment) x after kind e h = cc
reading-fine (Some name) x after kind e h = name-fine (nat_lt (length x) (NAME_BYTES + 1)) (keyword_of x) x kind e refl refl h
reading-fine (Some number) x after kind e h = number-fine (nat_lt (value_of x) (GREATEST_NUMBER + 1)) (begins_name after) (value_of x) x kind refl h
reading-fine (Some (sign s)) x after kind e h = let i : k.Mark s ≡ kind = cc in subst (λ z. FineKind z x) i tt

-- a token in front of others
token-fine : (source : List ℕ) (t : Token) (r : Result (List Token) Fault) (ts : List Token) → FineKind t.kind (text source t)
    → ((us : List Token) → r ≡ Ok us → AreFine source us) → with_token t r ≡ Ok ts → AreFine source ts
token-fine source t (Err e) ts f g h = cc
token-fine source t (Ok us) ts f g h = let i : t ∷ us ≡ ts = cc in subst (λ x. AreFine source x) i (f, g us refl)

-- what is read of one piece, in front of what comes behind it
placed-fine : (source : List ℕ) (from n line : ℕ) (o : Result (Option Kind) Code) (r : Result (List Token) Fault) (ts : List Token)
    → ((kind : Kind) → o ≡ Ok (Some kind) → FineKind kind (text source (token_at kind from n line)))
    → ((us : List Token) → r ≡ Ok us → AreFine source us) → placed from n line o r ≡ Ok ts → AreFine source ts
placed-fine source from n line (Err c) r ts f g h = cc
placed-fine source from n line (Ok None) r ts f g h = g ts h
placed-fine source from n line (Ok (Some kind)) r ts f g h = token-fine source (token_at kind from n line) r ts (f kind refl) g h

-- one byte further
drop-behind : {A : Type 0} (xs : List A) (n : ℕ) (y : A) (ys : List A) → drop n xs ≡ y ∷ ys → drop (suc n) xs ≡ ys
drop-behind [] zero y ys h = cc
drop-behind [] (suc n) y ys h = cc
drop-behind (x ∷ xs) zero y ys h = cc
drop-behind (x ∷ xs) (suc n) y ys h = drop-behind xs n y ys h

-- from a place on
cut_from-fine : (source : List ℕ) (left from line : ℕ) (bs : List ℕ) (ts : List Token) → drop from source ≡ bs → cut_from left from line bs ≡ Ok ts
    → AreFine source ts
unfolding cut_from
cut_from-fine source left from line [] ts d h = let i : [] ≡ ts = cc in subst (λ x. AreFine source x) i tt
cut_from-fine source (suc left) from line (b ∷ bs) ts d h =
    cut_from-fine source left (suc from) (line_after line b) bs ts (drop-behind source from b bs d) h
cut_from-fine source zero from line (b ∷ bs) ts d h =
    let n = front (b ∷ bs) in
    placed-fine source from n line (read_front n (b ∷ bs)) (cut_from (n - 1) (suc from) (line_after line b) bs) ts
    (λ kind e. let w : from + n - from ≡ n = omega arith in
    rw (w, d) (reading-fine (piece_of (take n (b ∷ bs))) (take n (b ∷ bs)) (drop n (b ∷ bs)) kind refl e))
    (λ us e. cut_from-fine source (n - 1) (suc from) (line_after line b) bs us (drop-behind source from b bs d) e) h

-- what is cut has names and numbers within their limits
pub cut-fine : (source : List ℕ) (ts : List Token) → cut source ≡ Ok ts → AreFine source ts
cut-fine source ts h = cut_from-fine source 0 0 1 source ts refl h
