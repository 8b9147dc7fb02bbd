-- What one piece adds to the tokens of a source.
use Rattle.std.proofs.Common.{◌≡◌, ℕ, zero, suc, ◌+◌, ◌-◌, ◌<◌, ◌≤◌, ◌==◌, Bool, true, false, ◌&&◌, cond, List, [], ◌∷◌, length, take, drop, Option}
use Rattle.std.proofs.Common.{Some, None, is_some, option_map, Ok, Err, refl, arith}
use Rattle.std.specs.List.{list_all}
use Rattle.std.specs.Prelude.{bytes_eq}
use Rattle.std.proofs.lemmas.Bool.Decides.{nat_tests}
use Rattle.std.proofs.lemmas.Slice.Eq.{bytes_eq-Decides}
use Rattle.rg_base.specs.declared.words.Sign.{Sign}
use Rattle.rg_base.specs.declared.token.Kind.{Kind}
use Rattle.rg_base.specs.declared.fault.Code.{Code}
use Rattle.rg_base.specs.Words.{signs, beside}
use Rattle.rg_base.specs.Pieces.{Piece, sign, is_blank, is_digit, is_letter, is_in_name, is_in_comment, only_if, is_empty, is_comment, piece_of}
use Rattle.rg_base.specs.Pieces.{front}
use Rattle.rg_base.specs.Tokens.{reading, read_front, placed, line_after, cut_from, line_behind}
use Rattle.rg_base.proofs.Fronts.{both, IsOther, piece-blank, piece-letter, piece-digit, piece-other, front-le, front-blank}

-- Behind its first byte a piece has no end of a line.

all-weaker : (p q : ℕ → Bool) → ((x : ℕ) → p x ≡ true → q x ≡ true) → (xs : List ℕ) → list_all p xs ≡ true → list_all q xs ≡ true
all-weaker p q f [] h = refl
all-weaker p q f (x ∷ xs) h =
    let r = both (p x) (list_all p xs) h in
    let a = f x r.0 in
    let b = all-weaker p q f xs r.1 in
    rw (a, b) refl

name-in_comment : (x : ℕ) → is_in_name x ≡ true → is_in_comment x ≡ true
name-in_comment x h = grind (arith, nat_tests)

digit-in_comment : (x : ℕ) → is_digit x ≡ true → is_in_comment x ≡ true
digit-in_comment x h = grind (arith, nat_tests)

some-if : (v : Bool) (p : Piece) → is_some (only_if v p) ≡ true → v ≡ true
some-if true p h = refl
some-if false p h = h

empty-in_comment : (t : List ℕ) → is_empty t ≡ true → list_all is_in_comment t ≡ true
empty-in_comment [] h = refl
empty-in_comment (x ∷ t) h = cc

comment-in_comment : (b : ℕ) (t : List ℕ) → is_comment (b ∷ t) ≡ true → list_all is_in_comment t ≡ true
comment-in_comment b [] h = refl
comment-in_comment b (c ∷ t) h =
    let r = both (b == 47 && c == 47) (list_all is_in_comment t) h in
    let q = both (b == 47) (c == 47) r.0 in
    let w : is_in_comment c ≡ true = grind (arith, nat_tests) in
    rw (w, r.1) refl

beside-in_comment : (xs : List (List ℕ × Sign)) (t : List ℕ) → list_all (λ x. list_all is_in_comment (drop 1 x.0)) xs ≡ true
    → is_some (beside xs t) ≡ true → list_all is_in_comment (drop 1 t) ≡ true
beside-in_comment [] t a h = cc
beside-in_comment (x ∷ xs) t a h =
    let r = both (list_all is_in_comment (drop 1 x.0)) (list_all (λ x. list_all is_in_comment (drop 1 x.0)) xs) a in
    go r.0 (bytes_eq x.0 t) refl h (beside-in_comment xs t r.1)
  where
    go : list_all is_in_comment (drop 1 x.0) ≡ true → (v : Bool) → bytes_eq x.0 t ≡ v → is_some (cond v (Some x.1) (beside xs t)) ≡ true
        → (is_some (beside xs t) ≡ true → list_all is_in_comment (drop 1 t) ≡ true) → list_all is_in_comment (drop 1 t) ≡ true
    go here true e h f = let same = (bytes_eq-Decides x.0 t).0 e in rw (← same) here
    go here false e h f = f h

some-map : (o : Option Sign) → is_some (option_map sign o) ≡ true → is_some o ≡ true
some-map None h = h
some-map (Some s) h = refl

-- all bytes of a piece behind its first may stand in a comment
pub piece-in_comment : (b : ℕ) (t : List ℕ) → is_some (piece_of (b ∷ t)) ≡ true → list_all is_in_comment t ≡ true
piece-in_comment b t h = blanks (is_blank b) refl
  where
    comments : IsOther b → (v : Bool) → is_comment (b ∷ t) ≡ v → list_all is_in_comment t ≡ true
    comments o true i = comment-in_comment b t i
    comments o false i = beside-in_comment signs (b ∷ t) refl (some-map _ (rw (piece-other b t o, i) at h))

    digits : is_blank b ≡ false → is_letter b ≡ false → (v : Bool) → is_digit b ≡ v → list_all is_in_comment t ≡ true
    digits e f true g = all-weaker is_digit is_in_comment digit-in_comment t (some-if _ _ (rw (piece-digit b t g) at h))
    digits e f false g = comments (record { blank = e; letter = f; digit = g }) (is_comment (b ∷ t)) refl

    letters : is_blank b ≡ false → (v : Bool) → is_letter b ≡ v → list_all is_in_comment t ≡ true
    letters e true f = all-weaker is_in_name is_in_comment name-in_comment t (some-if _ _ (rw (piece-letter b t f) at h))
    letters e false f = digits e f (is_digit b) refl

    blanks : (v : Bool) → is_blank b ≡ v → list_all is_in_comment t ≡ true
    blanks true e = empty-in_comment t (some-if _ _ (rw (piece-blank b t e) at h))
    blanks false e = letters e (is_letter b) refl

-- The bytes of a piece behind its first.

line_after-in_comment : (line x : ℕ) → is_in_comment x ≡ true → line_after line x ≡ line
line_after-in_comment line x h = grind (arith, nat_tests)

-- they are passed over
cut_from-passed : (k from line : ℕ) (xs : List ℕ) → k ≤ length xs → list_all is_in_comment (take k xs) ≡ true
    → cut_from k from line xs ≡ cut_from 0 (from + k) line (drop k xs)
unfolding cut_from
cut_from-passed zero from line xs l h = let e : from + 0 ≡ from = omega arith in rw e refl
cut_from-passed (suc k) from line [] l h = absurd (omega arith)
cut_from-passed (suc k) from line (x ∷ xs) l h =
    let r = both (is_in_comment x) (list_all is_in_comment (take k xs)) h in
    let n = line_after-in_comment line x r.0 in
    let e : from + suc k ≡ suc from + k = omega arith in
    rw (n, e) (cut_from-passed k (suc from) line xs (omega arith) r.1)

-- they end no line
line_behind-passed : (k line : ℕ) (xs : List ℕ) → list_all is_in_comment (take k xs) ≡ true → line_behind line xs ≡ line_behind line (drop k xs)
line_behind-passed zero line xs h = refl
line_behind-passed (suc k) line [] h = refl
line_behind-passed (suc k) line (x ∷ xs) h =
    let r = both (is_in_comment x) (list_all is_in_comment (take k xs)) h in
    let n = line_after-in_comment line x r.0 in
    rw n (line_behind-passed k line xs r.1)

-- what is read is a piece
pub reading-piece : (p : Option Piece) (text after : List ℕ) (r : Option Kind) → reading p text after ≡ Ok r → is_some p ≡ true
reading-piece None text after r h = cc
reading-piece (Some p) text after r h = refl

-- what one piece adds
pub record Adds (from line b : ℕ) (t : List ℕ) (r : Option Kind) (n : ℕ) : Type 0 where
  pub some : 0 < n
  pub within : n ≤ suc (length t)
  pub cut_is : cut_from 0 from line (b ∷ t) ≡ placed from n line (Ok r) (cut_from 0 (from + n) (line_after line b) (drop n (b ∷ t)))
  pub lines_are : line_behind line (b ∷ t) ≡ line_behind (line_after line b) (drop n (b ∷ t))

-- the front is read
pub cut_from-reads : (from line b : ℕ) (t : List ℕ) (r : Option Kind) (n : ℕ) → front (b ∷ t) ≡ n → read_front n (b ∷ t) ≡ Ok r
    → Adds from line b t r n
unfolding cut_from
cut_from-reads from line b t r zero f h = cc
cut_from-reads from line b t r (suc n) f h =
    let within : suc n ≤ suc (length t) = omega (arith, f, front-le (b ∷ t)) in
    let plain = piece-in_comment b (take n t) (reading-piece (piece_of (b ∷ take n t)) (b ∷ take n t) (drop n t) r h) in
    let rest = cut_from-passed n (suc from) (line_after line b) t (omega arith) plain in
    let e : from + suc n ≡ suc from + n = omega arith in
    let m : suc n - 1 ≡ n = omega arith in
    record {
      some = omega arith;
      within = within;
      cut_is = rw (f, h, m, rest, e) refl;
      lines_are = line_behind-passed n (line_after line b) t plain;
    }

-- the front is a fault
pub cut_from-fails : (from line b : ℕ) (t : List ℕ) (c : Code) (n : ℕ) → front (b ∷ t) ≡ n → read_front n (b ∷ t) ≡ Err c
    → cut_from 0 from line (b ∷ t) ≡ Err (record { code = c; line = line })
unfolding cut_from
cut_from-fails from line b t c n f h = rw (f, h) refl

-- no token begins with the end of a line
pub token-line : (line b : ℕ) (t : List ℕ) (k : Kind) (n : ℕ) → front (b ∷ t) ≡ n → read_front n (b ∷ t) ≡ Ok (Some k) → line_after line b ≡ line
token-line line b t k n f h = go (b == 10) refl
  where
    go : (v : Bool) → (b == 10) ≡ v → cond v (line + 1) line ≡ line
    go true e =
        let blank : is_blank b ≡ true = grind (arith, nat_tests) in
        let w = front-blank b t blank in
        let one : n ≡ 1 = cc in
        let u = rw (one, w.piece_is) at h in
        cc
    go false e = refl
