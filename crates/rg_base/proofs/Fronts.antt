-- The piece that begins the bytes, by what they begin with.
use Rattle.std.proofs.Common.{◌≡◌, ℕ, zero, suc, ◌+◌, ◌-◌, ◌<◌, ◌≤◌, ◌==◌, nat_le, Bool, true, false, ◌&&◌, cond, List, [], ◌∷◌, length, take, Option}
use Rattle.std.proofs.Common.{Some, None, is_some, option_map, refl, ◌∙◌, arith, one-add}
use Rattle.std.specs.List.{list_all, prefix_len}
use Rattle.std.specs.Prelude.{bytes_eq}
use Rattle.std.proofs.lemmas.List.Sums.{prefix_len-le-length}
use Rattle.std.proofs.lemmas.Bool.Decides.{nat_tests}
use Rattle.rg_base.specs.declared.words.Sign.{Sign}
use Rattle.rg_base.specs.Words.{signs, beside, sign_of}
use Rattle.rg_base.specs.Pieces.{Piece, blank, comment, name, number, sign, is_blank, is_digit, is_letter, is_in_name, is_in_comment, only_if}
use Rattle.rg_base.specs.Pieces.{is_empty, is_comment, piece_of, longest, front}

-- The length of the front.

-- from a length on at which nothing longer is a piece
longest-down : (bs : List ℕ) (m d k : ℕ) → d + m ≡ k → is_some (piece_of (take (suc m) bs)) ≡ true
    → ((j : ℕ) → m < j → j ≤ k → is_some (piece_of (take (suc j) bs)) ≡ false) → longest bs (suc k) ≡ suc m
longest-down bs m zero k e here apart = let z : k ≡ m = omega arith in rw z (rw here refl)
longest-down bs m (suc d) zero e here apart = absurd (omega arith)
longest-down bs m (suc d) (suc k) e here apart =
    let f = apart (suc k) (omega arith) (omega arith) in
    rw f (longest-down bs m d k (omega arith) here (λ j l u. apart j l (omega arith)))

-- where no length is a piece
longest-none : (bs : List ℕ) (k : ℕ) → ((j : ℕ) → j < k → is_some (piece_of (take (suc j) bs)) ≡ false) → longest bs k ≡ 0
longest-none bs zero apart = refl
longest-none bs (suc k) apart = let f = apart k (omega arith) in rw f (longest-none bs k (λ j l. apart j (omega arith)))

-- the front of that length is a piece, and no longer one is
pub front-is : (bs : List ℕ) (m : ℕ) → m < length bs → is_some (piece_of (take (suc m) bs)) ≡ true
    → ((j : ℕ) → m < j → j < length bs → is_some (piece_of (take (suc j) bs)) ≡ false) → front bs ≡ suc m
unfolding front
front-is [] m le here apart = absurd (omega arith)
front-is (b ∷ bs) m le here apart =
    longest-down (b ∷ bs) m (length bs - m) (length bs) (omega arith) here (λ j l u. apart j l (omega arith))

-- no front is a piece
pub front-none : (bs : List ℕ) → ((j : ℕ) → j < length bs → is_some (piece_of (take (suc j) bs)) ≡ false) → front bs ≡ 0
unfolding front
front-none bs apart = longest-none bs (length bs) apart

le-cond : (v : Bool) (a b c : ℕ) → a ≤ c → b ≤ c → cond v a b ≤ c
le-cond true a b c h k = h
le-cond false a b c h k = k

longest-le : (bs : List ℕ) (k : ℕ) → longest bs k ≤ k
longest-le bs zero = omega arith
longest-le bs (suc k) = le-cond (is_some (piece_of (take (suc k) bs))) (suc k) (longest bs k) (suc k) (omega arith) (omega (arith, longest-le bs k))

-- the front is no longer than the bytes
pub front-le : (bs : List ℕ) → front bs ≤ length bs
unfolding front
front-le bs = longest-le bs (length bs)

-- Runs of bytes that pass a test.

-- the parts of a test
pub both : (a b : Bool) → (a && b) ≡ true → (a ≡ true) × (b ≡ true)
both true b h = (refl, h)
both false b h = cc

and-false : (v : Bool) → (v && false) ≡ false
and-false true = refl
and-false false = refl

run-step : (q : ℕ → Bool) (t : Bool) (b : ℕ) (bs : List ℕ) (n : ℕ) → q b ≡ t → list_all q (take n bs) ≡ true
    → list_all q (take (cond t (1 + n) 0) (b ∷ bs)) ≡ true
run-step q true b bs n e h = rw one-add (rw e h)
run-step q false b bs n e h = refl

-- all bytes of the run pass
pub list_all-run : (q : ℕ → Bool) (bs : List ℕ) → list_all q (take (prefix_len q bs) bs) ≡ true
list_all-run q [] = refl
list_all-run q (b ∷ bs) = run-step q (q b) b bs (prefix_len q bs) refl (list_all-run q bs)

past-step : (q : ℕ → Bool) (t : Bool) (bs : List ℕ) (j n : ℕ) → (n < j → list_all q (take j bs) ≡ false) → cond t (1 + n) 0 < suc j
    → (t && list_all q (take j bs)) ≡ false
past-step q true bs j n h l = h (omega arith)
past-step q false bs j n h l = refl

-- not all bytes of a longer front pass
pub list_all-past : (q : ℕ → Bool) (bs : List ℕ) (j : ℕ) → prefix_len q bs < j → j ≤ length bs → list_all q (take j bs) ≡ false
list_all-past q [] j l u = absurd (omega arith)
list_all-past q (b ∷ bs) zero l u = absurd (omega arith)
list_all-past q (b ∷ bs) (suc j) l u = past-step q (q b) bs j (prefix_len q bs) (λ h. list_all-past q bs j h (omega arith)) l

some-only_if : (t : Bool) (p : Piece) → is_some (only_if t p) ≡ t
some-only_if true p = refl
some-only_if false p = refl

-- where a test on the bytes behind the first decides, the front is the run of those that pass
pub front-run : (b : ℕ) (bs : List ℕ) (q : ℕ → Bool) (p : Piece) → ((t : List ℕ) → piece_of (b ∷ t) ≡ only_if (list_all q t) p)
    → front (b ∷ bs) ≡ suc (prefix_len q bs)
front-run b bs q p h = front-is (b ∷ bs) (prefix_len q bs) (omega (arith, prefix_len-le-length q bs))
    (rw (h (take (prefix_len q bs) bs)) (some-only_if _ p ∙ list_all-run q bs))
    (λ j l u. rw (h (take j bs)) (some-only_if _ p ∙ list_all-past q bs j l (omega arith)))

-- the text of that piece
pub piece-run : (b : ℕ) (bs : List ℕ) (q : ℕ → Bool) (p : Piece) → ((t : List ℕ) → piece_of (b ∷ t) ≡ only_if (list_all q t) p)
    → piece_of (b ∷ take (prefix_len q bs) bs) ≡ Some p
piece-run b bs q p h = rw (h (take (prefix_len q bs) bs)) (rw (list_all-run q bs) refl)

-- The kind of a text, by its first byte.

-- a blank
pub piece-blank : (b : ℕ) (t : List ℕ) → is_blank b ≡ true → piece_of (b ∷ t) ≡ only_if (is_empty t) blank
piece-blank b t e = rw e refl

-- a letter is no blank
letter-no_blank : (b : ℕ) → is_letter b ≡ true → is_blank b ≡ false
letter-no_blank b e = grind (arith, nat_tests)

-- a digit is no blank
digit-no_blank : (b : ℕ) → is_digit b ≡ true → is_blank b ≡ false
digit-no_blank b e = grind (arith, nat_tests)

-- a digit is no letter
digit-no_letter : (b : ℕ) → is_digit b ≡ true → is_letter b ≡ false
digit-no_letter b e = grind (arith, nat_tests)

-- a letter
pub piece-letter : (b : ℕ) (t : List ℕ) → is_letter b ≡ true → piece_of (b ∷ t) ≡ only_if (list_all is_in_name t) name
piece-letter b t e = let f = letter-no_blank b e in rw (f, e) refl

-- a digit
pub piece-digit : (b : ℕ) (t : List ℕ) → is_digit b ≡ true → piece_of (b ∷ t) ≡ only_if (list_all is_digit t) number
piece-digit b t e = let f = digit-no_blank b e in let g = digit-no_letter b e in rw (f, g, e) refl

-- neither a blank nor a letter nor a digit
pub record IsOther (b : ℕ) : Type 0 where
  pub blank : is_blank b ≡ false
  pub letter : is_letter b ≡ false
  pub digit : is_digit b ≡ false

-- another byte
pub piece-other : (b : ℕ) (t : List ℕ) → IsOther b → piece_of (b ∷ t) ≡ cond (is_comment (b ∷ t)) (Some comment) (option_map sign (sign_of (b ∷ t)))
piece-other b t o = rw (o.blank, o.letter, o.digit) refl

-- What begins the bytes, in each case.

-- the length of the front, and what it is
pub record IsFront (bs : List ℕ) (n : ℕ) (p : Option Piece) : Type 0 where
  pub length_is : front bs ≡ n
  pub piece_is : piece_of (take n bs) ≡ p

longer-no_blank : (t : List ℕ) (j : ℕ) → j < length t → is_some (only_if (is_empty (take (suc j) t)) blank) ≡ false
longer-no_blank [] j l = absurd (omega arith)
longer-no_blank (x ∷ t) j l = refl

-- a blank alone
pub front-blank : (b : ℕ) (bs : List ℕ) → is_blank b ≡ true → IsFront (b ∷ bs) 1 (Some blank)
front-blank b bs e = record {
  length_is = front-is (b ∷ bs) 0 (omega arith) (rw (piece-blank b [] e) refl) apart;
  piece_is = piece-blank b [] e;
}
  where
    apart : (j : ℕ) → 0 < j → j < length (b ∷ bs) → is_some (piece_of (take (suc j) (b ∷ bs))) ≡ false
    apart zero l u = absurd (omega arith)
    apart (suc j) l u = rw (piece-blank b (take (suc j) bs) e) (longer-no_blank bs j (omega arith))

-- a name or a reserved word
pub front-letter : (b : ℕ) (bs : List ℕ) → is_letter b ≡ true → IsFront (b ∷ bs) (suc (prefix_len is_in_name bs)) (Some name)
front-letter b bs e =
    let run : (t : List ℕ) → piece_of (b ∷ t) ≡ only_if (list_all is_in_name t) name = λ t. piece-letter b t e in
    record { length_is = front-run b bs is_in_name name run; piece_is = piece-run b bs is_in_name name run }

-- a number
pub front-digit : (b : ℕ) (bs : List ℕ) → is_digit b ≡ true → IsFront (b ∷ bs) (suc (prefix_len is_digit bs)) (Some number)
front-digit b bs e =
    let run : (t : List ℕ) → piece_of (b ∷ t) ≡ only_if (list_all is_digit t) number = λ t. piece-digit b t e in
    record { length_is = front-run b bs is_digit number run; piece_is = piece-run b bs is_digit number run }

comment-or_none : (v : Bool) → cond v (Some comment) None ≡ only_if v comment
comment-or_none true = refl
comment-or_none false = refl

comment-text : (t : List ℕ) → piece_of (47 ∷ 47 ∷ t) ≡ only_if (list_all is_in_comment t) comment
comment-text [] = refl
comment-text (x ∷ t) = comment-or_none (list_all is_in_comment (x ∷ t))

-- a comment
pub front-comment : (bs : List ℕ) → IsFront (47 ∷ 47 ∷ bs) (suc (suc (prefix_len is_in_comment bs))) (Some comment)
front-comment bs =
    let n = prefix_len is_in_comment bs in
    let here : piece_of (47 ∷ 47 ∷ take n bs) ≡ Some comment = rw (comment-text (take n bs)) (rw (list_all-run is_in_comment bs) refl) in
    record {
      length_is = front-is (47 ∷ 47 ∷ bs) (suc n) (omega (arith, prefix_len-le-length is_in_comment bs)) (rw here refl) apart;
      piece_is = here;
    }
  where
    apart : (j : ℕ) → suc (prefix_len is_in_comment bs) < j → j < length (47 ∷ 47 ∷ bs) → is_some (piece_of (take (suc j) (47 ∷ 47 ∷ bs))) ≡ false
    apart zero l u = absurd (omega arith)
    apart (suc j) l u = rw (comment-text (take j bs)) (some-only_if _ comment ∙ list_all-past is_in_comment bs j (omega arith) (omega arith))

-- Signs.

bytes_eq-longer : (s t : List ℕ) → length s < length t → bytes_eq s t ≡ false
bytes_eq-longer [] [] l = absurd (omega arith)
bytes_eq-longer [] (x ∷ t) l = refl
bytes_eq-longer (x ∷ s) [] l = refl
bytes_eq-longer (x ∷ s) (y ∷ t) l = rw (bytes_eq-longer s t (omega arith)) (and-false (x == y))

-- what is longer than all texts of a table isn't there
beside-long : (xs : List (List ℕ × Sign)) (n : ℕ) (t : List ℕ) → list_all (λ x. nat_le (length x.0) n) xs ≡ true → n < length t → beside xs t ≡ None
beside-long [] n t a l = refl
beside-long (x ∷ xs) n t a l =
    let r = both (nat_le (length x.0) n) (list_all (λ x. nat_le (length x.0) n) xs) a in
    let s : length x.0 ≤ n = grind (arith, nat_tests) in
    rw (bytes_eq-longer x.0 t (omega arith)) (beside-long xs n t r.1 l)

-- no sign has more than two bytes
sign_of-long : (t : List ℕ) → 2 < length t → sign_of t ≡ None
sign_of-long t l = beside-long signs 2 t refl l

not_comment : (a c : ℕ) (v : Bool) → (a == 47 && c == 47) ≡ false → (a == 47 && c == 47 && v) ≡ false
not_comment a c v h = rw h refl

-- a text that is a sign or nothing
sign-text : (a : ℕ) (t : List ℕ) → IsOther a → is_comment (a ∷ t) ≡ false → piece_of (a ∷ t) ≡ option_map sign (sign_of (a ∷ t))
sign-text a t o e = rw (piece-other a t o, e) refl

-- no text of three bytes or more that is no comment is a piece
longer-no_sign : (a c : ℕ) (t : List ℕ) (j : ℕ) → IsOther a → (a == 47 && c == 47) ≡ false → j < length t
    → is_some (piece_of (a ∷ c ∷ take (suc j) t)) ≡ false
longer-no_sign a c [] j o h l = absurd (omega arith)
longer-no_sign a c (d ∷ t) j o h l =
    let plain = not_comment a c (list_all is_in_comment (d ∷ take j t)) h in
    rw (sign-text a (c ∷ d ∷ take j t) o plain, sign_of-long (a ∷ c ∷ d ∷ take j t) (omega arith)) refl

-- a sign of two bytes
pub front-pair : (a c : ℕ) (t : List ℕ) (s : Sign) → IsOther a → (a == 47 && c == 47) ≡ false → sign_of (a ∷ c ∷ []) ≡ Some s
    → IsFront (a ∷ c ∷ t) 2 (Some (sign s))
front-pair a c t s o h e =
    let here : piece_of (a ∷ c ∷ []) ≡ Some (sign s) = rw (sign-text a (c ∷ []) o (not_comment a c true h), e) refl in
    record { length_is = front-is (a ∷ c ∷ t) 1 (omega arith) (rw here refl) apart; piece_is = here }
  where
    apart : (j : ℕ) → 1 < j → j < length (a ∷ c ∷ t) → is_some (piece_of (take (suc j) (a ∷ c ∷ t))) ≡ false
    apart zero l u = absurd (omega arith)
    apart (suc zero) l u = absurd (omega arith)
    apart (suc (suc j)) l u = longer-no_sign a c t j o h (omega arith)

-- one byte, or none
abbrev pub one_if : Option Sign → ℕ
one_if None = 0
one_if (Some s) = 1

-- a byte with which nothing longer begins
front-one : (a : ℕ) (t : List ℕ) (v : Option Sign) → IsOther a → sign_of (a ∷ []) ≡ v
    → ((j : ℕ) → 0 < j → j < length (a ∷ t) → is_some (piece_of (take (suc j) (a ∷ t))) ≡ false) → IsFront (a ∷ t) (one_if v) (option_map sign v)
front-one a t (Some s) o e apart =
    let here : piece_of (a ∷ []) ≡ Some (sign s) = rw (sign-text a [] o refl, e) refl in
    record { length_is = front-is (a ∷ t) 0 (omega arith) (rw here refl) apart; piece_is = here }
front-one a t None o e apart =
    let here : piece_of (a ∷ []) ≡ None = rw (sign-text a [] o refl, e) refl in
    record { length_is = front-none (a ∷ t) (all here); piece_is = refl }
  where
    all : piece_of (a ∷ []) ≡ None → (j : ℕ) → j < length (a ∷ t) → is_some (piece_of (take (suc j) (a ∷ t))) ≡ false
    all here zero l = rw here refl
    all here (suc j) l = apart (suc j) (omega arith) l

-- a sign of one byte, or a byte of no piece, where the next byte makes no longer sign
pub front-single : (a c : ℕ) (t : List ℕ) → IsOther a → (a == 47 && c == 47) ≡ false → sign_of (a ∷ c ∷ []) ≡ None
    → IsFront (a ∷ c ∷ t) (one_if (sign_of (a ∷ []))) (option_map sign (sign_of (a ∷ [])))
front-single a c t o h e = front-one a (c ∷ t) (sign_of (a ∷ [])) o refl apart
  where
    apart : (j : ℕ) → 0 < j → j < length (a ∷ c ∷ t) → is_some (piece_of (take (suc j) (a ∷ c ∷ t))) ≡ false
    apart zero l u = absurd (omega arith)
    apart (suc zero) l u = rw (sign-text a (c ∷ []) o (not_comment a c true h), e) refl
    apart (suc (suc j)) l u = longer-no_sign a c t j o h (omega arith)

-- the same at the end of the bytes
pub front-alone : (a : ℕ) → IsOther a → IsFront (a ∷ []) (one_if (sign_of (a ∷ []))) (option_map sign (sign_of (a ∷ [])))
front-alone a o = front-one a [] (sign_of (a ∷ [])) o refl (λ j l u. absurd (omega arith))
