-- What the lexer reads, by what the bytes begin with.
use Rattle.std.proofs.Common.{◌≡◌, ℕ, suc, pos, ◌+◌, ◌<◌, ◌≤◌, ◌==◌, nat_lt, ◌&&◌, Bool, true, false, List, [], ◌∷◌, length, take, drop}
use Rattle.std.proofs.Common.{get_or, Option, Some, None, option_map, Ok, Err, refl, ◌∙◌, arith, one-add}
use Rattle.std.specs.List.{prefix_len}
use Rattle.std.proofs.lemmas.List.Folds.{length-prefix_len}
use Rattle.std.proofs.lemmas.Bool.Decides.{nat_tests}
use Rattle.rg_base.specs.declared.words.Sign.{Sign}
use Rattle.rg_base.specs.declared.token.Kind.{Kind}
use Rattle.rg_base.specs.declared.token.Kind.TheVariants as k
use Rattle.rg_base.specs.declared.fault.Code.TheVariants as code
use Rattle.rg_base.specs.declared.limits.TheConstants.{NAME_BYTES, GREATEST_NUMBER}
use Rattle.rg_base.specs.Words.{keyword_of, sign_of}
use Rattle.rg_base.specs.Pieces.{Piece, blank, comment, name, number, sign, is_blank, is_digit, is_letter, is_in_name, is_in_comment}
use Rattle.rg_base.specs.Tokens.{value_of, begins_name, word_or_name, number_within, reading}
use Rattle.rg_base.proofs.Fronts.{both, IsOther, IsFront, front-blank, front-letter, front-digit, front-comment, front-pair, front-single}
use Rattle.rg_base.proofs.Fronts.{front-alone, one_if}
use Rattle.rg_lex.specs.Inner.Front.{with_length, front_of, marked}

-- by the front's length and what it is
front_of-is : (bs : List ℕ) (n : ℕ) (p : Option Piece) → IsFront bs n p → front_of bs ≡ with_length n (reading p (take n bs) (drop n bs))
front_of-is bs n p f = rw (f.length_is, f.piece_is) refl

-- a blank
pub front_of-blank : (bs : List ℕ) → 0 < length bs → is_blank (get_or bs 0 0) ≡ true → front_of bs ≡ Ok (record { kind = None; len = 1 })
front_of-blank [] l e = absurd (omega arith)
front_of-blank (b ∷ bs) l e = front_of-is (b ∷ bs) 1 (Some blank) (front-blank b bs e)

-- Names.

name-front : (bs : List ℕ) → is_letter (get_or bs 0 0) ≡ true → IsFront bs (prefix_len is_in_name bs) (Some name)
name-front [] e = cc
name-front (b ∷ bs) e =
    let n : prefix_len is_in_name (b ∷ bs) ≡ suc (prefix_len is_in_name bs) = rw (e, one-add) refl in
    rw n (front-letter b bs e)

-- a name that is too long
pub front_of-long_name : (bs : List ℕ) → is_letter (get_or bs 0 0) ≡ true → NAME_BYTES < prefix_len is_in_name bs → front_of bs ≡ Err code.Name
front_of-long_name bs e l =
    let t : nat_lt (prefix_len is_in_name bs) (NAME_BYTES + 1) ≡ false = grind (arith, nat_tests) in
    rw (front_of-is bs (prefix_len is_in_name bs) (Some name) (name-front bs e), length-prefix_len is_in_name bs, t) refl

-- a name within the limit
pub front_of-name : (bs : List ℕ) → is_letter (get_or bs 0 0) ≡ true → prefix_len is_in_name bs ≤ NAME_BYTES
    → front_of bs ≡ Ok (record { kind = Some (word_or_name (keyword_of (take (prefix_len is_in_name bs) bs))); len = prefix_len is_in_name bs })
front_of-name bs e l =
    let t : nat_lt (prefix_len is_in_name bs) (NAME_BYTES + 1) ≡ true = grind (arith, nat_tests) in
    rw (front_of-is bs (prefix_len is_in_name bs) (Some name) (name-front bs e), length-prefix_len is_in_name bs, t) refl

-- Numbers.

number-front : (bs : List ℕ) → is_digit (get_or bs 0 0) ≡ true → IsFront bs (prefix_len is_digit bs) (Some number)
number-front [] e = cc
number-front (b ∷ bs) e =
    let n : prefix_len is_digit (b ∷ bs) ≡ suc (prefix_len is_digit bs) = rw (e, one-add) refl in
    rw n (front-digit b bs e)

letter-fails : (n : ℕ) (t : Bool) (kind : Kind) → with_length n (number_within t true kind) ≡ Err code.Number
letter-fails n true kind = refl
letter-fails n false kind = refl

-- a letter right behind the digits
pub front_of-number_letter : (bs : List ℕ) → is_digit (get_or bs 0 0) ≡ true → begins_name (drop (prefix_len is_digit bs) bs) ≡ true
    → front_of bs ≡ Err code.Number
front_of-number_letter bs e b = rw (front_of-is bs (prefix_len is_digit bs) (Some number) (number-front bs e), b) (letter-fails _ _ _)

-- a number past its limit
pub front_of-number_past : (bs : List ℕ) → is_digit (get_or bs 0 0) ≡ true → GREATEST_NUMBER < value_of (take (prefix_len is_digit bs) bs)
    → front_of bs ≡ Err code.Number
front_of-number_past bs e l =
    let t : nat_lt (value_of (take (prefix_len is_digit bs) bs)) (GREATEST_NUMBER + 1) ≡ false = grind (arith, nat_tests) in
    rw (front_of-is bs (prefix_len is_digit bs) (Some number) (number-front bs e), t) refl

-- a number
pub front_of-number : (bs : List ℕ) → is_digit (get_or bs 0 0) ≡ true → value_of (take (prefix_len is_digit bs) bs) ≤ GREATEST_NUMBER
    → begins_name (drop (prefix_len is_digit bs) bs) ≡ false
    → front_of bs ≡ Ok (record { kind = Some (k.Number (pos (value_of (take (prefix_len is_digit bs) bs)))); len = prefix_len is_digit bs })
front_of-number bs e l b =
    let t : nat_lt (value_of (take (prefix_len is_digit bs) bs)) (GREATEST_NUMBER + 1) ≡ true = grind (arith, nat_tests) in
    rw (front_of-is bs (prefix_len is_digit bs) (Some number) (number-front bs e), t, b) refl

-- Comments and signs.

-- a comment
pub front_of-comment : (bs : List ℕ) → 2 ≤ length bs → (get_or bs 0 0 == 47 && get_or bs 1 0 == 47) ≡ true
    → front_of bs ≡ Ok (record { kind = None; len = prefix_len is_in_comment bs })
front_of-comment [] l e = absurd (omega arith)
front_of-comment (a ∷ []) l e = absurd (omega arith)
front_of-comment (a ∷ c ∷ bs) l e =
    let r = both (a == 47) (c == 47) e in
    let first : a ≡ 47 = grind (arith, nat_tests) in
    let second : c ≡ 47 = grind (arith, nat_tests) in
    let n : prefix_len is_in_comment (47 ∷ 47 ∷ bs) ≡ suc (suc (prefix_len is_in_comment bs)) = omega arith in
    rw (first, second, n) (front_of-is (47 ∷ 47 ∷ bs) (suc (suc (prefix_len is_in_comment bs))) (Some comment) (front-comment bs))

-- a sign of two bytes
pub front_of-pair : (bs : List ℕ) (s : Sign) → IsOther (get_or bs 0 0) → 2 ≤ length bs → (get_or bs 0 0 == 47 && get_or bs 1 0 == 47) ≡ false
    → sign_of (get_or bs 0 0 ∷ get_or bs 1 0 ∷ []) ≡ Some s → front_of bs ≡ Ok (record { kind = Some (k.Mark s); len = 2 })
front_of-pair [] s o l h e = absurd (omega arith)
front_of-pair (a ∷ []) s o l h e = absurd (omega arith)
front_of-pair (a ∷ c ∷ bs) s o l h e = front_of-is (a ∷ c ∷ bs) 2 (Some (sign s)) (front-pair a c bs s o h e)

marked-is : (v : Option Sign) (text after : List ℕ) → with_length (one_if v) (reading (option_map sign v) text after) ≡ marked v
marked-is None text after = refl
marked-is (Some s) text after = refl

-- a byte that makes no sign with the next one
pub front_of-single : (bs : List ℕ) → IsOther (get_or bs 0 0) → 2 ≤ length bs → (get_or bs 0 0 == 47 && get_or bs 1 0 == 47) ≡ false
    → sign_of (get_or bs 0 0 ∷ get_or bs 1 0 ∷ []) ≡ None → front_of bs ≡ marked (sign_of (get_or bs 0 0 ∷ []))
front_of-single [] o l h e = absurd (omega arith)
front_of-single (a ∷ []) o l h e = absurd (omega arith)
front_of-single (a ∷ c ∷ bs) o l h e =
    let s = sign_of (a ∷ []) in
    front_of-is (a ∷ c ∷ bs) (one_if s) (option_map sign s) (front-single a c bs o h e) ∙ marked-is s _ _

-- the last byte
pub front_of-alone : (bs : List ℕ) → IsOther (get_or bs 0 0) → length bs ≡ 1 → front_of bs ≡ marked (sign_of (get_or bs 0 0 ∷ []))
front_of-alone [] o l = absurd (omega arith)
front_of-alone (a ∷ []) o l =
    let s = sign_of (a ∷ []) in
    front_of-is (a ∷ []) (one_if s) (option_map sign s) (front-alone a o) ∙ marked-is s _ _
front_of-alone (a ∷ c ∷ bs) o l = absurd (omega arith)
