-- What the next number is, of blanks, a token and the bytes behind it.
use Rattle.std.proofs.Common.{◌≡◌, ℕ, zero, suc, ℤ, ◌+◌, ◌<◌, ◌≤◌, nat_lt, ◌&&◌, Bool, true, false, if◌then◌else◌, List, [], ◌∷◌, ◌++◌, length}
use Rattle.std.proofs.Common.{take, drop, Option, None, refl, ◌∙◌, ap, arith}
use Rattle.std.specs.List.{list_all, prefix_len, take_while}
use Rattle.std.proofs.Math.Seq.{take-append_seam, drop-append_seam}
use Rattle.std.proofs.lemmas.Bool.Decides.{nat_tests}
use Rattle.std.proofs.lemmas.List.Folds.{length-prefix_len}
use Rattle.std.proofs.lemmas.Bool.{not-true}
use Rattle.rg_base.specs.declared.limits.TheConstants.{INPUT_TOKEN}
use Rattle.rg_base.specs.Input.{NextNumber, malformed, skip_blanks, behind_blanks, of_token, found_or_malformed, token_number}
use Rattle.rg_base.specs.Pieces.{is_blank}
use Rattle.rg_input.specs.Read.{is_in_token}

-- both tests hold
pub both-first : (a b : Bool) → (a && b) ≡ true → a ≡ true
both-first true b h = refl
both-first false b h = h

pub both-second : (a b : Bool) → (a && b) ≡ true → b ≡ true
both-second true b h = h
both-second false b h = cc

-- more blanks than may be skipped
pub next-past : (n : ℕ) (blanks more : List ℕ) → list_all is_blank blanks ≡ true → n < length blanks →
    behind_blanks (skip_blanks n (blanks ++ more)) ≡ malformed
next-past n [] more blank past = absurd (omega arith)
next-past zero (b ∷ bs) more blank past = rw (both-first (is_blank b) (list_all is_blank bs) blank) refl
next-past (suc n) (b ∷ bs) more blank past =
    rw (both-first (is_blank b) (list_all is_blank bs) blank)
    (next-past n bs more (both-second (is_blank b) (list_all is_blank bs) blank) (omega arith))

-- no blank comes first
abbrev pub starts_no_blank : List ℕ → Bool
starts_no_blank [] = true
starts_no_blank (b ∷ bs) = is_in_token b

-- nothing is skipped there
skip_blanks-none : (n : ℕ) (bytes : List ℕ) → starts_no_blank bytes ≡ true → skip_blanks n bytes ≡ bytes
skip_blanks-none zero bytes other = refl
skip_blanks-none (suc n) [] other = refl
skip_blanks-none (suc n) (b ∷ bs) other = rw (not-true (is_blank b) other) refl

-- as many blanks as may be skipped
pub skip_blanks-all : (n : ℕ) (blanks more : List ℕ) → list_all is_blank blanks ≡ true → length blanks ≤ n → starts_no_blank more ≡ true →
    skip_blanks n (blanks ++ more) ≡ more
skip_blanks-all n [] more blank few other = skip_blanks-none n more other
skip_blanks-all zero (b ∷ bs) more blank few other = absurd (omega arith)
skip_blanks-all (suc n) (b ∷ bs) more blank few other =
    rw (both-first (is_blank b) (list_all is_blank bs) blank)
    (skip_blanks-all n bs more (both-second (is_blank b) (list_all is_blank bs) blank) (omega arith) other)

-- the run of bytes that aren't blanks
prefix_len-token : (token more : List ℕ) → list_all is_in_token token ≡ true →
    prefix_len is_in_token (token ++ more) ≡ length token + prefix_len is_in_token more
prefix_len-token [] more inside = omega arith
prefix_len-token (b ∷ bs) more inside =
    let first : is_in_token b ≡ true = both-first (is_in_token b) (list_all is_in_token bs) inside in
    let rest : prefix_len is_in_token (bs ++ more) ≡ length bs + prefix_len is_in_token more =
    prefix_len-token bs more (both-second (is_in_token b) (list_all is_in_token bs) inside) in
    rw first (omega arith)

-- a run of bytes, and the bytes behind it
take_while-token : (token more : List ℕ) → list_all is_in_token token ≡ true → prefix_len is_in_token more ≡ 0 →
    take_while is_in_token (token ++ more) ≡ token
take_while-token token more inside stops =
    let n : prefix_len is_in_token (token ++ more) ≡ length token = omega (arith, prefix_len-token token more inside) in
    ap (λ k. take k (token ++ more)) n ∙ take-append_seam token more

-- a token begins with its first byte
behind_other : (b : ℕ) (bytes : List ℕ) → is_in_token b ≡ true →
    behind_blanks (b ∷ bytes) ≡ of_token (take_while is_in_token (b ∷ bytes)) (b ∷ bytes)
behind_other b bytes other =
    let P : Bool → NextNumber = λ t. if t then malformed else of_token (take_while is_in_token (b ∷ bytes)) (b ∷ bytes) in
    ap P (not-true (is_blank b) other)

-- a token with what ends it behind
pub next-token : (token more : List ℕ) → list_all is_in_token token ≡ true → 0 < length token → prefix_len is_in_token more ≡ 0 →
    behind_blanks (token ++ more) ≡ found_or_malformed more (token_number token)
next-token [] more inside some stops = absurd (omega arith)
next-token (b ∷ bs) more inside some stops =
    let other : is_in_token b ≡ true = both-first (is_in_token b) (list_all is_in_token bs) inside in
    let run : take_while is_in_token (b ∷ bs ++ more) ≡ b ∷ bs = take_while-token (b ∷ bs) more inside stops in
    let P : List ℕ → NextNumber = λ t. of_token t (b ∷ bs ++ more) in
    let rest : drop (length (b ∷ bs)) (b ∷ bs ++ more) ≡ more = drop-append_seam (b ∷ bs) more in
    let Q : List ℕ → NextNumber = λ r. found_or_malformed r (token_number (b ∷ bs)) in
    behind_other b (bs ++ more) other ∙ ap P run ∙ ap Q rest

-- a token that is too long
pub token_number-long : (token : List ℕ) → INPUT_TOKEN < length token → token_number token ≡ None
token_number-long token long =
    let test : nat_lt (length token) (INPUT_TOKEN + 1) ≡ false = grind (arith, nat_tests) in rw test refl

pub next-long : (token more : List ℕ) → list_all is_in_token token ≡ true → INPUT_TOKEN < length token →
    behind_blanks (token ++ more) ≡ malformed
next-long [] more inside long = absurd (omega arith)
next-long (b ∷ bs) more inside long =
    let other : is_in_token b ≡ true = both-first (is_in_token b) (list_all is_in_token bs) inside in
    let run : List ℕ = take_while is_in_token (b ∷ bs ++ more) in
    let n : length run ≡ prefix_len is_in_token (b ∷ bs ++ more) = length-prefix_len is_in_token (b ∷ bs ++ more) in
    let none : token_number run ≡ None = token_number-long run (omega (arith, prefix_len-token (b ∷ bs) more inside)) in
    let P : Option ℤ → NextNumber = λ o. found_or_malformed (drop (length run) (b ∷ bs ++ more)) o in
    behind_other b (bs ++ more) other ∙ ap P none
