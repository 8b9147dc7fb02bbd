-- What bytes that were read say of the next number.
use Rattle.std.proofs.Common.{◌≡◌, ℕ, zero, suc, ◌<◌, ◌≤◌, nat_lt, ◌⊎◌, inl, inr, ◌||◌, true, false, List, [], ◌∷◌, ◌++◌, length, Option, Some, None}
use Rattle.std.proofs.Common.{refl, sym, ◌∙◌, ap, append_assoc, append-nil, is_some, Bool, if◌then◌else◌, length-append, arith}
use Rattle.std.specs.List.{list_all, list_any, prefix_len}
use Rattle.std.specs.Option.{option_to_list}
use Rattle.std.proofs.lemmas.Bool.Decides.{nat_tests}
use Rattle.rg_base.specs.declared.limits.TheConstants.{INPUT_BLANKS, INPUT_TOKEN}
use Rattle.rg_base.specs.Input.{malformed, at_end, skip_blanks, behind_blanks, found_or_malformed, token_number, next_number}
use Rattle.rg_base.specs.Pieces.{is_blank}
use Rattle.rg_input.specs.Read.{is_in_token, is_whole_behind, is_whole, IsRead, read_bytes, is_enough}
use Rattle.rg_input.proofs.Next.{both-first, both-second, next-past, starts_no_blank, skip_blanks-all, next-token, next-long}
use Rattle.rg_input.proofs.Next.{token_number-long}
use Rattle.std.proofs.lemmas.Bool.{false≢true, cases_lt, not-true, or_cases}
use Rattle.std.proofs.lemmas.List.Folds.{list_any-append}
use Rattle.std.proofs.Math.Bool.{or-true}

-- the parts of what was read, from the left
grouped : (blanks token behind more : List ℕ) → (blanks ++ token ++ behind) ++ more ≡ blanks ++ (token ++ (behind ++ more))
grouped blanks token behind more = append_assoc (blanks ++ token) behind more ∙ append_assoc blanks token (behind ++ more)

-- too many blanks
pub says_past : (blanks token : List ℕ) (behind : Option ℕ) (more : List ℕ) → IsRead blanks token behind → INPUT_BLANKS < length blanks →
    next_number (read_bytes blanks token behind ++ more) ≡ malformed
says_past blanks token behind more read past =
    rw (grouped blanks token (option_to_list behind) more)
    (next-past INPUT_BLANKS blanks (token ++ (option_to_list behind ++ more)) read.blanks_alone past)

-- no blank comes first in a token and what stands behind it
token-first : (blanks token : List ℕ) (behind : Option ℕ) (more : List ℕ) → IsRead blanks token behind → (0 < length token) ⊎ (more ≡ []) →
    starts_no_blank (token ++ (option_to_list behind ++ more)) ≡ true
token-first blanks (t ∷ ts) behind more read some = both-first (is_in_token t) (list_all is_in_token ts) read.no_blank
token-first blanks [] (Some b) more read some = absurd (omega (arith, (read.behind_a_token b refl).1))
token-first blanks [] None more read (inl some) = absurd (omega arith)
token-first blanks [] None more read (inr none) = rw none refl

-- at the end, blanks alone were read
pub says_end : (blanks token : List ℕ) (behind : Option ℕ) (more : List ℕ) → IsRead blanks token behind → length blanks ≤ INPUT_BLANKS →
    length token ≡ 0 → (is_enough blanks token behind ≡ true) ⊎ (more ≡ []) → next_number (read_bytes blanks token behind ++ more) ≡ at_end
says_end blanks (t ∷ ts) behind more read few none end = absurd (omega arith)
says_end blanks [] (Some b) more read few none end = absurd (omega (arith, (read.behind_a_token b refl).1))
says_end blanks [] None more read few none (inl enough) =
    let test : nat_lt INPUT_BLANKS (length blanks) ≡ false = grind (arith, nat_tests) in
    let none_enough : false ≡ true = rw test at enough in
    absurd (false≢true none_enough)
says_end blanks [] None more read few none (inr none_more) =
    rw (grouped blanks [] [] more)
    (let skipped = skip_blanks-all INPUT_BLANKS blanks ([] ++ ([] ++ more)) read.blanks_alone few
    (token-first blanks [] None more read (inr none_more)) in
    rw (skipped, none_more) refl)

-- a token, with the blank behind it or nothing, behind the blanks
token_says : (blanks token : List ℕ) (behind : Option ℕ) (more : List ℕ) → IsRead blanks token behind → length blanks ≤ INPUT_BLANKS →
    0 < length token → (is_enough blanks token behind ≡ true) ⊎ (more ≡ []) →
    behind_blanks (token ++ (option_to_list behind ++ more)) ≡ found_or_malformed (option_to_list behind ++ more) (token_number token)
token_says blanks token (Some b) more read few some end =
    let stops : prefix_len is_in_token (b ∷ more) ≡ 0 = rw (read.behind_a_token b refl).0 refl in
    next-token token (b ∷ more) read.no_blank some stops
token_says blanks token None more read few some (inr none) =
    rw none (next-token token [] read.no_blank some refl)
token_says blanks token None more read few some (inl enough) =
    let test : nat_lt INPUT_BLANKS (length blanks) ≡ false = grind (arith, nat_tests) in
    let long : nat_lt INPUT_TOKEN (length token) ≡ true = rw test at enough in
    let past : INPUT_TOKEN < length token = grind (arith, nat_tests) in
    rw (token_number-long token past) (next-long token more read.no_blank past)

-- a token, with the blank behind it or nothing
pub says_token : (blanks token : List ℕ) (behind : Option ℕ) (more : List ℕ) → IsRead blanks token behind → length blanks ≤ INPUT_BLANKS →
    0 < length token → (is_enough blanks token behind ≡ true) ⊎ (more ≡ []) →
    next_number (read_bytes blanks token behind ++ more) ≡ found_or_malformed (option_to_list behind ++ more) (token_number token)
says_token blanks token behind more read few some end =
    rw (grouped blanks token (option_to_list behind) more)
    (rw (skip_blanks-all INPUT_BLANKS blanks (token ++ (option_to_list behind ++ more)) read.blanks_alone few
    (token-first blanks token behind more read (inl some)))
    (token_says blanks token behind more read few some end))

-- more blanks than may be skipped are enough
whole-past : (n : ℕ) (blanks more : List ℕ) → list_all is_blank blanks ≡ true → n < length blanks →
    is_whole_behind (skip_blanks n (blanks ++ more)) ≡ true
whole-past n [] more blank past = absurd (omega arith)
whole-past zero (b ∷ bs) more blank past = rw (both-first (is_blank b) (list_all is_blank bs) blank) refl
whole-past (suc n) (b ∷ bs) more blank past =
    rw (both-first (is_blank b) (list_all is_blank bs) blank)
    (whole-past n bs more (both-second (is_blank b) (list_all is_blank bs) blank) (omega arith))

-- no byte of a token is a blank
no_blank-token : (token : List ℕ) → list_all is_in_token token ≡ true → list_any is_blank token ≡ false
no_blank-token [] inside = refl
no_blank-token (t ∷ ts) inside =
    rw (not-true (is_blank t) (both-first (is_in_token t) (list_all is_in_token ts) inside))
    (no_blank-token ts (both-second (is_in_token t) (list_all is_in_token ts) inside))

-- one of three tests
or-second : (a b c : Bool) → b ≡ true → (a || b || c) ≡ true
or-second true b c h = refl
or-second false b c h = rw h refl

-- a token alone is enough where it is too long
whole_behind-token : (token : List ℕ) → list_all is_in_token token ≡ true → is_whole_behind token ≡ nat_lt INPUT_TOKEN (length token)
whole_behind-token [] inside = refl
whole_behind-token (t ∷ ts) inside =
    let P : Bool → Bool = λ any. any || nat_lt INPUT_TOKEN (length (t ∷ ts)) in ap P (no_blank-token (t ∷ ts) inside)

-- what is enough by its parts is enough as a list
whole-few : (blanks token : List ℕ) (behind : Option ℕ) → IsRead blanks token behind → length blanks ≤ INPUT_BLANKS →
    is_whole (read_bytes blanks token behind) ≡ is_enough blanks token behind
whole-few blanks token None read few =
    let test : nat_lt INPUT_BLANKS (length blanks) ≡ false = grind (arith, nat_tests) in
    let skipped : skip_blanks INPUT_BLANKS (blanks ++ token ++ []) ≡ token ++ [] =
    rw (append_assoc blanks token []) (skip_blanks-all INPUT_BLANKS blanks (token ++ []) read.blanks_alone few
    (token-first blanks token None [] read (inr refl))) in
    rw (skipped, append-nil token, test) (whole_behind-token token read.no_blank)
whole-few blanks [] (Some b) read few = absurd (omega (arith, (read.behind_a_token b refl).1))
whole-few blanks (t ∷ ts) (Some b) read few =
    let skipped : skip_blanks INPUT_BLANKS (blanks ++ t ∷ ts ++ b ∷ []) ≡ t ∷ ts ++ b ∷ [] =
    rw (append_assoc blanks (t ∷ ts) (b ∷ [])) (skip_blanks-all INPUT_BLANKS blanks (t ∷ ts ++ b ∷ []) read.blanks_alone few
    (token-first blanks (t ∷ ts) (Some b) [] read (inr refl))) in
    let blank : list_any is_blank (t ∷ ts ++ b ∷ []) ≡ true =
    list_any-append is_blank (t ∷ ts) (b ∷ []) ∙ rw (no_blank-token (t ∷ ts) read.no_blank, (read.behind_a_token b refl).0) refl in
    let P : Bool → Bool = λ any. any || nat_lt INPUT_TOKEN (length (t ∷ ts ++ b ∷ [])) in
    ap is_whole_behind skipped ∙ ap P blank

pub is_whole-read : (blanks token : List ℕ) (behind : Option ℕ) → IsRead blanks token behind →
    is_whole (read_bytes blanks token behind) ≡ is_enough blanks token behind
is_whole-read blanks token behind read = elim (cases_lt INPUT_BLANKS (length blanks)) [
  | inl past ↦
      let test : nat_lt INPUT_BLANKS (length blanks) ≡ true = grind (arith, nat_tests) in
      rw (append_assoc blanks token (option_to_list behind)) (whole-past INPUT_BLANKS blanks (token ++ option_to_list behind) read.blanks_alone past
      ∙ sym (or-second (is_some behind) (nat_lt INPUT_BLANKS (length blanks)) (nat_lt INPUT_TOKEN (length token)) test))
  | inr few ↦ whole-few blanks token behind read few
]

-- without a token there is not enough, unless there are too many blanks
pub enough-empty : (blanks token : List ℕ) (behind : Option ℕ) → IsRead blanks token behind → length blanks ≤ INPUT_BLANKS → length token ≡ 0 →
    is_enough blanks token behind ≡ false
enough-empty blanks (t ∷ ts) behind read few none = absurd (omega arith)
enough-empty blanks [] (Some b) read few none = absurd (omega (arith, (read.behind_a_token b refl).1))
enough-empty blanks [] None read few none =
    let test : nat_lt INPUT_BLANKS (length blanks) ≡ false = grind (arith, nat_tests) in rw test refl

-- more than so many bytes are still more where others stand behind them
longer : (bytes more : List ℕ) → nat_lt INPUT_TOKEN (length bytes) ≡ true → nat_lt INPUT_TOKEN (length (bytes ++ more)) ≡ true
longer bytes more long = grind (arith, nat_tests, length-append bytes more)

-- one of two tests, with more behind what is tested
whole_behind-more : (bytes more : List ℕ) → is_whole_behind bytes ≡ true → is_whole_behind (bytes ++ more) ≡ true
whole_behind-more [] more whole = absurd (false≢true whole)
whole_behind-more (b ∷ bs) more whole = elim (or_cases (list_any is_blank (b ∷ bs)) (nat_lt INPUT_TOKEN (length (b ∷ bs))) whole) [
  | inl blank ↦
      let any : list_any is_blank (b ∷ bs ++ more) ≡ true = list_any-append is_blank (b ∷ bs) more ∙ ap (λ t. t || list_any is_blank more) blank in
      ap (λ t. t || nat_lt INPUT_TOKEN (length (b ∷ bs ++ more))) any
  | inr long ↦
      let test : nat_lt INPUT_TOKEN (length (b ∷ bs ++ more)) ≡ true = longer (b ∷ bs) more long in
      ap (λ t. list_any is_blank (b ∷ bs ++ more) || t) test ∙ or-true (list_any is_blank (b ∷ bs ++ more))
]

-- the same behind blanks that may be skipped
whole-skipped_by : (blank : Bool) (n b : ℕ) (bs more : List ℕ) →
    (is_whole_behind (skip_blanks n bs) ≡ true → is_whole_behind (skip_blanks n (bs ++ more)) ≡ true) →
    is_whole_behind (if blank then skip_blanks n bs else b ∷ bs) ≡ true →
    is_whole_behind (if blank then skip_blanks n (bs ++ more) else b ∷ bs ++ more) ≡ true
whole-skipped_by true n b bs more rest whole = rest whole
whole-skipped_by false n b bs more rest whole = whole_behind-more (b ∷ bs) more whole

whole-skipped : (n : ℕ) (bytes more : List ℕ) → is_whole_behind (skip_blanks n bytes) ≡ true →
    is_whole_behind (skip_blanks n (bytes ++ more)) ≡ true
whole-skipped zero bytes more whole = whole_behind-more bytes more whole
whole-skipped (suc n) [] more whole = absurd (false≢true whole)
whole-skipped (suc n) (b ∷ bs) more whole =
    whole-skipped_by (is_blank b) n b bs more (whole-skipped n bs more) whole

-- what says what the next number is still says it where more comes
pub is_whole-more : (bytes more : List ℕ) → is_whole bytes ≡ true → is_whole (bytes ++ more) ≡ true
is_whole-more bytes more whole = whole-skipped INPUT_BLANKS bytes more whole
