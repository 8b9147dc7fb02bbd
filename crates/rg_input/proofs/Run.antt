-- Runs of bytes of one kind, behind what was read.
use Rattle.std.proofs.Common.{◌≡◌, ℕ, ◌<◌, ◌≤◌, Bool, true, false, not, List, [], ◌∷◌, ◌++◌, length, take, Option, Some, arith, refl, sym, ◌∙◌, ap}
use Rattle.std.proofs.Common.{slice_index_or, slice_index, length-append, zero, suc, ◌+◌, ◌||◌, subst, nat_lt, is_some}
use Rattle.std.proofs.lemmas.Bool.Decides.{nat_tests}
use Rattle.rg_base.specs.declared.limits.TheConstants.{INPUT_BLANKS, INPUT_TOKEN}
use Rattle.std.specs.List.{list_all, prefix_len}
use Rattle.std.proofs.lemmas.List.Folds.{list_all-append, length-prefix_len}
use Rattle.std.proofs.lemmas.List.Sums.{prefix_len_stops}
use Rattle.rg_base.proofs.Fronts.{list_all-run}
use Rattle.rg_base.specs.Pieces.{is_blank}
use Rattle.rg_input.specs.Read.{is_in_token, IsRead, is_enough}

-- a run behind bytes of its kind
all-behind : (test : ℕ → Bool) (old new bytes : List ℕ) (n : ℕ) → list_all test old ≡ true → n ≡ prefix_len test bytes →
    new ≡ old ++ take n bytes → list_all test new ≡ true
all-behind test old new bytes n all run is = rw (is, run, list_all-append test old (take (prefix_len test bytes) bytes), all)
    (list_all-run test bytes)

-- blanks behind blanks
pub IsRead-blanks : (blanks new token bytes : List ℕ) (behind : Option ℕ) (n : ℕ) → IsRead blanks token behind →
    n ≡ prefix_len is_blank bytes → new ≡ blanks ++ take n bytes → IsRead new token behind
IsRead-blanks blanks new token bytes behind n read run is = record {
  blanks_alone = all-behind is_blank blanks new bytes n read.blanks_alone run is;
  no_blank = read.no_blank;
  behind_a_token = read.behind_a_token;
}

-- bytes of a token behind a token
pub IsRead-token : (blanks token new bytes : List ℕ) (behind : Option ℕ) (n : ℕ) → IsRead blanks token behind →
    n ≡ prefix_len is_in_token bytes → new ≡ token ++ take n bytes → IsRead blanks new behind
IsRead-token blanks token new bytes behind n read run is = record {
  blanks_alone = read.blanks_alone;
  no_blank = all-behind is_in_token token new bytes n read.no_blank run is;
  behind_a_token = λ b here.
      let longer : length new ≡ length token + length (take n bytes) = ap length is ∙ length-append token (take n bytes) in
      ((read.behind_a_token b here).0, omega (arith, longer, (read.behind_a_token b here).1));
}

-- what isn't in a token is a blank
not-inside : (b : ℕ) → is_in_token b ≡ false → is_blank b ≡ true
not-inside b out = twice (is_blank b) out
  where
    twice : (t : Bool) → not t ≡ false → t ≡ true
    twice true out = refl
    twice false out = sym out

-- the blank behind a token
pub IsRead-behind : (blanks token bytes : List ℕ) (behind : Option ℕ) (n : ℕ) → IsRead blanks token behind → 0 < length token →
    n ≡ prefix_len is_in_token bytes → n < length bytes → IsRead blanks token (Some (slice_index_or bytes n 0))
IsRead-behind blanks token bytes behind n read some run within = record {
  blanks_alone = read.blanks_alone;
  no_blank = read.no_blank;
  behind_a_token = λ b here. (
    ap is_blank (sym (Some-same here)) ∙ not-inside (slice_index_or bytes n 0)
        (ap (λ k. is_in_token (slice_index_or bytes k 0)) run ∙ prefix_len_stops is_in_token bytes 0 (omega (arith, run))),
    some,
  );
}
  where
    Some-same : {a b : ℕ} → Some a ≡ Some b → a ≡ b
    Some-same e = cc

-- a run whose first byte is of its kind has a byte
run-some : (test : ℕ → Bool) (room : ℕ) (bytes : List ℕ) → 0 < room → 0 < length bytes → test (slice_index bytes 0) ≡ true →
    0 < prefix_len test (take room bytes)
run-some test zero bytes fits some passes = absurd (omega arith)
run-some test (suc room) [] fits some passes = absurd (omega arith)
run-some test (suc room) (b ∷ bs) fits some passes = rw passes (omega arith)

-- a token has a byte
pub token-some : (token new bytes front : List ℕ) (room n : ℕ) → 0 < room → 0 < length bytes →
    (token ≡ [] → is_blank (slice_index bytes 0) ≡ false) → front ≡ take room bytes → n ≡ prefix_len is_in_token front →
    new ≡ token ++ take n front → 0 < length new
token-some [] new bytes front room n fits some inside first run is =
    let long : length new ≡ n = ap length is ∙ ap (λ k. length (take k front)) run ∙ length-prefix_len is_in_token front ∙ sym run in
    let more : 0 < prefix_len is_in_token front =
    subst (λ f. 0 < prefix_len is_in_token f) (sym first) (run-some is_in_token room bytes fits some (ap not (inside refl))) in
    omega (arith, long, run, more)
token-some (t ∷ ts) new bytes front room n fits some inside first run is =
    let long : length new ≡ suc (length (ts ++ take n front)) = ap length is in omega (arith, long)

-- there is room for a token's byte
third-false : (a b c : Bool) → (a || b || c) ≡ false → c ≡ false
third-false a b true e = sym (or-true (a || b)) ∙ e
  where
    or-true : (t : Bool) → (t || true) ≡ true
    or-true true = refl
    or-true false = refl
third-false a b false e = refl

pub short-token : (blanks token : List ℕ) (behind : Option ℕ) → is_enough blanks token behind ≡ false → length token ≤ INPUT_TOKEN
short-token blanks token behind short =
    let test : nat_lt INPUT_TOKEN (length token) ≡ false =
    third-false (is_some behind) (nat_lt INPUT_BLANKS (length blanks)) (nat_lt INPUT_TOKEN (length token)) short in
    grind (arith, nat_tests)
