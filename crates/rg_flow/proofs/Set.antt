-- Sets of numbers as four words of 64 bits: one bit is changed, two sets are put together.
use Rattle.std.proofs.Common.{◌≡◌, ◌≢◌, ℕ, zero, suc, ◌+◌, ◌*◌, ◌-◌, ◌/◌, ◌%◌, ◌^◌, ◌<◌, ◌≤◌, ◌⊎◌, ◌↔◌, inl, inr, min, Bool, false, ◌&&◌, not, List}
use Rattle.std.proofs.Common.{[], ◌∷◌, length, get_or, set, bit_or, bit_and, refl, sym, ap, subst, ◌∙◌, nat_eq, IsTrue, true≢false, if◌then◌else◌}
use Rattle.std.proofs.Common.{arith, w64}
use Rattle.std.specs.Int.{bit_at, bit_not}
use Rattle.std.proofs.lemmas.List.{get_or-set_same, get_or-set_other, get_or_past}
use Rattle.std.proofs.lemmas.Nat.Bits.{bit_at_or, bit_at_and, bit_at_not, bit_at-zero, bit_at-lt, same_from_bits_below}
use Rattle.std.proofs.lemmas.Nat.{or_lt}
use Rattle.std.proofs.lemmas.Bool.{cases_eq, eq-eqb, eqb-true, ne_eqb}
use Rattle.rg_flow.specs.Sets.{has, SetsBit, IsWithin}

-- one word is replaced by one that differs in one bit
pub set_one : (words : List ℕ) (v word : ℕ) (bit : Bool) → v / 64 < length words → nat_eq (bit_at word (v % 64)) 1 ≡ bit
    → ((i : ℕ) → i < 64 → i ≢ v % 64 → bit_at word i ≡ bit_at (get_or words (v / 64) 0) i)
    → SetsBit words (set words (v / 64) word) v bit
set_one words v word bit inside same other w = by (cases_eq w v)
  where
    apart : (w ≢ v) → (w / 64 ≡ v / 64) ⊎ (w / 64 ≢ v / 64) → has (set words (v / 64) word) w ≡ has words w
    apart n (inl e) =
        subst (λ k. nat_eq (bit_at (get_or (set words (v / 64) word) k 0) (w % 64)) 1 ≡ nat_eq (bit_at (get_or words k 0) (w % 64)) 1) (sym e)
        (ap (λ x. nat_eq (bit_at x (w % 64)) 1) (get_or-set_same words (v / 64) word 0 inside)
        ∙ ap (λ b. nat_eq b 1) (other (w % 64) (omega arith) (λ p. n (omega arith))))
    apart n (inr far) = ap (λ x. nat_eq (bit_at x (w % 64)) 1) (get_or-set_other words (v / 64) (w / 64) word 0 far)

    by : (w ≡ v) ⊎ (w ≢ v) → has (set words (v / 64) word) w ≡ (if nat_eq w v then bit else has words w)
    by (inl e) =
        rw (eq-eqb w v e) (subst (λ u. has (set words (v / 64) word) u ≡ bit) (sym e)
        (ap (λ x. nat_eq (bit_at x (v % 64)) 1) (get_or-set_same words (v / 64) word 0 inside) ∙ same))
    by (inr n) = rw (ne_eqb w v n) (apart n (cases_eq (w / 64) (v / 64)))

min_bits : (x y : ℕ) → x < 2 → y < 2 → nat_eq (min x y) 1 ≡ (nat_eq x 1 && nat_eq y 1)
min_bits zero y l m = by y m
  where
    by : (y : ℕ) → y < 2 → nat_eq (min 0 y) 1 ≡ false
    by zero m = refl
    by (suc zero) m = refl
    by (suc (suc n)) m = absurd (omega arith)
min_bits (suc zero) zero l m = refl
min_bits (suc zero) (suc zero) l m = refl
min_bits (suc zero) (suc (suc n)) l m = absurd (omega arith)
min_bits (suc (suc n)) y l m = absurd (omega arith)

flip_bit : (y : ℕ) → y < 2 → nat_eq (1 - y) 1 ≡ not (nat_eq y 1)
flip_bit zero m = refl
flip_bit (suc zero) m = refl
flip_bit (suc (suc n)) m = absurd (omega arith)

-- a bit of what is in both of two words
and_bit : (a b i : ℕ) → nat_eq (bit_at (bit_and a b) i) 1 ≡ (nat_eq (bit_at a i) 1 && nat_eq (bit_at b i) 1)
and_bit a b i = ap (λ n. nat_eq n 1) (bit_at_and a b i) ∙ min_bits (bit_at a i) (bit_at b i) (bit_at-lt a i) (bit_at-lt b i)

-- a bit of what is in one word and not in the other
and_not_bit : (a b i : ℕ) → b < 2 ^ 64 → i < 64 →
    nat_eq (bit_at (bit_and a (bit_not w64 b)) i) 1 ≡ (nat_eq (bit_at a i) 1 && not (nat_eq (bit_at b i) 1))
and_not_bit a b i l m =
    and_bit a (bit_not w64 b) i ∙ ap (λ (t : Bool). nat_eq (bit_at a i) 1 && t)
    (ap (λ n. nat_eq n 1) (bit_at_not w64 b i l m) ∙ flip_bit (bit_at b i) (bit_at-lt b i))

-- nothing stands past the words
past : (a : List ℕ) → length a ≡ 4 → (k i : ℕ) → 4 ≤ k → nat_eq (bit_at (get_or a k 0) i) 1 ≡ false
past a e k i l = ap (λ n. nat_eq (bit_at n i) 1) (get_or_past a k 0 (rw e l)) ∙ ap (λ n. nat_eq n 1) (bit_at-zero i)

-- what is in both of two sets
pub both_sets : (a b : List ℕ) → length a ≡ 4 → (v : ℕ)
    → has (bit_and (get_or a 0 0) (get_or b 0 0) ∷ bit_and (get_or a 1 0) (get_or b 1 0) ∷ bit_and (get_or a 2 0) (get_or b 2 0) ∷ bit_and
    (get_or a 3 0) (get_or b 3 0) ∷ []) v
    ≡ (has a v && has b v)
both_sets a b e v = by (v / 64)
  where
    by : (k : ℕ)
        → nat_eq (bit_at (get_or (bit_and (get_or a 0 0) (get_or b 0 0) ∷ bit_and (get_or a 1 0) (get_or b 1 0) ∷ bit_and (get_or a 2 0)
        (get_or b 2 0) ∷ bit_and (get_or a 3 0) (get_or b 3 0) ∷ []) k 0) (v % 64)) 1
        ≡ (nat_eq (bit_at (get_or a k 0) (v % 64)) 1 && nat_eq (bit_at (get_or b k 0) (v % 64)) 1)
    by zero = and_bit (get_or a 0 0) (get_or b 0 0) (v % 64)
    by (suc zero) = and_bit (get_or a 1 0) (get_or b 1 0) (v % 64)
    by (suc (suc zero)) = and_bit (get_or a 2 0) (get_or b 2 0) (v % 64)
    by (suc (suc (suc zero))) = and_bit (get_or a 3 0) (get_or b 3 0) (v % 64)
    by (suc (suc (suc (suc k)))) =
        ap (λ n. nat_eq n 1) (bit_at-zero (v % 64))
        ∙ sym (ap (λ (t : Bool). t && nat_eq (bit_at (get_or b (suc (suc (suc (suc k)))) 0) (v % 64)) 1)
        (past a e (suc (suc (suc (suc k)))) (v % 64) (omega arith)))

-- what is in one set and not in the other
pub without_sets : (a b : List ℕ) → length a ≡ 4 → get_or b 0 0 < 2 ^ 64 → get_or b 1 0 < 2 ^ 64 → get_or b 2 0 < 2 ^ 64 → get_or b 3 0 < 2 ^ 64 →
    (v : ℕ)
    → has (bit_and (get_or a 0 0) (bit_not w64 (get_or b 0 0)) ∷ bit_and (get_or a 1 0) (bit_not w64 (get_or b 1 0)) ∷ bit_and (get_or a 2 0)
    (bit_not w64 (get_or b 2 0)) ∷ bit_and (get_or a 3 0) (bit_not w64 (get_or b 3 0)) ∷ []) v
    ≡ (has a v && not (has b v))
without_sets a b e l0 l1 l2 l3 v = by (v / 64)
  where
    by : (k : ℕ)
        → nat_eq (bit_at (get_or (bit_and (get_or a 0 0) (bit_not w64 (get_or b 0 0)) ∷ bit_and (get_or a 1 0) (bit_not w64 (get_or b 1 0)) ∷
        bit_and (get_or a 2 0) (bit_not w64 (get_or b 2 0)) ∷ bit_and (get_or a 3 0) (bit_not w64 (get_or b 3 0)) ∷ []) k 0) (v % 64)) 1
        ≡ (nat_eq (bit_at (get_or a k 0) (v % 64)) 1 && not (nat_eq (bit_at (get_or b k 0) (v % 64)) 1))
    by zero = and_not_bit (get_or a 0 0) (get_or b 0 0) (v % 64) l0 (omega arith)
    by (suc zero) = and_not_bit (get_or a 1 0) (get_or b 1 0) (v % 64) l1 (omega arith)
    by (suc (suc zero)) = and_not_bit (get_or a 2 0) (get_or b 2 0) (v % 64) l2 (omega arith)
    by (suc (suc (suc zero))) = and_not_bit (get_or a 3 0) (get_or b 3 0) (v % 64) l3 (omega arith)
    by (suc (suc (suc (suc k)))) =
        ap (λ n. nat_eq n 1) (bit_at-zero (v % 64))
        ∙ sym (ap (λ (t : Bool). t && not (nat_eq (bit_at (get_or b (suc (suc (suc (suc k)))) 0) (v % 64)) 1))
        (past a e (suc (suc (suc (suc k)))) (v % 64) (omega arith)))

-- each bit of one word is in the other
abbrev pub WordWithin : ℕ → ℕ → Type 0
WordWithin a b = (i : ℕ) → i < 64 → bit_at a i ≤ bit_at b i

word_within : (a b : ℕ) → a < 2 ^ 64 → b < 2 ^ 64 → (bit_or a b ≡ b) ↔ WordWithin a b
word_within a b p q = (
  λ e i l. omega (arith, bit_at_or a b i, ap (λ n. bit_at n i) e),
  λ h. same_from_bits_below 64 (bit_or a b) b (or_lt 64 a b p q) q (λ i l. omega (arith, bit_at_or a b i, h i l)),
)

le_bits : (x y : ℕ) → y < 2 → x ≤ y → IsTrue (nat_eq x 1) → IsTrue (nat_eq y 1)
le_bits x y m l t = let e : x ≡ 1 = eqb-true x 1 t in eq-eqb y 1 (omega arith)

bits_le : (x y : ℕ) → x < 2 → (IsTrue (nat_eq x 1) → IsTrue (nat_eq y 1)) → x ≤ y
bits_le zero y m f = omega arith
bits_le (suc zero) y m f = let e : y ≡ 1 = eqb-true y 1 (f refl) in omega arith
bits_le (suc (suc n)) y m f = absurd (omega arith)

-- a set lies in another where each word does
all_words : (a b : List ℕ) → length a ≡ 4 → WordWithin (get_or a 0 0) (get_or b 0 0) → WordWithin (get_or a 1 0) (get_or b 1 0)
    → WordWithin (get_or a 2 0) (get_or b 2 0) → WordWithin (get_or a 3 0) (get_or b 3 0) → IsWithin a b
all_words a b e h0 h1 h2 h3 v = by (v / 64)
  where
    by : (k : ℕ) → IsTrue (nat_eq (bit_at (get_or a k 0) (v % 64)) 1) → IsTrue (nat_eq (bit_at (get_or b k 0) (v % 64)) 1)
    by zero = le_bits (bit_at (get_or a 0 0) (v % 64)) (bit_at (get_or b 0 0) (v % 64)) (bit_at-lt (get_or b 0 0) (v % 64))
        (h0 (v % 64) (omega arith))
    by (suc zero) = le_bits (bit_at (get_or a 1 0) (v % 64)) (bit_at (get_or b 1 0) (v % 64)) (bit_at-lt (get_or b 1 0) (v % 64))
        (h1 (v % 64) (omega arith))
    by (suc (suc zero)) = le_bits (bit_at (get_or a 2 0) (v % 64)) (bit_at (get_or b 2 0) (v % 64)) (bit_at-lt (get_or b 2 0) (v % 64))
        (h2 (v % 64) (omega arith))
    by (suc (suc (suc zero))) = le_bits (bit_at (get_or a 3 0) (v % 64)) (bit_at (get_or b 3 0) (v % 64)) (bit_at-lt (get_or b 3 0) (v % 64))
        (h3 (v % 64) (omega arith))
    by (suc (suc (suc (suc k)))) = λ t. absurd (true≢false (sym t ∙ past a e (suc (suc (suc (suc k)))) (v % 64) (omega arith)))

one_word : (a b : List ℕ) → IsWithin a b → (k : ℕ) → k < 4 → WordWithin (get_or a k 0) (get_or b k 0)
one_word a b h k l i m =
    let word : (64 * k + i) / 64 ≡ k = omega arith in
    let bit : (64 * k + i) % 64 ≡ i = omega arith in
    bits_le (bit_at (get_or a k 0) i) (bit_at (get_or b k 0) i) (bit_at-lt (get_or a k 0) i)
    (subst (λ j. IsTrue (nat_eq (bit_at (get_or a j 0) i) 1) → IsTrue (nat_eq (bit_at (get_or b j 0) i) 1)) word
    (subst (λ j. IsTrue (nat_eq (bit_at (get_or a ((64 * k + i) / 64) 0) j) 1) → IsTrue (nat_eq (bit_at (get_or b ((64 * k + i) / 64) 0) j) 1)) bit
    (h (64 * k + i))))

-- a word that adds something shows that a set does not lie in another
pub not_within : (a b : List ℕ) (k : ℕ) → k < 4 → get_or a k 0 < 2 ^ 64 → get_or b k 0 < 2 ^ 64
    → bit_or (get_or a k 0) (get_or b k 0) ≢ get_or b k 0 → IsTrue false ↔ IsWithin a b
not_within a b k l p q n = (
  λ t. absurd (true≢false (sym t)),
  λ h. absurd
      (n ((word_within (get_or a k 0) (get_or b k 0) p q).1 (one_word a b h k l))),
)

-- where three words add nothing, the fourth decides
module _ (a b : List ℕ) (e : length a ≡ 4) (a0 : get_or a 0 0 < 2 ^ 64) (a1 : get_or a 1 0 < 2 ^ 64) (a2 : get_or a 2 0 < 2 ^ 64)
    (a3 : get_or a 3 0 < 2 ^ 64)
    (b0 : get_or b 0 0 < 2 ^ 64) (b1 : get_or b 1 0 < 2 ^ 64) (b2 : get_or b 2 0 < 2 ^ 64) (b3 : get_or b 3 0 < 2 ^ 64) where
  pub within_by_words : bit_or (get_or a 0 0) (get_or b 0 0) ≡ get_or b 0 0 → bit_or (get_or a 1 0) (get_or b 1 0) ≡ get_or b 1 0
      → bit_or (get_or a 2 0) (get_or b 2 0) ≡ get_or b 2 0 → IsTrue (nat_eq (bit_or (get_or a 3 0) (get_or b 3 0)) (get_or b 3 0)) ↔ IsWithin a b
  within_by_words e0 e1 e2 = (
    λ t. all_words a b e ((word_within (get_or a 0 0) (get_or b 0 0) a0 b0).0 e0) ((word_within (get_or a 1 0) (get_or b 1 0) a1 b1).0 e1)
        ((word_within (get_or a 2 0) (get_or b 2 0) a2 b2).0 e2) ((word_within (get_or a 3 0) (get_or b 3 0) a3 b3).0 (eqb-true _ _ t)),
    λ h. eq-eqb _ _ ((word_within (get_or a 3 0) (get_or b 3 0) a3 b3).1 (one_word a b h 3 (omega arith))),
  )
