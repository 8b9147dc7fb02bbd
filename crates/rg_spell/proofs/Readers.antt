-- What is read from the front is what was spelled, and what is spelled is read: the form of the two laws of each part, and numbers.
use Rattle.std.proofs.Common.{◌≡◌, ℕ, ℤ, zero, suc, ◌+◌, ◌^◌, ◌<◌, ◌≤◌, ◌⊎◌, Bool, true, false, cond, ltb, eqb, List, [], ◌∷◌, ◌++◌, length}
use Rattle.std.proofs.Common.{take, drop}
use Rattle.std.proofs.Common.{Option, Some, None, refl, sym, ap, subst, ◌∙◌, append_assoc, arith, inl, inr}
use Rattle.std.specs.Int.{Width, w32, w64, byte_len, from_be_bytes, to_be_bytes, cast_unsigned, cast_signed}
use Rattle.std.specs.Int.RustNames.{FitsSigned}
use Rattle.std.specs.List.{flat_map, AllByRecursion}
use Rattle.std.proofs.lemmas.Bool.{cases_lt, ltb-false, le-ltb, eqb-true}
use Rattle.std.proofs.lemmas.List.{take_at, drop_at, take-append-drop, length-append, length-take, get_or-drop, get_or-take, get_or_past}
use Rattle.std.proofs.lemmas.Nat.{be_bytes_4, be_bytes_8, from_be_bytes-to_be_bytes_4, from_be_bytes-to_be_bytes_8}
use Rattle.std.proofs.lemmas.Int.{to_z-of_z, of_z-to_z, ints}
use Rattle.std.proofs.Math.Facts.{sfits_to_z}
use Rattle.rg_spell.specs.Spelling.{four, eight, signed, counted, Counted}
use Rattle.rg_spell.specs.Laws.{IsBytes, Takes, Reads}
use Rattle.rg_spell.specs.Reading.{◌>>=◌, number_at, signed_at, slot_at, byte_at, many_at, counted_at}

pub IsBytes-drop : (n : ℕ) (bytes : List ℕ) → IsBytes bytes → IsBytes (drop n bytes)
IsBytes-drop n bytes h i = rw get_or-drop (h (n + i))

IsBytes-take : (n : ℕ) (bytes : List ℕ) → IsBytes bytes → IsBytes (take n bytes)
IsBytes-take n bytes h i =
    elim (cases_lt i n) [
      | inl lt ↦ rw (get_or-take n bytes i 0 lt) (h i)
      | inr le ↦ rw (get_or_past (take n bytes) i 0 (omega (arith, length-take n bytes))) (omega arith)
    ]

pub IsBytes-rest : (b : ℕ) (bytes : List ℕ) → IsBytes (b ∷ bytes) → IsBytes bytes
IsBytes-rest b bytes h i = h (suc i)

-- what came of a step that gave something
pub bind_some : {A B : Type 0} (r : Option A) (f : A → Option B) (y : B) → (r >>= f) ≡ Some y → (x : A) × (r ≡ Some x) × (f x ≡ Some y)
bind_some (Some x) f y e = (x, refl, e)
bind_some None f y e = absurd cc

pub guard_some : {A : Type 0} (b : Bool) (x y : A) → cond b None (Some x) ≡ Some y → (b ≡ false) × (x ≡ y)
guard_some true x y e = absurd cc
guard_some false x y e = (refl, cc)

pub some_is : {A : Type 0} (x y : A) → Some x ≡ Some y → x ≡ y
some_is x y e = cc

-- which way a test went
pub pick : {A : Type 0} (n k : ℕ) (x : A) (others : Option A) (y : A) → cond (eqb n k) (Some x) others ≡ Some y → ((n ≡ k) × (x ≡ y))
    ⊎ (others ≡ Some y)
pick n k x others y = pick_by (eqb n k) refl
  where
    pick_by : (b : Bool) → eqb n k ≡ b → cond b (Some x) others ≡ Some y → ((n ≡ k) × (x ≡ y)) ⊎ (others ≡ Some y)
    pick_by true t e = inl (eqb-true n k t, some_is x y e)
    pick_by false t e = inr e

pub Takes-then : (a x b y c : List ℕ) → Takes a x b → Takes b y c → Takes a (x ++ y) c
Takes-then a x b y c p q = record { parts = p.parts ∙ ap (λ (t : List ℕ). x ++ t) q.parts ∙ sym (append_assoc x y c); rest_fits = q.rest_fits }

-- Numbers

pub record IsWide (w : Width) (limit : ℕ) : Type 0 where
  pub len : (n : ℕ) → length (to_be_bytes w n) ≡ byte_len w
  pub back : (bytes : List ℕ) → length bytes ≡ byte_len w → IsBytes bytes → to_be_bytes w (from_be_bytes w bytes) ≡ bytes
  pub again : (n : ℕ) → n < limit → from_be_bytes w (to_be_bytes w n) ≡ n
  pub below : (bytes : List ℕ) → IsBytes bytes → from_be_bytes w bytes < limit

wide32 : IsWide w32 (2 ^ 32)
wide32 = record {
  len = λ n. refl;
  back = λ bytes len fits. be_bytes_4 bytes _ len fits refl;
  again = λ n lt. from_be_bytes-to_be_bytes_4 n lt;
  below = λ bytes fits. omega (arith, fits 0, fits 1, fits 2, fits 3);
}

wide64 : IsWide w64 (2 ^ 64)
wide64 = record {
  len = λ n. refl;
  back = λ bytes len fits. be_bytes_8 bytes _ len fits refl;
  again = λ n lt. from_be_bytes-to_be_bytes_8 n lt;
  below = λ bytes fits. omega (arith, fits 0, fits 1, fits 2, fits 3, fits 4, fits 5, fits 6, fits 7);
}

number_takes : (w : Width) (limit : ℕ) (wide : IsWide w limit) (bytes : List ℕ) (n : ℕ) (rest : List ℕ) → IsBytes bytes → number_at w bytes
    ≡ Some (n, rest)
    → Takes bytes (to_be_bytes w n) rest × (n < limit)
number_takes w limit wide bytes n rest fits e =
    let g = guard_some (ltb (length bytes) (byte_len w)) (from_be_bytes w (take (byte_len w) bytes), drop (byte_len w) bytes) (n, rest) e in
    let long : byte_len w ≤ length bytes = ltb-false _ _ g.0 in
    let n-is : from_be_bytes w (take (byte_len w) bytes) ≡ n = ap (λ (p : ℕ × List ℕ). p.0) g.1 in
    let rest-is : drop (byte_len w) bytes ≡ rest = ap (λ (p : ℕ × List ℕ). p.1) g.1 in
    let front : to_be_bytes w n ≡ take (byte_len w) bytes =
    rw (← n-is) (wide.back (take (byte_len w) bytes) (omega (arith, length-take (byte_len w) bytes)) (IsBytes-take (byte_len w) bytes fits)) in (
      record {
        parts = rw (front, ← rest-is) (sym (take-append-drop (byte_len w) bytes));
        rest_fits = rw (← rest-is)
            (IsBytes-drop (byte_len w) bytes fits);
      },
      rw (← n-is) (wide.below (take (byte_len w) bytes) (IsBytes-take (byte_len w) bytes fits)),
    )

number_again : (w : Width) (limit : ℕ) (wide : IsWide w limit) (n : ℕ) (rest : List ℕ) → n < limit → number_at w (to_be_bytes w n ++ rest)
    ≡ Some (n, rest)
number_again w limit wide n rest lt =
    let len = wide.len n in
    let long : ltb (length (to_be_bytes w n ++ rest)) (byte_len w) ≡ false = le-ltb _ _ (omega (arith, length-append (to_be_bytes w n) rest)) in
    rw (long, take_at (to_be_bytes w n) rest (byte_len w) len, drop_at (to_be_bytes w n) rest (byte_len w) len, wide.again n lt) refl

pub reads_four : Reads (number_at w32) four (λ n. n < 2 ^ 32)
reads_four = record {
  takes = λ bytes x fits e. number_takes w32 (2 ^ 32) wide32 bytes x.0 x.1 fits e;
  again = λ n rest lt. number_again w32 (2 ^ 32) wide32 n rest lt;
}

pub reads_eight : Reads (number_at w64) eight (λ n. n < 2 ^ 64)
reads_eight = record {
  takes = λ bytes x fits e. number_takes w64 (2 ^ 64) wide64 bytes x.0 x.1 fits e;
  again = λ n rest lt. number_again w64 (2 ^ 64) wide64 n rest lt;
}

signed_takes : (bytes : List ℕ) (x : ℤ × List ℕ) → IsBytes bytes → signed_at bytes ≡ Some x → Takes bytes (signed x.0) x.1 × FitsSigned w64 x.0
unfolding signed_at
signed_takes bytes x fits e =
    let b = bind_some (number_at w64 bytes) (λ n. Some (cast_signed w64 n.0, n.1)) x e in
    let t = reads_eight.takes bytes b.0 fits b.1 in
    let same : eight (cast_unsigned w64 (cast_signed w64 b.0.0)) ≡ eight b.0.0 = ap eight (of_z-to_z w64 b.0.0 t.1) in
    let text : Takes bytes (signed (cast_signed w64 b.0.0)) b.0.1 = subst (λ (y : List ℕ). Takes bytes y b.0.1) (sym same) t.0 in
    let made : ℤ × List ℕ = (cast_signed w64 b.0.0, b.0.1) in
    subst (λ (y : ℤ × List ℕ). Takes bytes (signed y.0) y.1 × FitsSigned w64 y.0) (some_is made x b.2) (text, fits_cast b.0.0 t.1)
  where
    fits_cast : (n : ℕ) → n < 2 ^ 64 → FitsSigned w64 (cast_signed w64 n)
    fits_cast n lt = sfits_to_z (record { fits = lt })

signed_again : (z : ℤ) (rest : List ℕ) → FitsSigned w64 z → signed_at (signed z ++ rest) ≡ Some (z, rest)
unfolding signed_at
signed_again z rest fits =
    let lt : cast_unsigned w64 z < 2 ^ 64 = omega (arith, ints, fits) in
    ap (λ r. r >>= λ n. Some (cast_signed w64 n.0, n.1)) (reads_eight.again (cast_unsigned w64 z) rest lt)
    ∙ ap (λ (y : ℤ). Some (y, rest)) (to_z-of_z w64 z fits)

pub reads_signed : Reads signed_at signed (FitsSigned w64)
reads_signed = record { takes = signed_takes; again = signed_again }

slot_takes : (bytes : List ℕ) (x : ℕ × List ℕ) → IsBytes bytes → slot_at bytes ≡ Some x → Takes bytes (four x.0) x.1 × (x.0 ≤ 256)
unfolding slot_at
slot_takes bytes x fits e =
    let b = bind_some (number_at w32 bytes) (λ n. cond (ltb 256 n.0) None (Some n)) x e in
    let t = reads_four.takes bytes b.0 fits b.1 in
    let g = guard_some (ltb 256 b.0.0) b.0 x b.2 in
    subst (λ (y : ℕ × List ℕ). Takes bytes (four y.0) y.1 × (y.0 ≤ 256)) g.1 (t.0, ltb-false _ _ g.0)

slot_again : (s : ℕ) (rest : List ℕ) → s ≤ 256 → slot_at (four s ++ rest) ≡ Some (s, rest)
unfolding slot_at
slot_again s rest le =
    ap (λ r. r >>= λ (n : ℕ × List ℕ). cond (ltb 256 n.0) None (Some n)) (reads_four.again s rest (omega (arith, le)))
    ∙ ap (λ (b : Bool). cond b None (Some (s, rest))) (le-ltb 256 s le)

pub reads_slot : Reads slot_at four (λ s. s ≤ 256)
reads_slot = record { takes = slot_takes; again = slot_again }

-- a byte that stands for something
pub reads_byte : {A : Type 0} (of : ℕ → Option A) (number : A → ℕ) → ((n : ℕ) (x : A) → of n ≡ Some x → n ≡ number x)
    → ((x : A) → of (number x) ≡ Some x)
    → Reads (λ bytes. byte_at bytes >>= λ n. of n.0 >>= λ x. Some (x, n.1)) (λ x. number x ∷ []) (λ x. Unit {0})
reads_byte {A} of number is again = record {
  takes = λ bytes x fits e. byte_takes bytes x fits e;
  again = λ x rest fits. ap (λ r. r >>= λ y. Some (y, rest)) (again x);
}
  where
    byte_takes : (bytes : List ℕ) (x : A × List ℕ) → IsBytes bytes → (byte_at bytes >>= λ n. of n.0 >>= λ y. Some (y, n.1)) ≡ Some x
        → Takes bytes (number x.0 ∷ []) x.1 × Unit {0}
    byte_takes [] x fits e = absurd cc
    byte_takes (n ∷ bytes) x fits e =
        let b = bind_some (of n) (λ y. Some (y, bytes)) x e in
        let made : A × List ℕ = (b.0, bytes) in
        subst (λ (y : A × List ℕ). Takes (n ∷ bytes) (number y.0 ∷ []) y.1 × Unit {0}) (some_is made x b.2)
        (record { parts = ap (λ (k : ℕ). k ∷ bytes) (is n b.0 b.1); rest_fits = IsBytes-rest n bytes fits }, tt)

-- Many parts

module _ {A : Type 0} {reader : List ℕ → Option (A × List ℕ)} {text : A → List ℕ} {Fits : A → Type 0} (one : Reads reader text Fits) where
  pub many_take : (n : ℕ) (bytes : List ℕ) (x : List A × List ℕ) → IsBytes bytes → many_at reader n bytes ≡ Some x
      → Takes bytes (flat_map text x.0) x.1 × (length x.0 ≡ n) × AllByRecursion Fits x.0
  unfolding many_at
  many_take zero bytes x fits e =
      let made : List A × List ℕ = ([], bytes) in
      subst (λ (y : List A × List ℕ). Takes bytes (flat_map text y.0) y.1 × (length y.0 ≡ 0) × AllByRecursion Fits y.0) (some_is made x e)
      (record { parts = refl; rest_fits = fits }, refl, tt)
  many_take (suc n) bytes x fits e =
      let a = bind_some (reader bytes) (λ first. many_at reader n first.1 >>= λ others. Some (first.0 ∷ others.0, others.1)) x e in
      let b = bind_some (many_at reader n a.0.1) (λ others. Some (a.0.0 ∷ others.0, others.1)) x a.2 in
      let first = one.takes bytes a.0 fits a.1 in
      let second = many_take n a.0.1 b.0 first.0.rest_fits b.1 in
      let both = Takes-then bytes (text a.0.0) a.0.1 (flat_map text b.0.0) b.0.1 first.0 second.0 in
      let made : List A × List ℕ = (a.0.0 ∷ b.0.0, b.0.1) in
      subst (λ (y : List A × List ℕ). Takes bytes (flat_map text y.0) y.1 × (length y.0 ≡ suc n) × AllByRecursion Fits y.0) (some_is made x b.2)
      (both, ap suc second.1, (first.1, second.2))

  pub many_again : (xs : List A) (rest : List ℕ) → AllByRecursion Fits xs → many_at reader (length xs) (flat_map text xs ++ rest) ≡ Some (xs, rest)
  unfolding many_at
  many_again [] rest fits = refl
  many_again (x ∷ xs) rest fits =
      let regrouped : flat_map text (x ∷ xs) ++ rest ≡ text x ++ (flat_map text xs ++ rest) = append_assoc (text x) (flat_map text xs) rest in
      ap (many_at reader (suc (length xs))) regrouped
      ∙ ap (λ r. r >>= λ first. many_at reader (length xs) first.1 >>= λ others. Some (first.0 ∷ others.0, others.1))
      (one.again x (flat_map text xs ++ rest) fits.0)
      ∙ ap (λ r. r >>= λ (others : List A × List ℕ). Some (x ∷ others.0, others.1)) (many_again xs rest fits.1)

  counted_takes : (bytes : List ℕ) (x : List A × List ℕ) → IsBytes bytes → counted_at reader bytes ≡ Some x → Takes bytes (counted text x.0) x.1
      × Counted Fits x.0
  unfolding counted_at
  counted_takes bytes x fits e =
      let a = bind_some (number_at w32 bytes) (λ n. many_at reader n.0 n.1) x e in
      let first = reads_four.takes bytes a.0 fits a.1 in
      let second = many_take a.0.0 a.0.1 x first.0.rest_fits a.2 in
      let both = Takes-then bytes (four a.0.0) a.0.1 (flat_map text x.0) x.1 first.0 second.0 in (
        subst (λ (k : ℕ). Takes bytes (four k ++ flat_map text x.0) x.1) (sym second.1) both,
        (subst (λ (k : ℕ). k < 2 ^ 32) (sym second.1) first.1, second.2),
      )

  counted_again : (xs : List A) (rest : List ℕ) → Counted Fits xs → counted_at reader (counted text xs ++ rest) ≡ Some (xs, rest)
  unfolding counted_at
  counted_again xs rest fits =
      let regrouped : counted text xs ++ rest ≡ four (length xs) ++ (flat_map text xs ++ rest) = append_assoc (four (length xs))
      (flat_map text xs) rest in
      ap (counted_at reader) regrouped
      ∙ ap (λ r. r >>= λ (n : ℕ × List ℕ). many_at reader n.0 n.1) (reads_four.again (length xs) (flat_map text xs ++ rest) fits.0)
      ∙ many_again xs rest fits.1

  pub reads_counted : Reads (counted_at reader) (counted text) (Counted Fits)
  reads_counted = record { takes = counted_takes; again = counted_again }
