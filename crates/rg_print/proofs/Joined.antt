-- Texts with a comma and one blank between, one after another.
use Rattle.std.proofs.Common.{◌≡◌, ℕ, zero, suc, ◌+◌, ◌<◌, List, [], ◌∷◌, ◌++◌, length, get_or, drop, codes, refl, ap, ◌∙◌, append_assoc, append-nil}
use Rattle.std.proofs.Common.{drop-cons, arith}
use Rattle.std.specs.Prelude.{flat_map}
use Rattle.rg_tree.specs.Canonical.{joined}

-- what is left of the texts behind so many of them
abbrev pub joined_behind : ℕ → List (List ℕ) → List ℕ
joined_behind zero texts = joined texts
joined_behind (suc n) texts = flat_map (λ x. codes ", " ++ x) texts

joined-cons : (x : List ℕ) (texts : List (List ℕ)) → joined (x ∷ texts) ≡ x ++ joined_behind 1 texts
joined-cons x [] = rw append-nil refl
joined-cons x (y ∷ texts) = rw (joined-cons y texts, append_assoc, append_assoc) refl

-- the texts of numbers, one by one
module _ (texts : List ℕ → List (List ℕ)) (text : ℕ → List ℕ) (cons : (k : ℕ) (ks : List ℕ) → texts (k ∷ ks) ≡ text k ∷ texts ks) where
  -- the first one is written, with nothing in front of it
  pub joined_behind-first : (i : ℕ) (ks out all mid new : List ℕ) → i < length ks → i ≡ 0 → out ++ joined_behind i (texts (drop i ks)) ≡ all
      → mid ≡ out → new ≡ mid ++ text (get_or ks i 0) → new ++ joined_behind (i + 1) (texts (drop (i + 1) ks)) ≡ all
  joined_behind-first zero ks out all mid new l z h m n =
      let e : texts ks ≡ text (get_or ks 0 0) ∷ texts (drop 1 ks) = ap texts (drop-cons ks 0 0 l) ∙ cons (get_or ks 0 0) (drop 1 ks) in
      let r : joined (texts ks) ≡ text (get_or ks 0 0) ++ joined_behind 1 (texts (drop 1 ks)) =
      ap joined e ∙ joined-cons (text (get_or ks 0 0)) (texts (drop 1 ks)) in
      rw (n, m) (append_assoc out (text (get_or ks 0 0)) _ ∙ (rw r at h))
  joined_behind-first (suc i) ks out all mid new l z h m e = absurd (omega arith)

  -- a further one
  pub joined_behind-further : (i : ℕ) (ks out all mid new : List ℕ) → i < length ks → 0 < i → out ++ joined_behind i (texts (drop i ks)) ≡ all
      → mid ≡ out ++ codes ", " → new ≡ mid ++ text (get_or ks i 0) → new ++ joined_behind (i + 1) (texts (drop (i + 1) ks)) ≡ all
  joined_behind-further zero ks out all mid new l z h m e = absurd (omega arith)
  joined_behind-further (suc i) ks out all mid new l z h m e =
      let s : suc i + 1 ≡ suc (suc i) = omega arith in
      let r : texts (drop (suc i) ks) ≡ text (get_or ks (suc i) 0) ∷ texts (drop (suc (suc i)) ks) =
      ap texts (drop-cons ks (suc i) 0 l) ∙ cons (get_or ks (suc i) 0) (drop (suc (suc i)) ks) in
      rw (s, e, m) (simp append_assoc (rw r at h))

-- a list in parentheses behind what stands in front of it
pub listed-behind : (out mid new a b c d e f g : List ℕ) → mid ≡ out ++ (a ++ b ++ c ++ d) → new ≡ mid ++ e ++ f ++ g
    → new ≡ out ++ (a ++ b ++ c ++ d ++ e ++ f ++ g)
listed-behind out mid new a b c d e f g m n = rw (n, m) (simp append_assoc)
