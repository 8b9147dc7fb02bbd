-- A table of texts, searched among those of the right length.
use Rattle.std.proofs.Common.{◌≡◌, ℕ, ◌≤◌, ◌==◌, nat_le, Bool, true, false, ◌&&◌, cond, List, [], ◌∷◌, length, filter, None, refl, ap, arith}
use Rattle.std.specs.Prelude.{bytes_eq}
use Rattle.std.specs.List.{list_all}
use Rattle.std.proofs.lemmas.Bool.Decides.{nat_tests}
use Rattle.std.proofs.lemmas.Slice.Eq.{bytes_eq-Decides}
use Rattle.rg_base.specs.declared.words.Keyword.{Keyword}
use Rattle.rg_base.specs.Words.{beside, keywords, keyword_of}
use Rattle.rg_base.proofs.Fronts.{both}
use Rattle.rg_lex.specs.Inner.OfLength.{keywords_of_length}

-- texts of two lengths differ
bytes_eq-lengths : (s t : List ℕ) (v : Bool) → bytes_eq s t ≡ v → (length s ≡ length t → ⊥) → v ≡ false
bytes_eq-lengths s t true e apart = absurd (apart (ap length ((bytes_eq-Decides s t).0 e)))
bytes_eq-lengths s t false e apart = refl

-- the search among those of the right length
beside-length : (xs : List (List ℕ × Keyword)) (n : ℕ) (text : List ℕ) → length text ≡ n
    → beside xs text ≡ beside (filter (λ x. length x.0 == n) xs) text
beside-length [] n text l = refl
beside-length (x ∷ xs) n text l = go (length x.0 == n) refl (beside-length xs n text l)
  where
    go : (v : Bool) → (length x.0 == n) ≡ v → beside xs text ≡ beside (filter (λ x. length x.0 == n) xs) text
        → beside (x ∷ xs) text ≡ beside (cond v (x ∷ filter (λ x. length x.0 == n) xs) (filter (λ x. length x.0 == n) xs)) text
    go true e h = rw h refl
    go false e h =
        let apart : length x.0 ≡ length text → ⊥ = grind (arith, nat_tests) in
        rw (bytes_eq-lengths x.0 text (bytes_eq x.0 text) refl apart) h

-- a reserved word is one of its length
pub keyword_of-length : (n : ℕ) (text : List ℕ) → length text ≡ n → keyword_of text ≡ beside (keywords_of_length n) text
keyword_of-length n text l = beside-length keywords n text l

-- a text of another length than those of the table isn't there
beside-other : (xs : List (List ℕ × Keyword)) (text : List ℕ) → list_all (λ x. nat_le 2 (length x.0) && nat_le (length x.0) 7) xs ≡ true
    → (2 ≤ length text → length text ≤ 7 → ⊥) → beside xs text ≡ None
beside-other [] text a apart = refl
beside-other (x ∷ xs) text a apart =
    let r = both (nat_le 2 (length x.0) && nat_le (length x.0) 7) (list_all (λ x. nat_le 2 (length x.0) && nat_le (length x.0) 7) xs) a in
    let q = both (nat_le 2 (length x.0)) (nat_le (length x.0) 7) r.0 in
    let least : 2 ≤ length x.0 = grind (arith, nat_tests) in
    let most : length x.0 ≤ 7 = grind (arith, nat_tests) in
    rw (bytes_eq-lengths x.0 text (bytes_eq x.0 text) refl (λ e. apart (omega arith) (omega arith))) (beside-other xs text r.1 apart)

-- a reserved word has two to seven letters
pub keyword_of-other : (text : List ℕ) → (2 ≤ length text → length text ≤ 7 → ⊥) → keyword_of text ≡ None
keyword_of-other text apart = beside-other keywords text refl apart
