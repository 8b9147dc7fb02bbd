-- Chains of keys: a head has one, and it speaks of the links of its keys alone (docs/architecture.md, "Regions").
use Rattle.std.proofs.Common.{◌≡◌, ℕ, List, [], ◌∷◌, Option, Some, None, get_or, refl, ap, sym, ◌∙◌, subst, inl, inr}
use Rattle.std.proofs.lemmas.Option.{same_Some}
use Rattle.rg_regions.specs.Table.{Has, Chained}

pub chained_agree : (links joins : List (Option ℕ)) (head : Option ℕ) (keys : List ℕ)
    → ((k : ℕ) → Has keys k → get_or joins k None ≡ get_or links k None) → Chained links head keys → Chained joins head keys
chained_agree links joins head [] l c = c
chained_agree links joins head (x ∷ keys) l c =
    let P : Option ℕ → Type 0 = λ o. Chained joins o keys in
    (c.0, c.1, subst P (sym (l x (inl refl))) (chained_agree links joins (get_or links x None) keys (λ k q. l k (inr q)) c.2))

pub chained_one : (links : List (Option ℕ)) (head : Option ℕ) (xs ys : List ℕ) → Chained links head xs → Chained links head ys → xs ≡ ys
chained_one links head [] [] a b = refl
chained_one links head [] (y ∷ ys) a b = let q : None ≡ Some y = sym a ∙ b.0 in cc
chained_one links head (x ∷ xs) [] a b = let q : None ≡ Some x = sym b ∙ a.0 in cc
chained_one links head (x ∷ xs) (y ∷ ys) a b =
    let e : x ≡ y = same_Some x y (sym a.0 ∙ b.0) in
    let P : ℕ → Type 0 = λ z. Chained links (get_or links z None) ys in
    let t : xs ≡ ys = chained_one links (get_or links x None) xs ys a.2 (subst P (sym e) b.2) in
    ap (λ z. z ∷ xs) e ∙ ap (λ zs. y ∷ zs) t

-- where nothing is left of a chain, and where something is
pub chained_none : (links : List (Option ℕ)) (head : Option ℕ) (keys : List ℕ) → head ≡ None → Chained links head keys → keys ≡ []
chained_none links head [] e c = refl
chained_none links head (k ∷ keys) e c = let q : None ≡ Some k = sym e ∙ c.0 in cc

pub chained_some : (links : List (Option ℕ)) (head : Option ℕ) (key : ℕ) (keys : List ℕ) → head ≡ Some key
    → Chained links head keys → (rest : List ℕ) × (keys ≡ key ∷ rest)
chained_some links head key [] e c = let q : None ≡ Some key = sym c ∙ e in cc
chained_some links head key (k ∷ keys) e c = (keys, ap (λ z. z ∷ keys) (same_Some k key (sym c.0 ∙ e)))
