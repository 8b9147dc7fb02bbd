-- Lists of links, by their numbers.
use Rattle.std.proofs.Common.{◌≡◌, ℕ, ◌<◌, List, [], ◌∷◌, ◌++◌, length, zero, suc, refl, get_or, set, map, sym, ◌∙◌, ap, arith, Vec, Global}
use Rattle.std.proofs.lemmas.List.{get_or-map, map-set, length-map, get_or-set_same, get_or-set_other}
use Rattle.rg_store.specs.Links.{listed}

-- the list that was written
pub listed-here : (lists : List (Vec ℕ Global)) (r : ℕ) (v : Vec ℕ Global) → r < length lists → listed (set lists r v) r ≡ v.items
listed-here lists r v within =
    let items = λ (x : Vec ℕ Global). x.items in
    ap (λ (xs : List (List ℕ)). get_or xs r []) (map-set items lists r v)
    ∙ get_or-set_same (map items lists) r v.items [] (omega (arith, length-map lists items))

-- another one
pub listed-other : (lists : List (Vec ℕ Global)) (r q : ℕ) (v : Vec ℕ Global) → (q ≡ r → ⊥) → listed (set lists r v) q ≡ listed lists q
listed-other lists r q v other =
    let items = λ (x : Vec ℕ Global). x.items in
    ap (λ (xs : List (List ℕ)). get_or xs q []) (map-set items lists r v) ∙ get_or-set_other (map items lists) r q v.items [] other

-- the list that is read
pub listed-read : (lists : List (Vec ℕ Global)) (r : ℕ) (v : Vec ℕ Global) → r < length lists → v ≡ get_or lists r v → v.items ≡ listed lists r
listed-read lists r v within is =
    let items = λ (x : Vec ℕ Global). x.items in ap items is ∙ sym (get_or-map items lists r v [] within)

-- one more empty list
pub listed-empty : (lists : List (Vec ℕ Global)) (v : Vec ℕ Global) → v.items ≡ [] → ((r : ℕ) → listed lists r ≡ []) → (r : ℕ) →
    listed (lists ++ v ∷ []) r ≡ []
listed-empty [] v none empty zero = none
listed-empty [] v none empty (suc r) = refl
listed-empty (l ∷ lists) v none empty zero = empty zero
listed-empty (l ∷ lists) v none empty (suc r) = listed-empty lists v none (λ q. empty (suc q)) r
