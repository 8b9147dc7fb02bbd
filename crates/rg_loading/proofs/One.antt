-- The bytes of files come to one answer.
use Rattle.std.proofs.Common.{◌≡◌, ℕ, List, [], ◌∷◌, Some, Result, Ok, Err, refl, sym, ◌∙◌, ap, subst, arith}
use Rattle.rg_tree.specs.Tree.{Tree}
use Rattle.rg_cown.specs.Cargo.{CargoList}
use Rattle.rg_image.specs.Images.{OneContent}
use Rattle.rg_plan.specs.declared.cown.Start.{Start}
use Rattle.rg_plan.specs.declared.cown.Start.TheVariants.{New, Image}
use Rattle.rg_plan.specs.declared.cown.Cown.{Cown}
use Rattle.rg_loading.specs.Loading.{Failing, too_long, no_image, FileComes, in_front, OneComes, no_content, FirstComes, LoadsCome}
use Rattle.rg_loading.specs.Laws.{LoadsComeToOne}

-- what a file comes to
file-one : OneContent → (t : Tree) (c : Cown) (bytes : List ℕ) (r q : Result CargoList Failing) → FileComes t c bytes r →
    FileComes t c bytes q → r ≡ q
file-one law t c bytes (Ok x) (Ok y) h g = let same = law t bytes (Some x) (Some y) h.1.0 g.1.0 in cc
file-one law t c bytes (Ok x) (Err too_long) h g = absurd (omega (arith, h.0, g))
file-one law t c bytes (Ok x) (Err (no_image line)) h g = absurd (g.1 x h.1)
file-one law t c bytes (Err too_long) (Ok y) h g = absurd (omega (arith, g.0, h))
file-one law t c bytes (Err too_long) (Err too_long) h g = refl
file-one law t c bytes (Err too_long) (Err (no_image line)) h g = absurd (omega (arith, g.0, h))
file-one law t c bytes (Err (no_image line)) (Ok y) h g = absurd (h.1 y g.1)
file-one law t c bytes (Err (no_image line)) (Err too_long) h g = absurd (omega (arith, h.0, g))
file-one law t c bytes (Err (no_image line)) (Err (no_image other)) h g = ap (λ n. Err (no_image n)) (h.2 ∙ sym g.2)

-- what those behind it come to
abbrev IsOne : (List (List ℕ) → Result (List CargoList) Failing → Type 0) → Type 0
IsOne Rest = (files : List (List ℕ)) (r q : Result (List CargoList) Failing) → Rest files r → Rest files q → r ≡ q

rest-one : (one : Result CargoList Failing) (Rest : List (List ℕ) → Result (List CargoList) Failing → Type 0) (files : List (List ℕ))
    (r q : Result (List CargoList) Failing) → IsOne Rest → OneComes one Rest files r → OneComes one Rest files q → r ≡ q
rest-one (Ok x) Rest files r q behind h g = h.2 ∙ ap (in_front (x ∷ [])) (behind files h.0 g.0 h.1 g.1) ∙ sym g.2
rest-one (Err why) Rest files r q behind h g = h.1 ∙ sym g.1

first-one : OneContent → (t : Tree) (c : Cown) (s : Start) (Rest : List (List ℕ) → Result (List CargoList) Failing → Type 0) (files : List (List ℕ))
    (r q : Result (List CargoList) Failing) → IsOne Rest → FirstComes t c s Rest files r → FirstComes t c s Rest files q → r ≡ q
first-one law t c (New manager) Rest files r q behind h g = rest-one (Ok no_content) Rest files r q behind h g
first-one law t c (Image name) Rest [] r q behind h g = absurd h
first-one law t c (Image name) Rest (bytes ∷ files) r q behind h g =
    let P : Result CargoList Failing → Type 0 = λ x. OneComes x Rest files r in
    rest-one g.0 Rest files r q behind (subst P (file-one law t c bytes h.0 g.0 h.1 g.1) h.2) g.2

pub loads-one : OneContent → LoadsComeToOne
loads-one law t [] files r q h g = h.1 ∙ sym g.1
loads-one law t (c ∷ cs) files r q h g =
    first-one law t c c.start (λ fs x. LoadsCome t cs fs x) files r q (λ fs x y a b. loads-one law t cs fs x y a b) h g
