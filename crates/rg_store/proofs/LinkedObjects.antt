-- The regions to which links lead, link by link: what counts of regions is which are among them.
use Rattle.std.proofs.Common.{◌≡◌, ℕ, zero, suc, ◌==◌, Bool, true, false, ◌||◌, ◌⊎◌, inl, inr, List, [], ◌∷◌, ◌++◌, flat_map, refl, sym, ◌∙◌, ap}
use Rattle.std.proofs.lemmas.Bool.{eqb-true, eq-eqb, or_cases}
use Rattle.std.proofs.Math.Bool.{or-true}
use Rattle.rg_base.specs.declared.object.Seen.{Seen}
use Rattle.rg_tree.specs.Tree.{Class}
use Rattle.rg_rules.specs.Regions.{among, in_regions, led_from, joined_with, beneath}
use Rattle.rg_store.specs.Links.{linked}
use Rattle.rg_store.proofs.Among.{among-cons, among-append, among-joined, led-lists}

-- one link more, at the end
pub linked-suc : (lists : ℕ → List ℕ) (links : ℕ) (rs : List ℕ) →
    linked lists (suc links) rs ≡ joined_with (linked lists links rs) (flat_map lists (linked lists links rs))
linked-suc lists zero rs = refl
linked-suc lists (suc k) rs = linked-suc lists k (joined_with rs (flat_map lists rs))

-- what is in the lists of regions is in the list of one of them
flat-from : (lists : ℕ → List ℕ) (rs : List ℕ) (n : ℕ) → among (flat_map lists rs) n ≡ true →
    (r : ℕ) × (among rs r ≡ true) × (among (lists r) n ≡ true)
flat-from lists [] n is = cc
flat-from lists (r ∷ rs) n is =
    by (or_cases (among (lists r) n) (among (flat_map lists rs) n) (sym (among-append (lists r) (flat_map lists rs) n) ∙ is)) (flat-from lists rs n)
  where
    by : (among (lists r) n ≡ true) ⊎ (among (flat_map lists rs) n ≡ true) →
        (among (flat_map lists rs) n ≡ true → (q : ℕ) × (among rs q ≡ true) × (among (lists q) n ≡ true)) →
        (q : ℕ) × (among (r ∷ rs) q ≡ true) × (among (lists q) n ≡ true)
    by (inl here) rest = (r, among-cons r rs r ∙ ap (λ b. b || among rs r) (eq-eqb r r refl), here)
    by (inr behind) rest =
        let found = rest behind in
        (found.0, among-cons r rs found.0 ∙ ap (λ b. (r == found.0) || b) found.1 ∙ or-true (r == found.0), found.2)

flat-to : (lists : ℕ → List ℕ) (rs : List ℕ) (r n : ℕ) → among rs r ≡ true → among (lists r) n ≡ true → among (flat_map lists rs) n ≡ true
flat-to lists [] r n there led = cc
flat-to lists (q ∷ rs) r n there led =
    among-append (lists q) (flat_map lists rs) n
    ∙ by (or_cases (q == r) (among rs r) (sym (among-cons q rs r) ∙ there)) (λ behind. flat-to lists rs r n behind led)
  where
    by : ((q == r) ≡ true) ⊎ (among rs r ≡ true) → (among rs r ≡ true → among (flat_map lists rs) n ≡ true) →
        among (lists q) n || among (flat_map lists rs) n ≡ true
    by (inl same) rest =
        ap (λ p. among (lists p) n || among (flat_map lists rs) n) (eqb-true q r same) ∙ ap (λ b. b || among (flat_map lists rs) n) led
    by (inr behind) rest = ap (λ b. among (lists q) n || b) (rest behind) ∙ or-true (among (lists q) n)

both-ways : (a b : Bool) → (a ≡ true → b ≡ true) → (b ≡ true → a ≡ true) → a ≡ b
both-ways true b there back = sym (there refl)
both-ways false true there back = back refl
both-ways false false there back = refl

-- the lists of the same regions
pub flat-same : (lists : ℕ → List ℕ) (rs ss : List ℕ) → ((r : ℕ) → among rs r ≡ among ss r) → (n : ℕ) →
    among (flat_map lists rs) n ≡ among (flat_map lists ss) n
flat-same lists rs ss same n =
    both-ways (among (flat_map lists rs) n) (among (flat_map lists ss) n)
    (λ is. let found = flat-from lists rs n is in flat-to lists ss found.0 n (sym (same found.0) ∙ found.1) found.2)
    (λ is. let found = flat-from lists ss n is in flat-to lists rs found.0 n (same found.0 ∙ found.1) found.2)

-- regions with those in their lists
pub among-linked : (lists : ℕ → List ℕ) (found rs : List ℕ) → ((r : ℕ) → among found r ≡ among rs r) → (n : ℕ) →
    among (joined_with found (flat_map lists found)) n ≡ among rs n || among (flat_map lists rs) n
among-linked lists found rs same n =
    among-joined found (flat_map lists found) n ∙ ap (λ b. b || among (flat_map lists found) n) (same n)
    ∙ ap (λ b. among rs n || b) (flat-same lists found rs same n)

-- the same lists
pub linked-same : (f g : ℕ → List ℕ) → ((r : ℕ) → f r ≡ g r) → (links : ℕ) (rs : List ℕ) → linked f links rs ≡ linked g links rs
linked-same f g same zero rs = refl
linked-same f g same (suc k) rs =
    ap (λ q. linked f k (joined_with rs q)) (flat rs) ∙ linked-same f g same k (joined_with rs (flat_map g rs))
  where
    flat : (qs : List ℕ) → flat_map f qs ≡ flat_map g qs
    flat [] = refl
    flat (q ∷ qs) = ap (λ ns. ns ++ flat_map f qs) (same q) ∙ ap (λ ns. g q ++ ns) (flat qs)

-- where each region's list is of owner references, links lead to the regions beneath
pub linked-beneath : (cs : List Class) (st : List Seen) (lists : ℕ → List ℕ) → ((r : ℕ) → lists r ≡ led_from cs st (in_regions (r ∷ [])) st) →
    (links : ℕ) (rs ss : List ℕ) → ((n : ℕ) → among rs n ≡ among ss n) → (n : ℕ) →
    among (linked lists links rs) n ≡ among (beneath cs st links ss) n
linked-beneath cs st lists are zero rs ss same n = same n
linked-beneath cs st lists are (suc k) rs ss same n =
    linked-beneath cs st lists are k (joined_with rs (flat_map lists rs)) (joined_with ss (led_from cs st (in_regions ss) st))
    (λ q. among-linked lists rs ss same q ∙ ap (λ b. among ss q || b) (sym (led-lists cs st lists are ss q))
    ∙ sym (among-joined ss (led_from cs st (in_regions ss) st) q)) n
