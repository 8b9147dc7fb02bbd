-- Lists that name one region and all beneath it, and objects that go in two steps.
use Rattle.std.proofs.Common.{◌≡◌, ℕ, ◌==◌, ◌||◌, Bool as Truth, true, false, if◌then◌else◌, cond, List, [], ◌∷◌, ◌++◌}
use Rattle.std.proofs.Common.{Option, Some, None, find, is_some}
use Rattle.std.proofs.Common.{refl, sym, ap, ◌∙◌}
use Rattle.rg_base.specs.declared.object.Label.{Label}
use Rattle.rg_base.specs.declared.object.Label.TheVariants.{Region, Temp, Frozen}
use Rattle.rg_base.specs.declared.object.Seen.{Seen}
use Rattle.rg_rules.specs.Regions.{among, in_regions}
use Rattle.rg_held.specs.Frees.{is_temp, buried, bury}
use Rattle.rg_held.specs.Gone.{gone}

pub among-append : (ns ms : List ℕ) (n : ℕ) → among (ns ++ ms) n ≡ (among ns n || among ms n)
among-append [] ms n = refl
among-append (m ∷ ns) ms n = by (m == n) (among-append ns ms n)
  where
    by : (b : Truth) → among (ns ++ ms) n ≡ (among ns n || among ms n)
        → is_some (cond b (Some m) (find (λ k. k == n) (ns ++ ms))) ≡ (is_some (cond b (Some m) (find (λ k. k == n) ns)) || among ms n)
    by true e = refl
    by false e = e

more-regions : (ns ms : List ℕ) (l : Label) → in_regions (ns ++ ms) l ≡ (in_regions ns l || in_regions ms l)
more-regions ns ms (Region r) = among-append ns ms r
more-regions ns ms (Temp n) = refl
more-regions ns ms Frozen = refl

-- by tests: one that goes at first, and one that goes then
two-steps : (o : Seen) (a b c : Truth) → (t : Seen → Truth) → t o ≡ (b || c) → (if t (if a || false then gone else o) then gone else
    (if a || false then gone else o)) ≡ (if (a || b) || c then gone else o)
two-steps o true b c t e = both (t gone)
  where
    both : (x : Truth) → (if x then gone else gone) ≡ gone
    both true = refl
    both false = refl
two-steps o false b c t e = ap (λ (x : Truth). if x then gone else o) e

-- objects that go behind others have gone with them
pub bury-more : (early late : List ℕ) (temps : Option ℕ) (store : List Seen)
    → bury late temps (bury early None store) ≡ bury (early ++ late) temps store
bury-more early late temps [] = refl
bury-more early late temps (o ∷ os) =
    ap (λ x. x ∷ bury late temps (bury early None os)) (
    two-steps o (in_regions early o.label) (in_regions late o.label) (is_temp temps o.label)
    (λ x. in_regions late x.label || is_temp temps x.label) refl
    ∙ ap (λ b. if b || is_temp temps o.label then gone else o) (sym (more-regions early late o.label))
    )
    ∙ ap (λ xs. buried (early ++ late) temps o ∷ xs) (bury-more early late temps os)
