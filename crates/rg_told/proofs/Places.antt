-- The place that the next method of a class has among those of its class: 0 where none came before.
use Rattle.std.proofs.Common.{◌≡◌, refl, ap, ℕ, suc, ◌==◌, ◌≤◌, Bool as Truth, true, false, if◌then◌else◌, arith}
use Rattle.std.proofs.lemmas.Bool.Decides.{nat_tests}
use Rattle.rg_classes.specs.Order.{place_of}

-- no method of a class from this one on came before
abbrev pub Fresh : (before place c : ℕ) → Type 0
Fresh before place c = (d : ℕ) → c ≤ d → place_of before place d ≡ 0

pub other-class : (c k d : ℕ) → suc c ≤ d → place_of c k d ≡ 0
other-class c k d l = let e : (d == c) ≡ false = grind (arith, nat_tests) in ap (λ (b : Truth). if b then k else 0) e

pub own-class : (c k : ℕ) → place_of c k c ≡ k
own-class c k = let e : (c == c) ≡ true = grind (arith, nat_tests) in ap (λ (b : Truth). if b then k else 0) e

pub first-class : (d : ℕ) → place_of 0 0 d ≡ 0
first-class d = by (d == 0)
  where
    by : (b : Truth) → ◌≡◌ {A = ℕ} (if b then 0 else 0) 0
    by true = refl
    by false = refl
