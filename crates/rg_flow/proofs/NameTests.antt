-- The test whether two numbers of names are one.
use Rattle.std.proofs.Common.{◌≡◌, ℕ, true, Option, None, Some, refl, ap}
use Rattle.std.proofs.lemmas.Bool.{eq-eqb, eqb-true}
use Rattle.rg_flow.specs.Scope.{same_name}

-- a name is itself
pub same-refl : (n : Option ℕ) → same_name n n ≡ true
same-refl None = refl
same-refl (Some n) = eq-eqb n n refl

-- names that pass are equal
pub same-eq : (n m : Option ℕ) → same_name n m ≡ true → n ≡ m
same-eq None None h = refl
same-eq None (Some m) h = cc
same-eq (Some n) None h = cc
same-eq (Some n) (Some m) h = ap Some (eqb-true n m h)
