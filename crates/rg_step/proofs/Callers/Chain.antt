-- The states of a run of steps, one step after another. For callers.
use Rattle.std.proofs.Common.{◌≡◌, ℕ, zero, suc, ◌+◌, true, List, refl, sym, subst, arith}
use Rattle.rg_base.specs.declared.outcome.Outcome.{Outcome}
use Rattle.rg_code.specs.Code.{Code}
use Rattle.rg_step.specs.States.{Chain, OneStep, Standing}
use Rattle.rg_step.specs.Steps.{is_made}

-- none was made
pub chain-none : (code : Code) (a : Standing) (x : List ℕ) → Chain code 0 a a x x
chain-none code a x = (refl, refl)

-- one was
pub chain-one : (code : Code) (a b : Standing) (result : Outcome) (x y : List ℕ) → is_made result ≡ true → OneStep code a b result x y
    → Chain code 1 a b x y
chain-one code a b result x y made one = (a, x, result, (refl, refl), made, one)

-- these, and then those
pub chain-then : (code : Code) (k j : ℕ) (a b c : Standing) (x y z : List ℕ) → Chain code k a b x y → Chain code j b c y z
    → Chain code (k + j) a c x z
chain-then code k zero a b c x y z l m =
    let none : k ≡ k + 0 = omega arith in
    let there : Chain code k a c x z = subst (λ s. Chain code k a s x z) (sym m.0) (subst (λ bytes. Chain code k a b x bytes) (sym m.1) l) in
    subst (λ n. Chain code n a c x z) none there
chain-then code k (suc j) a b c x y z l (m, left, result, r, made, one) =
    let more : suc (k + j) ≡ k + suc j = omega arith in
    subst (λ n. Chain code n a c x z) more (m, left, result, chain-then code k j a b m x y left l r, made, one)
