-- Outcomes of tests in order.
use Rattle.std.proofs.Common.{◌≡◌, ℕ, Bool, true, false, Ok, Err, refl, arith}
use Rattle.rg_base.specs.declared.fault.Code.{Code}
use Rattle.rg_rules.specs.Answers.{◌>>=◌, ◌>>◌, test, Answer, at_line}

-- a line goes to each of two parts
pub at_line-then : {A B : Type 0} (line : ℕ) (a : Answer A) (b : Answer B) → at_line line (◌>>◌ a b) ≡ ◌>>◌ (at_line line a) (at_line line b)
at_line-then line (Ok x) b = refl
at_line-then line (Err e) b = refl

pub at_line-bind : {A B : Type 0} (line : ℕ) (a : Answer A) (go : A → Answer B) →
    at_line line (◌>>=◌ a go) ≡ ◌>>=◌ (at_line line a) (λ x. at_line line (go x))
at_line-bind line (Ok x) go = refl
at_line-bind line (Err e) go = refl

-- a test that passed
pub test-new : (line : ℕ) (b : Bool) (c : Code) → at_line line (test b c) ≡ Ok tt → b ≡ true
test-new line true c h = refl
test-new line false c h = grind arith
