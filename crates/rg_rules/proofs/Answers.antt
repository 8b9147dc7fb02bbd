-- What a `do` block that gave a value says of its parts. For callers.
use Rattle.std.proofs.Common.{◌≡◌, refl, ℕ, Bool, true, false, Option, Some, None, ok_or, Result, Ok, Err, arith}
use Rattle.rg_rules.specs.Answers.{◌>>=◌, ◌>>◌, test, Answer, at_line}

-- the first part gave a value, and the rest is what came of it
pub bind-ok : {A B E : Type 0} (r : Result A E) (go : A → Result B E) (b : B) → ◌>>=◌ r go ≡ Ok b → (a : A) × (r ≡ Ok a) × (go a ≡ Ok b)
bind-ok (Ok a) go b h = (a, refl, h)
bind-ok (Err e) go b h = grind arith

-- the first part gave a value, and so did the rest
pub then-ok : {A B E : Type 0} (r : Result A E) (rest : Result B E) (b : B) → ◌>>◌ r rest ≡ Ok b → (a : A) × (r ≡ Ok a) × (rest ≡ Ok b)
then-ok (Ok a) rest b h = (a, refl, h)
then-ok (Err e) rest b h = grind arith

-- the test passed
pub test-ok : {E : Type 0} (b : Bool) (e : E) (u : Unit {0}) → test b e ≡ Ok u → b ≡ true
test-ok true e u h = refl
test-ok false e u h = grind arith

-- the test passed, and the rest gave the value
pub test-then : {B E : Type 0} (t : Bool) (e : E) (rest : Result B E) (b : B) → ◌>>◌ (test t e) rest ≡ Ok b → (t ≡ true) × (rest ≡ Ok b)
test-then true e rest b h = (refl, h)
test-then false e rest b h = grind arith

-- what was looked for is there
pub ok_or-ok : {A E : Type 0} (o : Option A) (e : E) (a : A) → ok_or o e ≡ Ok a → o ≡ Some a
ok_or-ok (Some x) e a h = grind arith
ok_or-ok None e a h = grind arith

-- a line changes no value
pub at_line-ok : {A : Type 0} (line : ℕ) (r : Answer A) (a : A) → at_line line r ≡ Ok a → r ≡ Ok a
at_line-ok line (Ok x) a h = grind arith
at_line-ok line (Err code) a h = grind arith
