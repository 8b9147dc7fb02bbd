-- Tests in order: the first that fails is the answer of the whole (docs/language.md, "Judgements"). `do` blocks are read by these words.
use Rattle.std.specs.Prelude.{ℕ, Bool, true, false, Result, Ok, Err}
use Rattle.rg_base.specs.declared.fault.Code.{Code}
use Rattle.rg_base.specs.declared.fault.Fault.{Fault}

-- goes on with a value
abbrev pub ◌>>=◌ : {A B E : Type 0} → Result A E → (A → Result B E) → Result B E
◌>>=◌ (Ok a) go = go a
◌>>=◌ (Err e) go = Err e

-- goes on where nothing was refused
abbrev pub ◌>>◌ : {A B E : Type 0} → Result A E → Result B E → Result B E
◌>>◌ (Ok a) rest = rest
◌>>◌ (Err e) rest = Err e

-- refused where the test fails
abbrev pub test : {E : Type 0} → Bool → E → Result (Unit {0}) E
test true e = Ok tt
test false e = Err e

-- a value, or the code of a fault
abbrev pub Answer : Type 0 → Type 0
Answer A = Result A Code

-- a value, or a fault with its line
abbrev pub Lined : Type 0 → Type 0
Lined A = Result A Fault

-- that no test failed, and no more
abbrev pub Passed : Type 0
Passed = Unit {0}

-- a fault gets the line of what it stands in
abbrev pub at_line : {A : Type 0} → ℕ → Answer A → Lined A
at_line line (Ok a) = Ok a
at_line line (Err code) = Err (record { code = code; line = line })
