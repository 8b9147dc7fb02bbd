-- For callers: how a judgement of parts in order fails.
use Rattle.std.proofs.Common.{◌≡◌, Ok, refl}
use Rattle.rg_base.specs.declared.fault.Stop.{Stop}
use Rattle.rg_base.specs.declared.fault.Stop.TheVariants.{Fault, Memory}
use Rattle.rg_rules.specs.Answers.{◌>>=◌, ◌>>◌, Lined}
use Rattle.rg_names.specs.Judged.{FailsAs}

-- the first of two failed
pub FailsAs-first : {A B : Type 0} (a : Lined A) (b : Lined B) (s : Stop) → FailsAs a s → FailsAs (◌>>◌ a b) s
FailsAs-first a b (Fault f) h = rw h refl
FailsAs-first a b Memory h = tt

-- the first passed, the second failed
pub FailsAs-second : {A B : Type 0} (a : Lined A) (b : Lined B) (x : A) (s : Stop) → a ≡ Ok x → FailsAs b s → FailsAs (◌>>◌ a b) s
FailsAs-second a b x s e h = rw e h

-- the first failed, whatever would come of its value
pub FailsAs-bind : {A B : Type 0} (a : Lined A) (go : A → Lined B) (s : Stop) → FailsAs a s → FailsAs (◌>>=◌ a go) s
FailsAs-bind a go (Fault f) h = rw h refl
FailsAs-bind a go Memory h = tt

-- the same of a judgement that is equal
pub FailsAs-same : {A : Type 0} (a b : Lined A) (s : Stop) → a ≡ b → FailsAs b s → FailsAs a s
FailsAs-same a b s e h = rw e h
