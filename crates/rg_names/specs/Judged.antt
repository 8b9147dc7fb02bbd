-- An outcome against what the rules answer (docs/language.md, "Headers"). An outcome for want of memory says nothing of them.
use Rattle.std.specs.Prelude.{◌≡◌, ⊤, Result, Ok, Err}
use Rattle.rg_base.specs.declared.fault.Stop.{Stop}
use Rattle.rg_base.specs.declared.fault.Stop.TheVariants.{Fault, Memory}
use Rattle.rg_rules.specs.Answers.{Lined, Passed}

-- a fault comes only where it is the first one
abbrev pub FailsAs : {A : Type 0} → Lined A → Stop → Type 0
FailsAs judged (Fault f) = judged ≡ Err f
FailsAs judged Memory = ⊤

-- Ok comes only where there is no fault
abbrev pub JudgedAs : {A : Type 0} → Lined Passed → Result A Stop → Type 0
JudgedAs judged (Ok a) = judged ≡ Ok tt
JudgedAs judged (Err stop) = FailsAs judged stop

-- Ok comes only with the value
abbrev pub GivenAs : {A : Type 0} → Lined A → Result A Stop → Type 0
GivenAs judged (Ok a) = judged ≡ Ok a
GivenAs judged (Err stop) = FailsAs judged stop

-- a fault, and not want of memory
abbrev pub IsFault : Stop → Type 0
IsFault (Fault f) = ⊤
IsFault Memory = ⊥
