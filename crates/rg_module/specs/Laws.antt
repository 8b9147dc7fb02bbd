-- What reading a module answers, and the law of the spelling (docs/architecture.md, "Modules").
use Rattle.std.specs.Prelude.{◌≡◌, List, ℕ, Result, Ok, Err}
use Rattle.rg_base.specs.declared.fault.Code.TheVariants.{Module}
use Rattle.rg_base.specs.declared.fault.Fault.{Fault}
use Rattle.rg_base.specs.declared.fault.Stop.{Stop}
use Rattle.rg_base.specs.declared.fault.Stop.TheVariants as stop
use Rattle.rg_module.specs.Parts.{Parts}
use Rattle.rg_module.specs.Spelling.{Spells}

-- bytes that spell no module are `E91`, at no line of theirs
abbrev pub not_module : Fault
not_module = record { code = Module; line = 0 }

-- why there is no module: the bytes spell none, or there is no memory
abbrev pub Refuses : (bytes : List ℕ) → Stop → Type 0
Refuses bytes (stop.Fault f) = (f ≡ not_module) × ((m : Parts) → Spells bytes m → ⊥)
Refuses bytes stop.Memory = Unit {0}

-- what is read is what the bytes spell
abbrev pub Decodes : (bytes : List ℕ) → Result Parts Stop → Type 0
Decodes bytes (Ok m) = Spells bytes m
Decodes bytes (Err e) = Refuses bytes e

-- the answer is this module, unless there is no memory
abbrev pub IsModule : Result Parts Stop → Parts → Type 0
IsModule (Ok n) m = n ≡ m
IsModule (Err (stop.Fault f)) m = ⊥
IsModule (Err stop.Memory) m = Unit {0}

-- bytes spell at most one module
abbrev pub SpellsOneModule : Type 0
SpellsOneModule = (bytes : List ℕ) (m n : Parts) → Spells bytes m → Spells bytes n → m ≡ n
