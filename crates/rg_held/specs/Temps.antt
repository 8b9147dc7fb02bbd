-- Temporaries of windows that have ended (docs/architecture.md, "The machine that frees").
use Rattle.std.specs.Prelude.{◌≡◌, ℕ, true, false}
use Rattle.rg_base.specs.declared.object.Label.{Label}
use Rattle.rg_base.specs.declared.object.Label.TheVariants.{Temp}
use Rattle.rg_stack.specs.Machine.{Machine}
use Rattle.rg_stack.specs.Labels.{has_window}

-- a label of temporaries whose window has ended
abbrev pub EndedTemp : (old new : Machine) → Label → Type 0
EndedTemp old new l = (n : ℕ) × (l ≡ Temp n) × (has_window old.windows n ≡ true) × (has_window new.windows n ≡ false)
