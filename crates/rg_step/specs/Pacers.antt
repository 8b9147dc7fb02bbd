-- What the two pacers tell of themselves (docs/architecture.md, "The stepper").
use Rattle.std.specs.Prelude.{◌≡◌}
use Rattle.rg_pace.specs.Asked.{Asked}

-- what the two pacers tell of themselves
pub record Asks : Type 0 where
  pub count : Asked
  pub trace : Asked

abbrev pub both : (count trace : Asked) → Asks
both count trace = record { count = count; trace = trace }

-- neither pacer was tuned
abbrev pub SameTuned : (before after : Asks) → Type 0
SameTuned before after = (after.count.tuned ≡ before.count.tuned) × (after.trace.tuned ≡ before.trace.tuned)
