-- What a stepper holds (docs/architecture.md, "The stepper").
use Rattle.std.specs.Prelude.{Option, Some, None}
use Rattle.rg_machine.specs.Parts.{Parts}
use Rattle.rg_step.specs.declared.kept.Kept.{Kept}
use Rattle.rg_step.specs.declared.kept.Since.{Since as SinceYes}
use Rattle.rg_step.specs.Stepping.{Since, Stepping, nothing}

-- nothing before a program begins
abbrev pub parts_of : Option Parts → Parts
parts_of None = nothing
parts_of (Some p) = p

-- how often the pacers were asked
abbrev pub since_of : SinceYes → Since
since_of s = record { count = s.count; trace = s.trace }

-- what is seen of a stepper that keeps this of its steps
abbrev pub stepping : Parts → Kept → Stepping
stepping p k = record { parts = p; steps = k.steps; since = since_of k.since; slides = k.slides; events = k.events.items }
