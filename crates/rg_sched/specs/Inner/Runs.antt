-- What the next number of a schedule names (docs/architecture.md, "Worlds").
use Rattle.std.specs.Prelude.{◌≡◌, ℕ, ℤ, List, Option, Some, None, Result, Ok, Err}
use Rattle.rg_base.specs.Input.{NextNumber, found, malformed, at_end, next_number}
use Rattle.rg_input.specs.declared.refusal.InputFault.{InputFault}
use Rattle.rg_sched.specs.Schedules.{behaviour_of}

-- no number comes next, or that of no behaviour
abbrev pub NoneNamed : (behaviours : ℕ) → NextNumber → Type 0
NoneNamed n (found z rest) = behaviour_of n z ≡ None
NoneNamed n malformed = Unit {0}
NoneNamed n at_end = Unit {0}

-- what the next number names, of the bytes left before and after it
abbrev pub Names : (behaviours : ℕ) → Result (Option ℕ) InputFault → (before after : List ℕ) → Type 0
Names n (Ok (Some i)) before after = (z : ℤ) × (next_number before ≡ found z after) × (behaviour_of n z ≡ Some i)
Names n (Ok None) before after = NoneNamed n (next_number before)
Names n (Err fault) before after = Unit {0}
