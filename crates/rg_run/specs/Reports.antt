-- What a run gives to the notes where a report is asked for (docs/language.md, "Report").
use Rattle.std.specs.Prelude.{◌≡◌, ℕ, ◌+◌, ◌≤◌, Bool, true, false, List, take, length, flat_map, Option}
use Rattle.rg_base.specs.declared.event.Event.{Event}
use Rattle.rg_base.specs.declared.outcome.Ended.{Ended}
use Rattle.rg_base.specs.declared.outcome.Ended.TheVariants as ended
use Rattle.rg_base.specs.Report.{event_line}
use Rattle.rg_io.specs.Content.{Appends, IsPrefix}

-- the lines of collections in order
abbrev pub event_lines : List Event → List ℕ
event_lines events = flat_map event_line events

-- first bytes of the lines of these collections: each line is whole but the last, of which any part may be there, or none
pub record AreCutLines (events : List Event) (text : List ℕ) : Type 0 where
  pub whole : ℕ
  pub but_last : length events ≤ whole + 1
  pub begins : IsPrefix (event_lines (take whole events)) text
  pub ends : IsPrefix text (event_lines events)

-- What the notes have taken of a run with these collections. Without a report, nothing. With one, their lines: all of them, but that after a want of
-- memory the last one may be missing, and after a fault of the output or the notes a part of it or the whole.
abbrev pub Reports : (report : Bool) → Ended → List Event → (old new : Option (List ℕ)) → Type 0
Reports false result events old new = new ≡ old
Reports true ended.Done events old new = Appends old new (event_lines events)
Reports true ended.Spent events old new = Appends old new (event_lines events)
Reports true (ended.Trap kind line) events old new = Appends old new (event_lines events)
Reports true ended.InputFault events old new = Appends old new (event_lines events)
Reports true ended.OutputFault events old new = (text : List ℕ) × AreCutLines events text × Appends old new text
Reports true ended.Memory events old new = (k : ℕ) × (length events ≤ k + 1) × Appends old new (event_lines (take k events))
