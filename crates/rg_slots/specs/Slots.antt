-- What cowns have, as schedules speak of it (docs/architecture.md, "Worlds").
use Rattle.std.specs.Prelude.{Option, Some, None}
use Rattle.rg_base.specs.declared.value.Val.TheVariants.{Nil}
use Rattle.rg_opening.specs.declared.given.Given.{Given}
use Rattle.rg_opening.specs.declared.given.Given.TheVariants as given
use Rattle.rg_sched_atomic.specs.Contents.{Content, Away, Empty, Held, given_of}
use Rattle.rg_slots.specs.declared.slot.Content.{Content as Seen}
use Rattle.rg_slots.specs.declared.slot.Content.TheVariants as seen
use Rattle.rg_slots.specs.declared.slot.Slot.{Slot}
use Rattle.rg_slots.specs.declared.slot.Slot.TheVariants as slot

-- what a cown has
abbrev pub content_in : Slot → Content
content_in slot.Away = Away
content_in slot.Empty = Empty
content_in (slot.Held c) = Held c

-- the same, where it is looked at
abbrev pub content_seen : Seen → Content
content_seen seen.Away = Away
content_seen seen.Empty = Empty
content_seen (seen.Held c) = Held c.now

-- with what an `iso` field begins that takes a content, if there is one
abbrev pub first_given : Option Slot → Given
first_given None = given.Start Nil
first_given (Some s) = given_of (content_in s)
