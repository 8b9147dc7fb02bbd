-- What a step writes (docs/architecture.md, "The stepper").
use Rattle.std.specs.Prelude.{◌≡◌, ◌≢◌, ◌⊎◌, ℕ, ◌+◌, Bool as Truth, true, false, List, Option, Some, None, slice_get}
use Rattle.rg_base.specs.declared.object.Label.{Label}
use Rattle.rg_base.specs.declared.object.Label.TheVariants.{Region, Temp}
use Rattle.rg_base.specs.declared.object.Place.{Place}
use Rattle.rg_base.specs.declared.object.Place.TheVariants.{Var, Field}
use Rattle.rg_base.specs.declared.object.Seen.{Seen}
use Rattle.rg_code.specs.declared.op.Op.{Op}
use Rattle.rg_code.specs.declared.op.Op.TheVariants as i
use Rattle.rg_held.specs.Gone.{gone}
use Rattle.rg_stack.specs.Machine.{Machine}
use Rattle.rg_stack.specs.Tops.{top_region, top_window, top_owner, without_top}

-- a label is the active region, or the number of the topmost window
abbrev pub Writable : Machine → Label → Type 0
Writable m l = (l ≡ Region (top_region m.windows)) ⊎ (l ≡ Temp (top_window m.windows))

-- whether an instruction ends a window with `giving`
abbrev pub gives : Option Op → Truth
gives None = false
gives (Some (i.LeaveGiving w z)) = true
gives (Some o) = false

-- whether the step of a machine does
abbrev pub gives_at : List Op → Machine → Truth
gives_at code m = gives (slice_get code (m.at + 1))

-- the fields of two objects differ at most at one place
abbrev pub DifferAt : (field : ℕ) → (before after : Seen) → Type 0
DifferAt k before after = (j : ℕ) → j ≢ k → slice_get after.fields j ≡ slice_get before.fields j

-- a place is a field of the object with a serial, at most that field differs, and the object is of the active region or of the topmost window that
-- are so once the window is gone
abbrev pub IsOwnersField : Machine → Option Place → (serial : ℕ) → (before after : Seen) → Type 0
IsOwnersField m None serial before after = ⊥
IsOwnersField m (Some (Var n s)) serial before after = ⊥
IsOwnersField m (Some (Field a k)) serial before after =
    (a ≡ serial) × DifferAt k before after × Writable (record m { windows = without_top m.windows }) before.label

-- What a step may write of an object: where it ends a window with `giving`, at most the field at the place of that window's owner; else the object
-- was one of the active region, or a temporary of the topmost window.
abbrev pub MayWrite : (giving : Truth) → Machine → (serial : ℕ) → (before after : Seen) → Type 0
MayWrite true old serial before after = IsOwnersField old (top_owner old.windows) serial before after
MayWrite false old serial before after = Writable old before.label

-- An object that a machine held before and holds behind a step has other fields only where these might be written; another label isn't a write.
abbrev pub WritesOnly : List Op → (old new : Machine) → Type 0
WritesOnly code old new = (serial : ℕ) (before after : Seen) → slice_get old.store serial ≡ Some before → slice_get new.store serial ≡ Some after
    → before ≢ gone → after ≢ gone → after.fields ≢ before.fields → MayWrite (gives_at code old) old serial before after
