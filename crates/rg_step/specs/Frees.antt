-- What a step frees (docs/architecture.md, "The stepper").
use Rattle.std.specs.Prelude.{◌≡◌, ◌≢◌, ◌⊎◌, ℕ, Some, None, slice_get}
use Rattle.rg_base.specs.declared.object.Label.TheVariants.{Region}
use Rattle.rg_base.specs.declared.object.Seen.{Seen}
use Rattle.rg_regions.specs.Table.{InTable}
use Rattle.rg_held.specs.Gone.{gone}
use Rattle.rg_held.specs.Temps.{EndedTemp}
use Rattle.rg_held.specs.Shown.{Finds}
use Rattle.rg_machine.specs.Parts.{Parts, machine_in}

-- A region that was in the table, and isn't any more. Nothing that lay in it is held: so it wasn't frozen, nor merged into another one.
pub record LeftTable (old new : Parts) (region : ℕ) : Type 0 where
  pub was : InTable old.heap.regions region
  pub left : InTable new.heap.regions region → ⊥
  pub all_gone : (serial : ℕ) (o : Seen) → slice_get (machine_in old).store serial ≡ Some o → o.label ≡ Region region
      → Finds (machine_in new).store serial None

-- what was gone is gone
abbrev pub StaysGone : (old new : Parts) → Type 0
StaysGone old new = (serial : ℕ) → slice_get (machine_in old).store serial ≡ Some gone → slice_get (machine_in new).store serial ≡ Some gone

-- an object that was held and isn't any more was a temporary of a window that has ended, or lay in a region that has left the table
abbrev pub FreesOnly : (old new : Parts) → Type 0
FreesOnly old new = (serial : ℕ) (o : Seen) → slice_get (machine_in old).store serial ≡ Some o → o ≢ gone
    → Finds (machine_in new).store serial None
    → EndedTemp (machine_in old) (machine_in new) o.label ⊎ ((r : ℕ) × (o.label ≡ Region r) × LeftTable old new r)
