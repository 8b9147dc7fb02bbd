-- A field that is written where that is quick (docs/architecture.md, "Cells").
use Rattle.std.specs.Prelude.{◌≡◌, ◌≢◌, ℕ, Bool, true, false, List, Some, slice_get, slice_set}
use Rattle.rg_base.specs.declared.value.Word.{Word}
use Rattle.rg_base.specs.declared.value.Word.TheVariants as word
use Rattle.rg_cells.specs.Table.{Table, field_at, with_field}

-- a field that was there and led nowhere is written, or nothing is
abbrev pub ReplacesPlain : Bool → (old new : Table) → (slot k : ℕ) → Word → Type 0
ReplacesPlain true old new slot k w =
    (v : Word) × (field_at old.heap slot k ≡ Some v) × ((s : ℕ) → v ≢ word.Slot s)
    × (new ≡ record old { heap = with_field old.heap slot k w })
ReplacesPlain false old new slot k w = new ≡ old

-- among the fields of one object: one that led nowhere is written, or nothing is
abbrev pub ReplacesIn : Bool → (old new : List Word) → ℕ → Word → Type 0
ReplacesIn true old new k w = (v : Word) × (slice_get old k ≡ Some v) × ((s : ℕ) → v ≢ word.Slot s) × (new ≡ slice_set old k w)
ReplacesIn false old new k w = new ≡ old
