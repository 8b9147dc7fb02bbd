-- What a collection of the active region leaves of the machine (docs/architecture.md, "The machine that frees").
use Rattle.std.specs.Prelude.{◌≡◌, ℕ, Bool as Truth, List, [], ◌∷◌, Some, is_some, slice_get}
use Rattle.rg_base.specs.declared.object.Label.TheVariants.{Region}
use Rattle.rg_base.specs.declared.object.Place.TheVariants as place
use Rattle.rg_base.specs.declared.object.Seen.{Seen}
use Rattle.rg_cells.specs.Table.{Heap}
use Rattle.rg_stack.specs.Machine.{Machine, Window}
use Rattle.rg_held.specs.Gather.{Gathered, Keeps}
use Rattle.rg_view.specs.View.{body_with}
use Rattle.rg_machine.specs.Parts.{Parts, machine_in}

-- whether a cell with a serial is held
abbrev pub holds : Heap → (serial : ℕ) → Truth
holds h a = is_some (body_with a h.slots)

-- the topmost window's owner isn't a field of an object of its own region
abbrev pub OwnerOutside : Machine → List Window → Type 0
OwnerOutside m [] = Unit {0}
OwnerOutside m (w ∷ ws) =
    (a k : ℕ) (o : Seen) → w.owner ≡ Some (place.Field a k) → slice_get m.store a ≡ Some o → o.label ≡ Region w.region → ⊥

-- what was held and isn't any more went with a collection of the active region, and nothing else differs
pub record Gathers (old new : Parts) : Type 0 where
  pub keeps : OwnerOutside (machine_in old) (machine_in old).windows
      → Keeps (holds old.heap.cells.heap) (holds new.heap.cells.heap) (machine_in old)
  pub gathered : Gathered (holds old.heap.cells.heap) (holds new.heap.cells.heap) (machine_in old) (machine_in new) (machine_in old)
  pub frames : new.frames ≡ old.frames
  pub words : new.words ≡ old.words
  pub at : new.at ≡ old.at
  pub printed : new.printed ≡ old.printed

-- The same of a collection that moves what it keeps: the slots of the topmost window may lead elsewhere, and show what they showed.
pub record GathersSliding (old new : Parts) : Type 0 where
  pub keeps : OwnerOutside (machine_in old) (machine_in old).windows
      → Keeps (holds old.heap.cells.heap) (holds new.heap.cells.heap) (machine_in old)
  pub gathered : Gathered (holds old.heap.cells.heap) (holds new.heap.cells.heap) (machine_in old) (machine_in new) (machine_in old)
  pub frames : new.frames ≡ record old.frames { slots = new.frames.slots }
  pub words : new.words ≡ old.words
  pub at : new.at ≡ old.at
  pub printed : new.printed ≡ old.printed
