-- What stands at an owner's place is written (docs/architecture.md, "The heap").
use Rattle.std.specs.Prelude.{ℕ, ◌<◌, Option, Some, None}
use Rattle.rg_base.specs.declared.object.Place.{Place}
use Rattle.rg_base.specs.declared.object.Place.TheVariants.{Var, Field}
use Rattle.rg_cells.specs.Table.{HasSerial, body_at, width}
use Rattle.rg_frames.specs.Stack.{Stack}
use Rattle.rg_frames.specs.Changes.{InTop}
use Rattle.rg_heap.specs.Parts.{Parts}
use Rattle.rg_heap.specs.Gives.{IsNear}

-- the object that has the serial is near, and has the field
pub record CanPutField (p : Parts) (v : Stack) (serial k : ℕ) : Type 0 where
  pub holder : ℕ
  pub has : HasSerial p.cells.heap holder serial
  pub near : IsNear p v holder
  pub wide : (s : ℕ) → HasSerial p.cells.heap s serial → k < width (body_at p.cells.heap s)

-- a slot of the top frame, or such a field
abbrev pub CanPut : Parts → Stack → Option Place → Type 0
CanPut p v None = ⊥
CanPut p v (Some (Var frame s)) = InTop v s
CanPut p v (Some (Field serial k)) = CanPutField p v serial k
