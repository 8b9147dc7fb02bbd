-- What holds where a walk has come to an address.
use Rattle.std.proofs.Common.{◌≡◌, ◌≤◌, ℕ, List, Bool as Truth}
use Rattle.rg_code.specs.Code.{Code}
use Rattle.rg_stack.specs.Machine.{Machine}
use Rattle.rg_heap.specs.Parts.{Parts as HeapParts}
use Rattle.rg_machine.specs.Keeps.{SameBacks}
use Rattle.rg_machine.specs.Parts.{Parts, machine_in}
use Rattle.rg_machine.specs.Cores.{core_of}
use Rattle.rg_compute.specs.Walks.{walk_from}
use Rattle.rg_step.specs.Inner.High.{MayMake}
use Rattle.rg_step.specs.Inner.Refusals.{Stands, Unread}

-- a walk that began at an address has come to another one
pub record Walking (code : Code) (from : ℕ) (old : Parts) (at : ℕ) (now : Parts) : Type 0 where
  pub further : from ≤ at
  pub walks : (input : List ℕ) → walk_from code from (core_of old) input ≡ walk_from code at (core_of now) input
  pub stands : (start : Machine) (asks : Truth) → Stands code.ops start asks from (machine_in old) → Stands code.ops start asks at (machine_in now)
  pub backs : SameBacks (machine_in old) (machine_in now)
  pub high : (start : HeapParts) → MayMake code.ops start from old.heap → MayMake code.ops start at now.heap

-- one that asks the input has: what it did of the bytes that it found, and how many of them it left
abbrev pub SoFar : Code → (from : ℕ) → (old : Parts) → (at : ℕ) → (now : Parts) → (before after : List ℕ) → Type 0
SoFar code from old at now before after =
    (walk_from code from (core_of old) before ≡ walk_from code at (core_of now) after) × Unread code.ops from (machine_in old) at before after

-- and what it leaves
pub record Along (code : Code) (from : ℕ) (old : Parts) (at : ℕ) (now : Parts) : Type 0 where
  pub stands : (start : Machine) (asks : Truth) → Stands code.ops start asks from (machine_in old) → Stands code.ops start asks at (machine_in now)
  pub backs : SameBacks (machine_in old) (machine_in now)
  pub high : (start : HeapParts) → MayMake code.ops start from old.heap → MayMake code.ops start at now.heap
