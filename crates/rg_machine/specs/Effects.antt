-- What is freed with slots, and what isn't (docs/architecture.md, "The machine").
use Rattle.std.specs.Prelude.{◌≡◌, ℕ, List, [], drop, slice_get, None, Some, true}
use Rattle.rg_base.specs.declared.value.Val.{Val}
use Rattle.rg_stack.specs.Machine.{end_slots, top_slots}
use Rattle.rg_stack.specs.Needs.{closed_into, loose}
use Rattle.rg_held.specs.Frees.{closed_among, freed}
use Rattle.rg_machine.specs.Core.{Core, with_machine, work_of}

-- the regions into which values lead that are closed are freed, with all beneath them
abbrev pub without : Core → List Val → Core
without c vs = with_machine c (freed (Some (record { regions = closed_among c.machine vs; temps = None })) (work_of c [])).machine

-- the slots of the topmost frame from one on are nil
abbrev pub emptied : Core → (s : ℕ) → Core
emptied c s = with_machine c (end_slots c.machine s)

-- the slots of the topmost frame from one on end, and what they own is freed
abbrev pub ending : Core → (s : ℕ) → Core
ending c s =
    let x = without c (drop s (top_slots c.machine.frames)) in with_machine x (end_slots x.machine s)

-- no place leads into the closed region of any value on the stack
abbrev pub AllLoose : Core → Type 0
AllLoose c = (k : ℕ) (v : Val) → slice_get c.stack k ≡ Some v → loose c.machine v ≡ true

-- nor does any of them lead into that of a value
abbrev pub Apart : Core → Val → Type 0
Apart c v = (k r : ℕ) (x : Val) → slice_get c.stack k ≡ Some x
    → (loose c.machine x ≡ true) × (closed_into c.machine x ≡ Some r → closed_into c.machine v ≡ Some r → ⊥)
