-- What an instruction that is refused leaves, and what one leaves of the frames (docs/architecture.md, "The machine").
use Rattle.std.specs.Prelude.{◌≡◌, ℕ, List, [], ◌∷◌, map, Bool as Truth, true, false}
use Rattle.rg_code.specs.declared.op.Op.{Op}
use Rattle.rg_code.specs.declared.op.Op.TheVariants as i
use Rattle.rg_stack.specs.Machine.{Frame, Machine}
use Rattle.rg_stack.specs.Refusals.{Manner, Ends, Clears, Settles, Takes, Computes, Prepares, Calls, Chooses, Passes}
use Rattle.rg_machine.specs.declared.next.Next.{Next}
use Rattle.rg_machine.specs.declared.next.Next.TheVariants as next

-- the addresses to which frames go back
abbrev pub backs : List Frame → List ℕ
backs fs = map (λ (f : Frame). f.back) fs

-- frames go back where they did
abbrev pub SameBacks : (old new : Machine) → Type 0
SameBacks old new = backs new.frames ≡ backs old.frames

-- the topmost frame isn't the last one, and goes back to an address
abbrev pub GoesBack : List Frame → (to : ℕ) → Type 0
GoesBack [] to = ⊥
GoesBack (f ∷ []) to = ⊥
GoesBack (f ∷ g ∷ fs) to = f.back ≡ to

-- an instruction of a manner goes on at the next one
abbrev pub GoesOn : Manner → (old new : Machine) → Type 0
GoesOn Ends old new = ⊥
GoesOn Clears old new = SameBacks old new
GoesOn Settles old new = SameBacks old new
GoesOn Takes old new = SameBacks old new
GoesOn Computes old new = new ≡ old
GoesOn Prepares old new = ⊥
GoesOn Calls old new = ⊥
GoesOn (Chooses t) old new = new ≡ old
GoesOn (Passes t) old new = new ≡ old

-- it goes on at an address
abbrev pub GoesTo : Manner → (to : ℕ) → (old new : Machine) → Type 0
GoesTo Ends to old new = ⊥
GoesTo Clears to old new = ⊥
GoesTo Settles to old new = ⊥
GoesTo Takes to old new = ⊥
GoesTo Computes to old new = ⊥
GoesTo Prepares to old new = ⊥
GoesTo Calls to old new = ⊥
GoesTo (Chooses t) to old new = (to ≡ t) × (new ≡ old)
GoesTo (Passes t) to old new = (to ≡ t) × (new ≡ old)

-- it is refused, or asks for what may be refused, and leaves the machine
abbrev pub Leaves : Manner → (old new : Machine) → Type 0
Leaves Ends old new = ⊥
Leaves Clears old new = ⊥
Leaves Settles old new = ⊥
Leaves Takes old new = new ≡ old
Leaves Computes old new = new ≡ old
Leaves Prepares old new = new ≡ old
Leaves Calls old new = new ≡ old
Leaves (Chooses t) old new = ⊥
Leaves (Passes t) old new = new ≡ old

-- it asks the input, and leaves the machine
abbrev pub Asks : Manner → (old new : Machine) → Type 0
Asks Ends old new = ⊥
Asks Clears old new = ⊥
Asks Settles old new = ⊥
Asks Takes old new = new ≡ old
Asks Computes old new = new ≡ old
Asks Prepares old new = ⊥
Asks Calls old new = ⊥
Asks (Chooses t) old new = ⊥
Asks (Passes t) old new = ⊥

-- it asks for room, and leaves the machine
abbrev pub WantsRoom : Manner → (old new : Machine) → Type 0
WantsRoom Ends old new = ⊥
WantsRoom Clears old new = ⊥
WantsRoom Settles old new = ⊥
WantsRoom Takes old new = ⊥
WantsRoom Computes old new = ⊥
WantsRoom Prepares old new = new ≡ old
WantsRoom Calls old new = ⊥
WantsRoom (Chooses t) old new = ⊥
WantsRoom (Passes t) old new = ⊥

-- whether an instruction asks the input
abbrev pub asking : Op → Truth
asking i.Read = true
asking i.More = true
asking o = false

-- what an instruction of a manner did, which asks the input or doesn't
abbrev pub Keeping : Manner → (asks : Truth) → (old new : Machine) → Next → Type 0
Keeping m asks old new next.On = GoesOn m old new
Keeping m asks old new (next.To t) = GoesTo m t old new
Keeping m asks old new next.Read = (asks ≡ true) × Asks m old new × (m ≡ Takes)
Keeping m asks old new next.More = (asks ≡ true) × Asks m old new
Keeping m asks old new next.Room = WantsRoom m old new
Keeping m asks old new (next.Stop t) = Unit {0}
Keeping m asks old new (next.Return t) = GoesBack old.frames t
Keeping m asks old new (next.Trap k) = Leaves m old new
Keeping m asks old new next.Memory = Leaves m old new
Keeping m asks old new next.Lost = Unit {0}
