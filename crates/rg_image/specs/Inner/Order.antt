-- What the objects of a list are tested for one behind the other, as one pass (docs/architecture.md, "Images").
use Rattle.std.specs.Prelude.{ℕ, suc, ◌==◌, ◌&&◌, Bool as Truth, false, if◌then◌else◌, nat_lt, List, [], ◌∷◌, Option, Some, None}
use Rattle.std.specs.Prelude.{option_and_then}
use Rattle.rg_cown.specs.declared.cargo.CargoCell.{CargoCell}
use Rattle.rg_cown.specs.Cargo.{named_in, region_named, frozen_fits}

-- How many objects and regions are numbered behind an object at a place, where so many were before; none where one is passed over, the object
-- comes before it is named, or it is frozen and leads to one that isn't.
abbrev pub pass : List CargoCell → (place objects regions : ℕ) → CargoCell → Option (ℕ × ℕ)
pass cells k n m c =
    if nat_lt k n then
    option_and_then (λ a. option_and_then (λ b. if frozen_fits cells c.label c.fields then Some (a, b) else None) (region_named m c.label))
    (named_in n c.fields)
    else None

-- the same behind objects, the first of which has that place
abbrev pub passes : List CargoCell → (place objects regions : ℕ) → List CargoCell → Option (ℕ × ℕ)
passes cells k n m [] = Some (n, m)
passes cells k n m (c ∷ cs) = option_and_then (λ (p : ℕ × ℕ). passes cells (suc k) p.0 p.1 cs) (pass cells k n m c)

-- whether they are so many, if there are any
abbrev pub come_to : (objects regions : ℕ) → Option (ℕ × ℕ) → Truth
come_to o r None = false
come_to o r (Some p) = p.0 == o && p.1 == r
