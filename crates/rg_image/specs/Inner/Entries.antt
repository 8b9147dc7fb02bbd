-- Fields that lead into regions from outside, counted by region, up to two.
use Rattle.std.specs.Prelude.{◌≡◌, ℕ, suc, ◌+◌, min, ◌==◌, ◌&&◌, not, Bool as Truth, true, false, if◌then◌else◌, List, [], ◌∷◌, length, Option}
use Rattle.std.specs.Prelude.{Some, None, slice_get}
use Rattle.rg_base.specs.declared.object.Label.{Label}
use Rattle.rg_base.specs.declared.object.Label.TheVariants.{Region, Temp, Frozen}

-- to the count of each region so many were added; a count isn't above two
pub record Adds (old new : List ℕ) (more : ℕ → ℕ) : Type 0 where
  pub even : length new ≡ length old
  pub each : (r n : ℕ) → slice_get old r ≡ Some n → n ≡ min n 2 → slice_get new r ≡ Some (min (n + more r) 2)

-- whether a field of an object with a label that leads into a region enters it
abbrev pub enters : Label → (region : ℕ) → Truth
enters (Region q) r = not (q == r)
enters (Temp t) r = true
enters Frozen r = false

-- the region of a label, if there is one
abbrev pub region_in : Option Label → Option ℕ
region_in None = None
region_in (Some (Region r)) = Some r
region_in (Some (Temp t)) = None
region_in (Some Frozen) = None

-- whether the counts from that region on are one each, and that of region 0 none
abbrev pub are_right : (region : ℕ) → List ℕ → Truth
are_right r [] = true
are_right r (n ∷ ns) = n == (if r == 0 then 0 else 1) && are_right (suc r) ns
