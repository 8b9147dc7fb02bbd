-- Labels of objects, and words that lead to a slot: those that are the same, and those that can't be.
use Rattle.std.proofs.Common.{◌≡◌, ℕ, Some}
use Rattle.rg_base.specs.declared.object.Label.TheVariants.{Region, Temp, Frozen}
use Rattle.rg_base.specs.declared.value.Word.TheVariants.{Slot}

pub region-same : (a b : ℕ) → Some (Region a) ≡ Some (Region b) → a ≡ b
region-same a b e = cc

pub region-number : (a b : ℕ) → Region a ≡ Region b → a ≡ b
region-number a b e = cc

pub temp-region : (n r : ℕ) → Some (Temp n) ≡ Some (Region r) → ⊥
temp-region n r e = cc

pub frozen-region : (r : ℕ) → Some Frozen ≡ Some (Region r) → ⊥
frozen-region r e = cc

-- the same, from which anything follows
pub region-temp : {B : Type 0} (r n : ℕ) → Region r ≡ Temp n → B
region-temp r n e = absurd cc

pub slot-same : (a b : ℕ) → Slot a ≡ Slot b → a ≡ b
slot-same a b e = cc
