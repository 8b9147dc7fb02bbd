-- What roots reach and how often a cell is referred to, on a small heap with a cycle, shared, frozen and freed cells.
use Rattle.std.proofs.Common.{◌≡◌, ℕ, ◌+◌, ◌≤◌, zero, suc, List, [], ◌∷◌, Option, Some, None, refl, arith, cond}
use Rattle.rg_base.specs.declared.object.Label.{Label}
use Rattle.rg_base.specs.declared.object.Label.TheVariants.{Region, Temp, Frozen}
use Rattle.rg_cells.specs.declared.cell.Body.{Body}
use Rattle.rg_base.specs.declared.value.Word.{Word}
use Rattle.rg_base.specs.declared.value.Word.TheVariants.{Nil, Int, Slot}
use Rattle.rg_cells.specs.Table.{Heap}
use Rattle.rg_regions.specs.Reach.{LiesIn, Roots, is_bridge, in_slots, in_temps, Walk, Reach, region_size}
use Rattle.rg_regions.specs.Grove.{Parent, referrers}

abbrev cell : Label → (serial : ℕ) → List Word → Option (Option Body)
cell l n ws = Some (Some (record { class = 0; label = l; serial = n; fields = ws }))

-- Region 0 has a cycle 0 <-> 1 that is shared with 2, which leads into region 1 (slot 3, its bridge) and to the frozen cell 4;
-- the temporary 5 leads to 6 of region 0; slot 7 was freed; 8 of region 0 leads to 8, and nothing else leads to it.
abbrev small : Heap
small = record {
  slots =
      cell (Region 0) 0 (Slot 1 ∷ Nil ∷ [])
      ∷ cell (Region 0) 1 (Slot 0 ∷ Int (Rattle.std.specs.Prelude.pos 5) ∷ [])
      ∷ cell (Region 0) 2 (Slot 1 ∷ Slot 3 ∷ Slot 4 ∷ [])
      ∷ cell (Region 1) 3 (Nil ∷ [])
      ∷ cell Frozen 4 []
      ∷ cell (Temp 0) 5 (Slot 6 ∷ [])
      ∷ cell (Region 0) 6 []
      ∷ Some None
      ∷ cell (Region 0) 8 (Slot 8 ∷ []) ∷ [];
  next = 9;
}

-- the slots hold 2 and a number; the one temporary is 5
abbrev roots : Roots
roots = record { bridge = None; slots = Slot 2 ∷ Int (Rattle.std.specs.Prelude.pos 0) ∷ []; temps = 5 ∷ [] }

size : region_size small 0 ≡ 5
size = refl

root_in_slots : Reach small 0 roots 2
root_in_slots = (0, omega arith, (refl, in_slots 0 refl))

root_in_temps : Reach small 0 roots 6
root_in_temps = (0, omega arith, (refl, in_temps 0 0 5 refl refl))

by_one_link : Reach small 0 roots 1
by_one_link = (1, omega arith, (refl, (2, 0, (refl, in_slots 0 refl), refl)))

by_two_links : Reach small 0 roots 0
by_two_links = (2, omega arith, (refl, (1, 0, (refl, (2, 0, (refl, in_slots 0 refl), refl)), refl)))

-- a bridge is a root of its own region, though no slot and no temporary leads to it
bridge_is_root : Reach small 1 (record { bridge = Some 3; slots = []; temps = [] }) 3
bridge_is_root = (0, omega arith, (refl, is_bridge refl))

-- a cell of another region and a frozen cell lie in none of region 0's paths
not_in_region : LiesIn small 0 3 → ⊥
not_in_region e = let q : Some (Region 1) ≡ Some (Region 0) = e in cc

-- without roots nothing is in reach, so that a cycle goes
unrooted : (h : Heap) (r : ℕ) (n s : ℕ) → Walk h r (record { bridge = None; slots = []; temps = [] }) n s → ⊥
unrooted h r zero s w = elim (w.1) [
  | is_bridge e ↦ let q : None ≡ Some s = e in cc
  | in_slots k e ↦ none_there k s e
  | in_temps i k t e f ↦ no_temp i t e
]
  where
    none_there : (k s : ℕ) → Rattle.std.proofs.Common.slice_get {X = Word} [] k ≡ Some (Slot s) → ⊥
    none_there k s e = cc

    no_temp : (i t : ℕ) → Rattle.std.proofs.Common.slice_get {X = ℕ} [] i ≡ Some t → ⊥
    no_temp i t e = cc
unrooted h r (suc n) s w = unrooted h r n w.1.0 w.1.2

-- what counting frees where the slots hold nothing: 2, then nothing of the cycle
counts : referrers small 0 1 ≡ 2
counts = refl

counts_itself : referrers small 0 8 ≡ 1
counts_itself = refl

counts_none : referrers small 0 2 ≡ 0
counts_none = refl

parent : Parent small 0 1
parent = record { differ = λ e. cc; from = 2; field = 1; to = 3; lies = refl; leads = refl; child_has = refl }
