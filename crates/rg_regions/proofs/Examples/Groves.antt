-- What a grove refuses, each on a small heap.
use Rattle.std.proofs.Common.{◌≡◌, ℕ, List, [], ◌∷◌, Option, Some, None, slice_get, refl}
use Rattle.rg_base.specs.declared.object.Label.{Label}
use Rattle.rg_base.specs.declared.object.Label.TheVariants.{Region, Frozen}
use Rattle.rg_base.specs.declared.words.Manager.TheVariants.{Trace, Count}
use Rattle.rg_cells.specs.declared.cell.Body.{Body}
use Rattle.rg_base.specs.declared.value.Word.{Word}
use Rattle.rg_base.specs.declared.value.Word.TheVariants.{Slot}
use Rattle.rg_cells.specs.Table.{Table}
use Rattle.rg_regions.specs.Table.{Record, RegionTable}
use Rattle.rg_regions.specs.Grove.{direct, further, Grove}

abbrev cell : Label → (serial : ℕ) → List Word → Option (Option Body)
cell l n ws = Some (Some (record { class = 0; label = l; serial = n; fields = ws }))

abbrev cells : List (Option (Option Body)) → (marks : List ℕ) → Table
cells xs ms = record { heap = record { slots = xs; next = 9 }; marks = ms; links = [] }

abbrev region : (number : ℕ) → (bridge : Option ℕ) → (members : List ℕ) → Record
region n b ms = record { number = n; manager = Trace; members = ms; bridge = b; room = 0 }

abbrev table : List (Option Record) → RegionTable
table rs = record { records = rs; links = []; next = 9 }

-- two numbers are one
abbrev Same : ℕ → ℕ → Type 0
Same a b = a ≡ b

-- two keys with one number
one_number_twice : Grove (cells [] []) (table (Some (region 5 None []) ∷ Some (region 5 None []) ∷ [])) → ⊥
one_number_twice g = let e : Same 0 1 = g.numbers 0 1 5 refl refl in cc

-- a cell that is no member of its region
none_at : (i s : ℕ) → slice_get {X = ℕ} [] i ≡ Some s → ⊥
none_at i s e = cc

a_member_forgotten : Grove (cells (cell (Region 0) 0 [] ∷ []) (0 ∷ [])) (table (Some (region 0 None []) ∷ [])) → ⊥
a_member_forgotten g = let w = (g.members 0 (region 0 None []) refl).all 0 refl in none_at w.0 0 w.1

-- a member that is frozen
a_member_frozen : Grove (cells (cell Frozen 0 [] ∷ []) (0 ∷ [])) (table (Some (region 0 None (0 ∷ [])) ∷ [])) → ⊥
a_member_frozen g =
    let e : Some Frozen ≡ Some (Region 0) = (g.members 0 (region 0 None (0 ∷ [])) refl).lie 0 0 refl in
    cc

-- one member twice
a_member_twice : Grove (cells (cell (Region 0) 0 [] ∷ []) (0 ∷ [])) (table (Some (region 0 None (0 ∷ 0 ∷ [])) ∷ [])) → ⊥
a_member_twice g = let e : Same 0 1 = (g.members 0 (region 0 None (0 ∷ 0 ∷ [])) refl).once 0 1 0 refl refl in cc

-- a bridge that isn't held
a_bridge_freed : Grove (cells (Some None ∷ []) (0 ∷ [])) (table (Some (region 1 (Some 0) []) ∷ [])) → ⊥
a_bridge_freed g = let e : None ≡ Some (Region 1) = g.bridges 0 0 (region 1 (Some 0) []) refl refl in cc

-- a frozen cell that leads to one of a region
out_of_frozen : (t : RegionTable) → Grove (cells (cell Frozen 0 (Slot 1 ∷ []) ∷ cell (Region 0) 1 [] ∷ []) (0 ∷ 0 ∷ [])) t → ⊥
out_of_frozen t g = let e : Some (Region 0) ≡ Some Frozen = g.frozen 0 0 1 refl refl in cc

-- two fields of region 0 that lead into region 1
two_owners : (t : RegionTable)
    → Grove (cells (cell (Region 0) 0 (Slot 1 ∷ Slot 1 ∷ []) ∷ cell (Region 1) 1 [] ∷ []) (0 ∷ 0 ∷ [])) t → ⊥
two_owners t g =
    let e : Same 0 1 = (g.one_in 1 0 0 0 1 0 0 1 1 (λ q. cc) refl refl refl (λ q. cc) refl refl refl).1 in
    cc

-- a field that leads into region 0
an_owner_of_the_first : (t : RegionTable)
    → Grove (cells (cell (Region 0) 0 [] ∷ cell (Region 1) 1 (Slot 0 ∷ []) ∷ []) (0 ∷ 0 ∷ [])) t → ⊥
an_owner_of_the_first t g = g.none_into_first 1 1 0 0 (λ q. cc) refl refl refl

-- two regions that own each other
each_in_the_other : (t : RegionTable)
    → Grove (cells (cell (Region 1) 0 (Slot 1 ∷ []) ∷ cell (Region 2) 1 (Slot 0 ∷ []) ∷ []) (0 ∷ 0 ∷ [])) t → ⊥
each_in_the_other t g = g.no_cycle 1 (further
    (direct (record { differ = λ q. cc; from = 0; field = 0; to = 1; lies = refl; leads = refl; child_has = refl }))
    (record { differ = λ q. cc; from = 1; field = 0; to = 0; lies = refl; leads = refl; child_has = refl }))

-- a count of 1 for a cell to which two fields lead
a_count_too_small : Grove
    (cells (cell (Region 0) 0 (Slot 1 ∷ Slot 1 ∷ []) ∷ cell (Region 0) 1 [] ∷ []) (0 ∷ 1 ∷ []))
    (table (Some (record { number = 0; manager = Count; members = 0 ∷ 1 ∷ []; bridge = None; room = 0 }) ∷ [])) → ⊥
a_count_too_small g =
    let r : Record = record { number = 0; manager = Count; members = 0 ∷ 1 ∷ []; bridge = None; room = 0 } in
    let e : Same 1 2 = g.counts 0 1 r refl refl refl in
    cc

-- a frozen cell with a mark
a_mark_on_a_frozen_cell : Grove (cells (cell Frozen 0 [] ∷ []) (1 ∷ [])) (table []) → ⊥
a_mark_on_a_frozen_cell g =
    let e : Same 1 0 = g.unmarked 0 (λ key r i m l. let q : Some Frozen ≡ Some (Region r.number) = l in cc) in
    cc
