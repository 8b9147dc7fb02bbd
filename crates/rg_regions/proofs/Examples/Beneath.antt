-- What is beneath a region, on a small heap.
use Rattle.std.proofs.Common.{◌≡◌, ◌≢◌, ℕ, sym, subst, zero, suc, List, [], ◌∷◌, Option, Some, None, refl, inl, inr}
use Rattle.rg_base.specs.declared.object.Label.{Label}
use Rattle.rg_base.specs.declared.object.Label.TheVariants.{Region, Temp, Frozen}
use Rattle.rg_base.specs.declared.words.Manager.TheVariants.{Trace}
use Rattle.rg_cells.specs.declared.cell.Body.{Body}
use Rattle.rg_base.specs.declared.value.Word.{Word}
use Rattle.rg_base.specs.declared.value.Word.TheVariants.{Nil, Slot}
use Rattle.rg_cells.specs.Table.{Heap, field_at}
use Rattle.rg_regions.specs.Table.{Record, RegionTable}
use Rattle.rg_regions.specs.Reach.{LiesIn}
use Rattle.rg_regions.specs.Grove.{Parent, Above, direct, further, Below}

abbrev cell : Label → (serial : ℕ) → List Word → Option (Option Body)
cell l n ws = Some (Some (record { class = 0; label = l; serial = n; fields = ws }))

-- Region 0 owns region 1, region 1 owns region 2 and region 2 owns region 3, each by another cell than its bridge. A cell of
-- region 1 leads to a frozen cell, and that one to a cell of region 4. A temporary owns region 5, and region 5 owns region 6.
abbrev levels : Heap
levels = record {
  slots =
      cell (Region 0) 0 (Nil ∷ Slot 1 ∷ [])
      ∷ cell (Region 1) 1 (Slot 2 ∷ Slot 6 ∷ [])
      ∷ cell (Region 1) 2 (Slot 1 ∷ Slot 3 ∷ [])
      ∷ cell (Region 2) 3 (Slot 4 ∷ [])
      ∷ cell (Region 2) 4 (Slot 5 ∷ [])
      ∷ cell (Region 3) 5 []
      ∷ cell Frozen 6 (Slot 7 ∷ [])
      ∷ cell (Region 4) 7 []
      ∷ cell (Temp 0) 8 (Slot 9 ∷ [])
      ∷ cell (Region 5) 9 (Slot 10 ∷ [])
      ∷ cell (Region 6) 10 [] ∷ [];
  next = 11;
}

abbrev one : (number : ℕ) → (bridge : Option ℕ) → (members : List ℕ) → Option Record
one n b ms = Some (record { number = n; manager = Trace; members = ms; bridge = b; room = 0 })

abbrev table : RegionTable
table = record {
  records =
      one 0 None (0 ∷ [])
      ∷ one 1 (Some 1) (1 ∷ 2 ∷ [])
      ∷ one 2 (Some 3) (3 ∷ 4 ∷ [])
      ∷ one 3 (Some 5) (5 ∷ [])
      ∷ one 4 (Some 7) (7 ∷ [])
      ∷ one 5 (Some 9) (9 ∷ [])
      ∷ one 6 (Some 10) (10 ∷ []) ∷ [];
  links = None ∷ None ∷ None ∷ None ∷ None ∷ None ∷ None ∷ [];
  next = 7;
}

one_two : Parent levels 1 2
one_two = record { differ = λ e. cc; from = 2; field = 1; to = 3; lies = refl; leads = refl; child_has = refl }

two_three : Parent levels 2 3
two_three = record { differ = λ e. cc; from = 4; field = 0; to = 5; lies = refl; leads = refl; child_has = refl }

itself : Below levels table 1 1
itself = inl refl

one_down : Below levels table 1 2
one_down = inr ((2, refl), direct one_two)

two_down : Below levels table 1 3
two_down = inr ((3, refl), further (direct one_two) two_three)

-- what a temporary owns has its own beneath it
of_a_temporary : Below levels table 5 6
of_a_temporary = inr ((6, refl), direct (record { differ = λ e. cc; from = 9; field = 0; to = 10; lies = refl; leads = refl; child_has = refl }))

-- no cell of a region leads to the slots 7 and 9: the frozen cell and the temporary, which do, belong to none
none_to_seven : (p from field : ℕ) → LiesIn levels p from → field_at levels from field ≡ Some (Slot 7) → ⊥
none_to_seven p zero zero l f = cc
none_to_seven p zero (suc zero) l f = cc
none_to_seven p zero (suc (suc k)) l f = cc
none_to_seven p (suc zero) zero l f = cc
none_to_seven p (suc zero) (suc zero) l f = cc
none_to_seven p (suc zero) (suc (suc k)) l f = cc
none_to_seven p (suc (suc zero)) zero l f = cc
none_to_seven p (suc (suc zero)) (suc zero) l f = cc
none_to_seven p (suc (suc zero)) (suc (suc k)) l f = cc
none_to_seven p (suc (suc (suc zero))) zero l f = cc
none_to_seven p (suc (suc (suc zero))) (suc k) l f = cc
none_to_seven p (suc (suc (suc (suc zero)))) zero l f = cc
none_to_seven p (suc (suc (suc (suc zero)))) (suc k) l f = cc
none_to_seven p (suc (suc (suc (suc (suc zero))))) k l f = cc
none_to_seven p (suc (suc (suc (suc (suc (suc zero)))))) k l f = cc
none_to_seven p (suc (suc (suc (suc (suc (suc (suc zero))))))) k l f = cc
none_to_seven p (suc (suc (suc (suc (suc (suc (suc (suc zero)))))))) k l f = cc
none_to_seven p (suc (suc (suc (suc (suc (suc (suc (suc (suc zero))))))))) zero l f = cc
none_to_seven p (suc (suc (suc (suc (suc (suc (suc (suc (suc zero))))))))) (suc k) l f = cc
none_to_seven p (suc (suc (suc (suc (suc (suc (suc (suc (suc (suc zero)))))))))) k l f = cc
none_to_seven p (suc (suc (suc (suc (suc (suc (suc (suc (suc (suc (suc from))))))))))) k l f = cc

none_to_nine : (p from field : ℕ) → LiesIn levels p from → field_at levels from field ≡ Some (Slot 9) → ⊥
none_to_nine p zero zero l f = cc
none_to_nine p zero (suc zero) l f = cc
none_to_nine p zero (suc (suc k)) l f = cc
none_to_nine p (suc zero) zero l f = cc
none_to_nine p (suc zero) (suc zero) l f = cc
none_to_nine p (suc zero) (suc (suc k)) l f = cc
none_to_nine p (suc (suc zero)) zero l f = cc
none_to_nine p (suc (suc zero)) (suc zero) l f = cc
none_to_nine p (suc (suc zero)) (suc (suc k)) l f = cc
none_to_nine p (suc (suc (suc zero))) zero l f = cc
none_to_nine p (suc (suc (suc zero))) (suc k) l f = cc
none_to_nine p (suc (suc (suc (suc zero)))) zero l f = cc
none_to_nine p (suc (suc (suc (suc zero)))) (suc k) l f = cc
none_to_nine p (suc (suc (suc (suc (suc zero))))) k l f = cc
none_to_nine p (suc (suc (suc (suc (suc (suc zero)))))) k l f = cc
none_to_nine p (suc (suc (suc (suc (suc (suc (suc zero))))))) k l f = cc
none_to_nine p (suc (suc (suc (suc (suc (suc (suc (suc zero)))))))) k l f = cc
none_to_nine p (suc (suc (suc (suc (suc (suc (suc (suc (suc zero))))))))) zero l f = cc
none_to_nine p (suc (suc (suc (suc (suc (suc (suc (suc (suc zero))))))))) (suc k) l f = cc
none_to_nine p (suc (suc (suc (suc (suc (suc (suc (suc (suc (suc zero)))))))))) k l f = cc
none_to_nine p (suc (suc (suc (suc (suc (suc (suc (suc (suc (suc (suc from))))))))))) k l f = cc

only_seven : (to : ℕ) → LiesIn levels 4 to → to ≡ 7
only_seven zero l = cc
only_seven (suc zero) l = cc
only_seven (suc (suc zero)) l = cc
only_seven (suc (suc (suc zero))) l = cc
only_seven (suc (suc (suc (suc zero)))) l = cc
only_seven (suc (suc (suc (suc (suc zero))))) l = cc
only_seven (suc (suc (suc (suc (suc (suc zero)))))) l = cc
only_seven (suc (suc (suc (suc (suc (suc (suc zero))))))) l = refl
only_seven (suc (suc (suc (suc (suc (suc (suc (suc zero)))))))) l = cc
only_seven (suc (suc (suc (suc (suc (suc (suc (suc (suc zero))))))))) l = cc
only_seven (suc (suc (suc (suc (suc (suc (suc (suc (suc (suc zero)))))))))) l = cc
only_seven (suc (suc (suc (suc (suc (suc (suc (suc (suc (suc (suc to))))))))))) l = cc

only_nine : (to : ℕ) → LiesIn levels 5 to → to ≡ 9
only_nine zero l = cc
only_nine (suc zero) l = cc
only_nine (suc (suc zero)) l = cc
only_nine (suc (suc (suc zero))) l = cc
only_nine (suc (suc (suc (suc zero)))) l = cc
only_nine (suc (suc (suc (suc (suc zero))))) l = cc
only_nine (suc (suc (suc (suc (suc (suc zero)))))) l = cc
only_nine (suc (suc (suc (suc (suc (suc (suc zero))))))) l = cc
only_nine (suc (suc (suc (suc (suc (suc (suc (suc zero)))))))) l = cc
only_nine (suc (suc (suc (suc (suc (suc (suc (suc (suc zero))))))))) l = refl
only_nine (suc (suc (suc (suc (suc (suc (suc (suc (suc (suc zero)))))))))) l = cc
only_nine (suc (suc (suc (suc (suc (suc (suc (suc (suc (suc (suc to))))))))))) l = cc

last_link : (p q : ℕ) → Above levels p q → (m : ℕ) × Parent levels m q
last_link p q (direct w) = (p, w)
last_link p q (further {q = m} a w) = (m, w)

-- a frozen cell leads to no region beneath
not_behind_frozen : (top : ℕ) → top ≢ 4 → Below levels table top 4 → ⊥
not_behind_frozen top d (inl e) = d (sym e)
not_behind_frozen top d (inr a) =
    let w = (last_link top 4 a.1).1 in
    let P : ℕ → Type 0 = λ x. field_at levels w.from w.field ≡ Some (Slot x) in
    none_to_seven (last_link top 4 a.1).0 w.from w.field w.lies (subst P (only_seven w.to w.child_has) w.leads)

-- nothing is above a region that a temporary owns
nothing_above : (top : ℕ) → top ≢ 5 → Below levels table top 5 → ⊥
nothing_above top d (inl e) = d (sym e)
nothing_above top d (inr a) =
    let w = (last_link top 5 a.1).1 in
    let P : ℕ → Type 0 = λ x. field_at levels w.from w.field ≡ Some (Slot x) in
    none_to_nine (last_link top 5 a.1).0 w.from w.field w.lies (subst P (only_nine w.to w.child_has) w.leads)
