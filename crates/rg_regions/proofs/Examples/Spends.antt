-- What counting frees: a chain to which nothing leads goes; a cell that leads to itself never does, nor do two in a circle.
use Rattle.std.proofs.Common.{◌≡◌, ℕ, zero, suc, [], ◌∷◌, Some, None, slice_get, refl, sym, ◌∙◌, subst, arith}
use Rattle.rg_base.specs.declared.object.Label.TheVariants.{Region}
use Rattle.rg_base.specs.declared.value.Word.{Word}
use Rattle.rg_base.specs.declared.value.Word.TheVariants.{Slot}
use Rattle.rg_cells.specs.Table.{Heap, field_at}
use Rattle.rg_regions.specs.Reach.{LiesIn, Roots, Stands, is_bridge, in_slots, in_temps}
use Rattle.rg_regions.specs.Spent.{IsSpentOrder, Spent}

-- cell 0 leads to cell 1, and there are no roots
abbrev chain : Heap
chain = record {
  slots = Some (Some (record { class = 0; label = Region 0; serial = 0; fields = Slot 1 ∷ [] }))
      ∷ Some (Some (record { class = 0; label = Region 0; serial = 1; fields = [] })) ∷ [];
  next = 2;
}

abbrev nothing : Roots
nothing = record { bridge = None; slots = []; temps = [] }

none_stands : (h : Heap) (s : ℕ) → Stands h nothing s → ⊥
none_stands h s w = elim w [
  | is_bridge e ↦ let q : None ≡ Some s = e in cc
  | in_slots k e ↦ none_there k s e
  | in_temps i k t e f ↦ no_temp i t e
]
  where
    none_there : (k s : ℕ) → slice_get {X = Word} [] k ≡ Some (Slot s) → ⊥
    none_there k s e = cc

    no_temp : (i t : ℕ) → slice_get {X = ℕ} [] i ≡ Some t → ⊥
    no_temp i t e = cc

-- in the order 0, 1 each cell stands at its own number
place_is : (i s : ℕ) → slice_get (0 ∷ 1 ∷ []) i ≡ Some s → i ≡ s
place_is zero s e = cc
place_is (suc zero) s e = cc
place_is (suc (suc i)) s e = absurd cc

lies : (i s : ℕ) → slice_get (0 ∷ 1 ∷ []) i ≡ Some s → LiesIn chain 0 s
lies zero s e = subst (λ x. LiesIn chain 0 x) (place_is zero s e) refl
lies (suc zero) s e = subst (λ x. LiesIn chain 0 x) (place_is (suc zero) s e) refl
lies (suc (suc i)) s e = absurd cc

-- the one field is cell 0's
from_first : (p k s : ℕ) → field_at chain p k ≡ Some (Slot s) → (p ≡ 0) × (s ≡ 1)
from_first zero zero s e = (refl, cc)
from_first zero (suc k) s e = absurd cc
from_first (suc zero) k s e = absurd cc
from_first (suc (suc p)) k s e = absurd cc

order : IsSpentOrder chain 0 nothing (0 ∷ 1 ∷ [])
order = record {
  lie = lies;
  once = λ i j s p q. place_is i s p ∙ sym (place_is j s q);
  no_root = λ i s p w. none_stands chain s w;
  earlier = λ i s p k e l f.
      let w = from_first p k s f in
      (0, omega (arith, place_is i s e, w.1), subst (λ x. slice_get (0 ∷ 1 ∷ []) 0 ≡ Some x) (sym w.0) refl);
}

both_go : Spent chain 0 nothing 0 × Spent chain 0 nothing 1
both_go = ((0 ∷ 1 ∷ [], order, (0, refl)), (0 ∷ 1 ∷ [], order, (1, refl)))

-- a root is never spent
root_stays : (h : Heap) (r : ℕ) (roots : Roots) (s : ℕ) → Stands h roots s → Spent h r roots s → ⊥
root_stays h r roots s w g = g.1.no_root g.2.0 s g.2.1 w

-- a cell that leads to itself is never spent
on_itself : (h : Heap) (r : ℕ) (roots : Roots) (s k : ℕ) → LiesIn h r s → field_at h s k ≡ Some (Slot s) → Spent h r roots s → ⊥
on_itself h r roots s k l f g =
    let e = g.1.earlier g.2.0 s s k g.2.1 l f in
    absurd (omega (arith, e.1, g.1.once e.0 g.2.0 s e.2 g.2.1))

-- of two cells that lead to each other neither is ever spent
in_a_circle : (h : Heap) (r : ℕ) (roots : Roots) (s p j k : ℕ) → LiesIn h r s → LiesIn h r p → field_at h s j ≡ Some (Slot p)
    → field_at h p k ≡ Some (Slot s) → Spent h r roots s → ⊥
in_a_circle h r roots s p j k l m f g w =
    let e = w.1.earlier w.2.0 s p k w.2.1 m g in
    let d = w.1.earlier e.0 p s j e.2 l f in
    absurd (omega (arith, e.1, d.1, w.1.once d.0 w.2.0 s d.2 w.2.1))
