-- What calls of the heap leave of the number of objects made, and of slots ever held. For crates above too.
use Rattle.std.proofs.Common.{◌≡◌, ℕ, ◌-◌, zero, suc, ◌+◌, List, [], ◌∷◌, length, Option, Some, None, get_or, set, count_by, is_some, cond}
use Rattle.std.proofs.Common.{refl, sym, ap, ◌∙◌}
use Rattle.std.proofs.lemmas.List.Sums.{sum_by-cons}
use Rattle.rg_base.specs.declared.object.Label.TheVariants.{Region, Temp}
use Rattle.rg_base.specs.declared.value.Word.{Word}
use Rattle.rg_cells.specs.declared.cell.Body.{Body}
use Rattle.rg_cells.specs.Table.{Heap, body_in, high_of, with_body, with_field}
use Rattle.rg_regions.specs.Grove.{Below}
use Rattle.rg_frames.specs.Stack.{Stack}
use Rattle.rg_heap.specs.Reads.{LeadsIntoClosed}
use Rattle.rg_heap.specs.Changes.{Makes, OnActive}
use Rattle.rg_heap.specs.Ends.{NoCell, OnRegion, OnSlot, Released}
use Rattle.rg_heap.specs.Parts.{OnTop, Parts}
use Rattle.rg_machine.specs.High.{NoneMade, OneMade}
use Rattle.rg_machine.specs.Stands.{Stands}
use Rattle.rg_machine.proofs.Known.{top-window}

-- the same heap
pub none-same : (old new : Parts) → new ≡ old → NoneMade old new
none-same old new e =
    record { made = ap (λ (p : Parts). p.cells.heap.next) e; high = ap (λ (p : Parts). high_of p.cells.heap) e }

-- one change after another
pub none-then : (old mid new : Parts) → NoneMade old mid → NoneMade mid new → NoneMade old new
none-then old mid new a b = record { made = b.made ∙ a.made; high = b.high ∙ a.high }

-- A field that is written

-- a slot that was held is held before and after
count-set : (xs : List (Option (Option Body))) (s : ℕ) (o b : Option Body) → get_or xs s None ≡ Some o
    → count_by is_some (set xs s (Some b)) ≡ count_by is_some xs
count-set [] s o b e = cc
count-set (x ∷ xs) zero o b e = rw e
count-set (x ∷ xs) (suc s) o b e =
    let ih : count_by is_some (set xs s (Some b)) ≡ count_by is_some xs = count-set xs s o b e in
    sum_by-cons (λ y. cond (is_some y) 1 0) x (set xs s (Some b)) ∙ ap (λ n. cond (is_some x) 1 0 + n) ih
    ∙ sym (sum_by-cons (λ y. cond (is_some y) 1 0) x xs)

-- whether a cell stands at the slot or not
field-kept : (h : Heap) (slot k : ℕ) (w : Word) → (o : Option (Option Body)) → get_or h.slots slot None ≡ o
    → (let after : Heap = elim (body_in o) [ None ↦ h | Some b ↦ with_body h slot (record b { fields = set b.fields k w }) ] in
    (after.next ≡ h.next) × (high_of after ≡ high_of h))
field-kept h slot k w None e = (refl, refl)
field-kept h slot k w (Some None) e = (refl, refl)
field-kept h slot k w (Some (Some b)) e = (refl, count-set h.slots slot (Some b) (Some (record b { fields = set b.fields k w })) e)

pub none-written : (old new : Parts) (slot k : ℕ) (w : Word) → new.cells.heap ≡ with_field old.cells.heap slot k w → NoneMade old new
none-written old new slot k w e =
    let h = old.cells.heap in
    let kept = field-kept h slot k w (get_or h.slots slot None) refl in
    record { made = ap (λ (h : Heap). h.next) e ∙ kept.0; high = ap high_of e ∙ kept.1 }

-- Regions that are released

pub none-released : (old new : Parts) (R C : ℕ → Type 0) → Released old new R C → NoneMade old new
none-released old new R C r = record { made = r.serials; high = r.high }

-- the region that a word owns
pub none-dropped : (old new : Parts) (v : Stack) (w : Word) → LeadsIntoClosed old v w
    → OnSlot w (λ slot. OnRegion old slot (λ key number. Released old new (Below old.cells.heap old.regions number) NoCell)) → NoneMade old new
none-dropped old new v w c r = none-released old new _ _ (r c.1 c.2 c.4.0 c.0 c.3 c.4.1)

-- Objects that are made

module _ (old new : Parts) (v : Stack) (st : Stands old v) (slot class : ℕ) (fields : List Word) where
  pub one-active : OnActive old.regions v (λ key n. Makes old.cells new.cells slot class (Region n) fields) → OneMade old new
  one-active cell =
      let w = top-window old v st in
      let n = st.opened.known (length v.windows - 1) w.0 w.1 in
      let m = cell w.0 n.0 w.1 n.1 in
      record { made = m.next; high = m.high }

  pub one-temp : OnTop v (λ w. Makes old.cells new.cells slot class (Temp w.number) fields) → OneMade old new
  one-temp cell =
      let w = top-window old v st in
      let m = cell w.0 w.1 in
      record { made = m.next; high = m.high }
