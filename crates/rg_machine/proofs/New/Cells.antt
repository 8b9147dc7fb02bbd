-- Cells where one comes whose fields lead nowhere.
use Rattle.std.proofs.Common.{◌≡◌, ◌≢◌, ◌⊎◌, inl, inr, ℕ, zero, suc, List, [], ◌∷◌, Some, slice_get, option_map, option_and_then, sym, ap}
use Rattle.std.proofs.Common.{◌∙◌, true}
use Rattle.std.proofs.lemmas.Bool.{cases_eq, false≢true}
use Rattle.std.proofs.lemmas.Option.{none-some, same_Some}
use Rattle.rg_base.specs.declared.object.Label.{Label}
use Rattle.rg_base.specs.declared.value.Word.{Word}
use Rattle.rg_base.specs.declared.value.Word.TheVariants.{Nil, Int, Bool, Slot}
use Rattle.rg_cells.specs.declared.cell.Body.{Body}
use Rattle.rg_cells.specs.Table.{Table, body_at, field_at, label_at, IsHeld}
use Rattle.rg_regions.proofs.Callers.Told.{labelled_held}
use Rattle.rg_stack.specs.Needs.{leads_nowhere}
use Rattle.rg_heap.specs.Changes.{LeadsNowhere, Makes}
use Rattle.rg_view.proofs.Callers.New.{made-body, other-body}
use Rattle.rg_view.proofs.Callers.Shown.{held-body, body-held}

-- words of which the test says that none leads anywhere
pub nowhere : (ws : List Word) → leads_nowhere ws ≡ true → LeadsNowhere ws
nowhere [] h k s e = none-some (Slot s) e
nowhere (Nil ∷ ws) h zero s e = let f : Nil ≡ Slot s = same_Some Nil (Slot s) e in absurd cc
nowhere (Nil ∷ ws) h (suc k) s e = nowhere ws h k s e
nowhere (Int z ∷ ws) h zero s e = let f : Int z ≡ Slot s = same_Some (Int z) (Slot s) e in absurd cc
nowhere (Int z ∷ ws) h (suc k) s e = nowhere ws h k s e
nowhere (Bool b ∷ ws) h zero s e = let f : Bool b ≡ Slot s = same_Some (Bool b) (Slot s) e in absurd cc
nowhere (Bool b ∷ ws) h (suc k) s e = nowhere ws h k s e
nowhere (Slot x ∷ ws) h k s e = false≢true h

-- The cells

module _ (old new : Table) (slot class : ℕ) (label : Label) (fields : List Word) (m : Makes old new slot class label fields)
    (plain : LeadsNowhere fields) where
  pub held-other : (s : ℕ) → IsHeld old.heap s → s ≢ slot
  held-other s h is = let b = held-body old.heap s h in none-some b.0 (sym m.takes.vacant ∙ ap (body_at old.heap) (sym is) ∙ b.1)

  pub made-held : (s : ℕ) → IsHeld old.heap s → IsHeld new.heap s
  made-held s h = let b = held-body old.heap s h in body-held new.heap s b.0 (made-body old new slot class label fields m s b.0 b.1)

  pub label-held : (s : ℕ) → IsHeld old.heap s → label_at new.heap s ≡ label_at old.heap s
  label-held s h = ap (option_map (λ (b : Body). b.label)) (other-body old new slot class label fields m s (held-other s h))

  pub made-label : (s : ℕ) (l : Label) → label_at old.heap s ≡ Some l → label_at new.heap s ≡ Some l
  made-label s l e = label-held s (labelled_held old.heap s l e) ∙ e

  pub made-back : (s : ℕ) (l : Label) → IsHeld old.heap s → label_at new.heap s ≡ Some l → label_at old.heap s ≡ Some l
  made-back s l h e = sym (label-held s h) ∙ e

  -- the new cell's label
  pub label-new : label_at new.heap slot ≡ Some label
  label-new = ap (option_map (λ (b : Body). b.label)) m.made.body

  pub label-was : (s : ℕ) (l : Label) → label_at new.heap s ≡ Some l → (label_at old.heap s ≡ Some l) ⊎ ((s ≡ slot) × (label ≡ l))
  label-was s l e = elim (cases_eq s slot) [
    | inl is ↦ inr (is, same_Some label l (sym label-new ∙ ap (label_at new.heap) (sym is) ∙ e))
    | inr d ↦ inl (sym (ap (option_map (λ (b : Body). b.label)) (other-body old new slot class label fields m s d)) ∙ e)
  ]

  pub made-field : (s k to : ℕ) → field_at new.heap s k ≡ Some (Slot to) → field_at old.heap s k ≡ Some (Slot to)
  made-field s k to e = elim (cases_eq s slot) [
    | inl is ↦
        absurd (plain k to (sym (ap (option_and_then (λ (b : Body). slice_get b.fields k)) m.made.body)
        ∙ ap (λ x. field_at new.heap x k) (sym is) ∙ e))
    | inr d ↦ sym (ap (option_and_then (λ (b : Body). slice_get b.fields k)) (other-body old new slot class label fields m s d)) ∙ e
  ]

  pub held-new : IsHeld new.heap slot
  held-new = labelled_held new.heap slot label label-new
