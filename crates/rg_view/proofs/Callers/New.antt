-- What is shown where a cell is made: one object more, and all else as it was.
use Rattle.std.proofs.Common.{◌≡◌, ◌≢◌, ◌<◌, inl, inr, ℕ, List, [], ◌∷◌, ◌++◌, map, Some, slice_get, refl, sym, ap, ◌∙◌, arith}
use Rattle.std.proofs.lemmas.Bool.{cases_eq}
use Rattle.std.proofs.lemmas.Option.{none-some, same_Some}
use Rattle.rg_base.specs.declared.object.Label.{Label}
use Rattle.rg_base.specs.declared.value.Word.{Word}
use Rattle.rg_base.specs.declared.value.Word.TheVariants as word
use Rattle.rg_cells.specs.declared.cell.Body.{Body}
use Rattle.rg_cells.specs.Table.{Table, body_in, body_at, IsHeld, Serials}
use Rattle.rg_stack.specs.Machine.{value_of_word}
use Rattle.rg_heap.specs.Answers.{val_of, obj_of, AllLead}
use Rattle.rg_heap.specs.Changes.{Makes, LeadsNowhere}
use Rattle.rg_view.specs.View.{object_of, seen_of, store_of}
use Rattle.rg_view.proofs.List.{map-numbers, map-more}
use Rattle.rg_view.proofs.Callers.Look.{look, seen-held, seen-gone}
use Rattle.rg_view.proofs.Callers.Shown.{IsSameObject, object-same, plain-vals, held-body, field-in}

module _ (old new : Table) (slot class : ℕ) (label : Label) (fields : List Word) (m : Makes old new slot class label fields) where
  -- the new cell's body
  abbrev body : Body
  body = record { class = class; label = label; serial = old.heap.next; fields = fields }

  other-slot : (s : ℕ) (b : Body) → body_at old.heap s ≡ Some b → s ≢ slot
  other-slot s b e is = none-some b (sym m.takes.vacant ∙ ap (body_at old.heap) (sym is) ∙ e)

  pub other-body : (s : ℕ) → s ≢ slot → body_at new.heap s ≡ body_at old.heap s
  other-body s d = ap body_in (m.made.others s d)

  -- cells that were held keep their bodies
  pub made-body : (s : ℕ) (b : Body) → body_at old.heap s ≡ Some b → body_at new.heap s ≡ Some b
  made-body s b e = other-body s (other-slot s b e) ∙ e

  pub made-same : (s : ℕ) → IsHeld old.heap s → IsSameObject old.heap new.heap s
  made-same s held = let b = held-body old.heap s held in ap obj_of (made-body s b.0 b.1 ∙ sym b.1)

  seen-old : Serials old.heap → ((s : ℕ) → AllLead old.heap s) → (a : ℕ) → a < old.heap.next → seen_of new.heap a ≡ seen_of old.heap a
  seen-old q lead a lt = elim (look new.heap a) [
    | inl here ↦ elim (cases_eq here.slot slot) [
      | inl is ↦
          let same : here.body ≡ body = same_Some here.body body (sym here.held ∙ ap (body_at new.heap) is ∙ m.made.body) in
          let number : old.heap.next ≡ a = ap (λ (b : Body). b.serial) (sym same) ∙ here.serial in
          absurd (omega (arith, number, lt))
      | inr d ↦
          let was : body_at old.heap here.slot ≡ Some here.body = sym (other-body here.slot d) ∙ here.held in
          here.shown
          ∙ object-same old.heap new.heap here.body
          (λ k s e. made-same s (lead here.slot k s (field-in old.heap here.slot k here.body was ∙ e)))
          ∙ sym (seen-held old.heap here.slot here.body q was)
          ∙ ap (seen_of old.heap) here.serial
    ]
    | inr missing ↦ missing.shown ∙ sym (seen-gone old.heap a (λ s b e. missing.lacks s b (made-body s b e)))
  ]

  seen-new : Serials old.heap → seen_of new.heap old.heap.next ≡ object_of new.heap (Some body)
  seen-new q = elim (look new.heap old.heap.next) [
    | inl here ↦ elim (cases_eq here.slot slot) [
      | inl is ↦ here.shown ∙ ap (object_of new.heap) (sym here.held ∙ ap (body_at new.heap) is ∙ m.made.body)
      | inr d ↦
          let below = q.below here.slot here.body (sym (other-body here.slot d) ∙ here.held) in
          let is = here.serial in
          absurd (omega (arith, below, is))
    ]
    | inr missing ↦ absurd (missing.lacks slot body m.made.body refl)
  ]

  -- the store has one object more
  pub made-store : Serials old.heap → ((s : ℕ) → AllLead old.heap s) → ((k s : ℕ) → slice_get fields k ≡ Some (word.Slot s) → IsHeld old.heap s)
      → store_of new.heap ≡ store_of old.heap ++ record { class = class; fields = map (val_of old.heap) fields; label = label } ∷ []
  made-store q lead held =
      map-more (seen_of new.heap) old.heap.next new.heap.next m.next
      ∙ ap (λ os. os ++ seen_of new.heap old.heap.next ∷ [])
      (map-numbers (seen_of new.heap) (seen_of old.heap) 0 old.heap.next (λ a le lt. seen-old q lead a (omega (arith, lt))))
      ∙ ap (λ o. store_of old.heap ++ o ∷ [])
      (seen-new q ∙ object-same old.heap new.heap body (λ k s e. made-same s (held k s e)))

  -- so it is where the fields hold no references
  pub made-plain : Serials old.heap → ((s : ℕ) → AllLead old.heap s) → LeadsNowhere fields
      → store_of new.heap ≡ store_of old.heap ++ record { class = class; fields = map value_of_word fields; label = label } ∷ []
  made-plain q lead plain =
      made-store q lead (λ k s e. absurd (plain k s e))
      ∙ ap (λ vs. store_of old.heap ++ record { class = class; fields = vs; label = label } ∷ []) (plain-vals old.heap fields plain)
