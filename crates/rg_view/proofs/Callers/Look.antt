-- What the store has at a serial.
use Rattle.std.proofs.Common.{◌≡◌, ◌≢◌, ◌<◌, ◌==◌, ◌⊎◌, inl, inr, ℕ, zero, suc, Bool as Truth, true, false, if◌then◌else◌, List, [], ◌∷◌}
use Rattle.std.proofs.Common.{length, Option, Some, None, slice_get, slice_index_or, refl, sym, ap, ◌∙◌}
use Rattle.std.proofs.lemmas.Option.{same_Some}
use Rattle.std.proofs.lemmas.List.FromFn.{length-map-range_with_len}
use Rattle.std.proofs.lemmas.Bool.{eqb-true, eqb-false}
use Rattle.rg_base.specs.declared.value.Val.TheVariants.{Obj}
use Rattle.rg_base.specs.declared.value.Word.TheVariants as word
use Rattle.rg_cells.specs.declared.cell.Body.{Body}
use Rattle.rg_cells.specs.Table.{Heap, body_in, body_at, Serials, LacksSerial}
use Rattle.rg_heap.specs.Answers.{val_of, obj_of}
use Rattle.rg_view.specs.View.{has_serial, body_with, object_of, seen_of, store_of}
use Rattle.rg_held.specs.Gone.{gone}
use Rattle.rg_held.proofs.Callers.Forget.{made-at}

-- what is found is at the head, or behind it
found-by : (a : ℕ) (o under : Option Body) (b : Body) → (if has_serial a o then o else under) ≡ Some b
    → ((o ≡ Some b) × (b.serial ≡ a)) ⊎ (under ≡ Some b)
found-by a None under b e = inr e
found-by a (Some c) under b e = test (c.serial == a) refl e
  where
    test : (t : Truth) → (c.serial == a) ≡ t → (if t then Some c else under) ≡ Some b → ((Some c ≡ Some b) × (b.serial ≡ a)) ⊎ (under ≡ Some b)
    test true is e = let same : c ≡ b = same_Some c b e in inl (e, ap (λ (x : Body). x.serial) (sym same) ∙ eqb-true c.serial a is)
    test false is e = inr e

found-in : (a : ℕ) (xs : List (Option (Option Body))) (b : Body) → body_with a xs ≡ Some b
    → (s : ℕ) × (body_in (slice_index_or xs s None) ≡ Some b) × (b.serial ≡ a)
found-in a [] b e = absurd cc
found-in a (x ∷ xs) b e = elim (found-by a (body_in x) (body_with a xs) b e) [
  | inl here ↦ (0, here.0, here.1)
  | inr on ↦ let r = found-in a xs b on in (suc r.0, r.1, r.2)
]

-- where nothing is found, the head doesn't have the serial, and nothing is found behind it
none-by : (a : ℕ) (o under : Option Body) → (if has_serial a o then o else under) ≡ None
    → ((b : Body) → o ≡ Some b → b.serial ≢ a) × (under ≡ None)
none-by a None under e = (λ b is. absurd cc, e)
none-by a (Some c) under e = test (c.serial == a) refl e
  where
    test : (t : Truth) → (c.serial == a) ≡ t → (if t then Some c else under) ≡ None → ((b : Body) → Some c ≡ Some b → b.serial ≢ a) × (under ≡ None)
    test true is e = absurd cc
    test false is e =
        (λ b same. let q : c ≡ b = same_Some c b same in λ f. eqb-false c.serial a is (ap (λ (x : Body). x.serial) q ∙ f), e)

none-in : (a : ℕ) (xs : List (Option (Option Body))) → body_with a xs ≡ None → (s : ℕ) (b : Body)
    → body_in (slice_index_or xs s None) ≡ Some b → b.serial ≢ a
none-in a [] e s b is = absurd cc
none-in a (x ∷ xs) e zero b is = (none-by a (body_in x) (body_with a xs) e).0 b is
none-in a (x ∷ xs) e (suc s) b is = none-in a xs (none-by a (body_in x) (body_with a xs) e).1 s b is

-- a held cell has the serial, and is what is shown, or none has it and the object is gone
pub record Here (h : Heap) (a : ℕ) : Type 0 where
  pub slot : ℕ
  pub body : Body
  pub held : body_at h slot ≡ Some body
  pub serial : body.serial ≡ a
  pub shown : seen_of h a ≡ object_of h (Some body)

pub record Missing (h : Heap) (a : ℕ) : Type 0 where
  pub lacks : LacksSerial h a
  pub shown : seen_of h a ≡ gone

pub look : (h : Heap) (a : ℕ) → Here h a ⊎ Missing h a
look h a = by (body_with a h.slots) refl
  where
    by : (o : Option Body) → body_with a h.slots ≡ o → Here h a ⊎ Missing h a
    by None e = inr (record { lacks = none-in a h.slots e; shown = ap (object_of h) e })
    by (Some b) e =
        let r = found-in a h.slots b e in
        inl (record { slot = r.0; body = b; held = r.1; serial = r.2; shown = ap (object_of h) e })

-- a held cell shows itself
pub seen-held : (h : Heap) (s : ℕ) (b : Body) → Serials h → body_at h s ≡ Some b → seen_of h b.serial ≡ object_of h (Some b)
seen-held h s b q e = elim (look h b.serial) [
  | inl here ↦
      let same : here.slot ≡ s = q.differ here.slot s here.body b here.held e here.serial in
      let body : Some here.body ≡ Some b = sym here.held ∙ ap (body_at h) same ∙ e in
      here.shown ∙ ap (object_of h) body
  | inr missing ↦ absurd (missing.lacks s b e refl)
]

-- no held cell has the serial
pub seen-gone : (h : Heap) (a : ℕ) → LacksSerial h a → seen_of h a ≡ gone
seen-gone h a lacks = elim (look h a) [
  | inl here ↦ absurd (lacks here.slot here.body here.held here.serial)
  | inr missing ↦ missing.shown
]

-- the store has as many objects as were made
pub store-length : (h : Heap) → length (store_of h) ≡ h.next
store-length h = length-map-range_with_len (seen_of h) 0 h.next

-- what stands at a serial that was given out
pub store-at : (h : Heap) (a : ℕ) → a < h.next → slice_get (store_of h) a ≡ Some (seen_of h a)
store-at h a lt = made-at (seen_of h) h.next a lt

-- a held cell stands at its serial
pub store-held : (h : Heap) (s : ℕ) (b : Body) → Serials h → body_at h s ≡ Some b → slice_get (store_of h) b.serial ≡ Some (object_of h (Some b))
store-held h s b q e = store-at h b.serial (q.below s b e) ∙ ap Some (seen-held h s b q e)

-- at any other serial that was given out an object is gone
pub store-gone : (h : Heap) (a : ℕ) → a < h.next → LacksSerial h a → slice_get (store_of h) a ≡ Some gone
store-gone h a lt lacks = store-at h a lt ∙ ap Some (seen-gone h a lacks)

-- a reference to a held cell shows its serial
pub val-held : (h : Heap) (s : ℕ) (b : Body) → body_at h s ≡ Some b → val_of h (word.Slot s) ≡ Obj b.serial
val-held h s b e = ap obj_of e
