-- The serials of held cells after a slot changes.
use Rattle.std.proofs.Common.{◌≡◌, ◌≢◌, ℕ, ◌+◌, ◌-◌, ◌≤◌, Option, Some, None, get_or, refl, ap, sym, ◌∙◌, arith}
use Rattle.std.proofs.Common.{List, [], ◌∷◌, zero, suc, set, ◌⊎◌, inl, inr}
use Rattle.std.proofs.lemmas.Bool.{cases_eq}
use Rattle.std.proofs.lemmas.Option.{same_Some}
use Rattle.rg_cells.specs.declared.cell.Body.{Body}
use Rattle.rg_cells.specs.Table.{Heap, body_in, body_at, with_body, Serials, IsNewest, freed}

-- each held cell of the one heap is held in the other, with the same serial
pub serials_of : (h g : Heap) → h.next ≤ g.next
    → ((s : ℕ) (b : Body) → body_at g s ≡ Some b → (d : Body) × (body_at h s ≡ Some d) × (d.serial ≡ b.serial))
    → Serials h → Serials g
serials_of h g le was q = record {
  below = λ s b e. let d = was s b e in let x = q.below s d.0 d.1 in let y = d.2 in omega (arith, x, y, le);
  differ = λ s o b d e f same.
      let x = was s b e in
      let y = was o d f in
      q.differ s o x.0 y.0 x.1 y.1 (x.2 ∙ same ∙ sym y.2);
}

-- what is held after a slot is written: there what was put, and elsewhere what was held
put_at : (xs : List (Option (Option Body))) (slot s : ℕ) (v : Option (Option Body)) (b : Body)
    → body_in (get_or (set xs slot v) s None) ≡ Some b
    → ((s ≡ slot) × (body_in v ≡ Some b)) ⊎ (body_in (get_or xs s None) ≡ Some b)
put_at [] slot s v b e = inr e
put_at (x ∷ xs) zero zero v b e = inl (refl, e)
put_at (x ∷ xs) zero (suc s) v b e = inr e
put_at (x ∷ xs) (suc slot) zero v b e = inr e
put_at (x ∷ xs) (suc slot) (suc s) v b e = elim (put_at xs slot s v b e) [ inl p ↦ inl (ap suc p.0, p.1) | inr q ↦ inr q ]

-- a held slot gets another body with the same serial
pub serials-put : (h : Heap) (slot : ℕ) (b d : Body) → body_at h slot ≡ Some b → d.serial ≡ b.serial → Serials h → Serials (with_body h slot d)
serials-put h slot b d e same q = serials_of h (with_body h slot d) (omega arith) (λ s x f.
    elim (put_at h.slots slot s (Some (Some d)) x f) [
      | inl here ↦ (b, ap (body_at h) here.0 ∙ e, sym same ∙ ap (λ (y : Body). y.serial) (same_Some d x here.1))
      | inr old ↦ (x, old, refl)
    ]) q

-- a slot becomes free
pub serials-freed : (h : Heap) (slot : ℕ) → Serials h → Serials (freed h slot)
serials-freed h slot q = serials_of h (freed h slot) (omega arith) (λ s x f.
    elim (put_at h.slots slot s (Some None) x f) [
      | inl here ↦ let no : None ≡ Some x = here.1 in cc
      | inr old ↦ (x, old, refl)
    ]) q

-- a cell comes with the next serial
pub serials-made : (h g : Heap) (slot : ℕ) (c : Body) → c.serial ≡ h.next → g.next ≡ h.next + 1 → body_at g slot ≡ Some c
    → ((other : ℕ) → other ≢ slot → get_or g.slots other None ≡ get_or h.slots other None) → Serials h → Serials g
serials-made h g slot c is next body others q = record {
  below = λ s b e. elim (after s b e) [
    | inl here ↦ let n = serial_is b here.1 in omega (arith, n, next)
    | inr old ↦ let l = q.below s b old in omega (arith, l, next)
  ];
  differ = λ s o b d e f same. elim (after s b e) [
    | inl x ↦ let n = serial_is b x.1 in elim (after o d f) [
      | inl y ↦ x.0 ∙ sym y.0
      | inr y ↦ let l = q.below o d y in absurd (omega (arith, n, l, same))
    ]
    | inr x ↦ elim (after o d f) [
      | inl y ↦ let n = serial_is d y.1 in let l = q.below s b x in absurd (omega (arith, n, l, same))
      | inr y ↦ q.differ s o b d x y same
    ]
  ];
}
  where
    after : (s : ℕ) (b : Body) → body_at g s ≡ Some b → ((s ≡ slot) × (Some c ≡ Some b)) ⊎ (body_at h s ≡ Some b)
    after s b e = elim (cases_eq s slot) [
      | inl is ↦ inl (is, sym body ∙ sym (ap (body_at g) is) ∙ e)
      | inr d ↦ inr (sym (ap body_in (others s d)) ∙ e)
    ]

    serial_is : (b : Body) → Some c ≡ Some b → b.serial ≡ h.next
    serial_is b e = sym (ap (λ (x : Body). x.serial) (same_Some c b e)) ∙ is

pub none_at : (xs : List (Option (Option Body))) (k : ℕ) → body_in (get_or (set xs k (Some None)) k None) ≡ None
none_at [] k = refl
none_at (x ∷ xs) zero = refl
none_at (x ∷ xs) (suc k) = none_at xs k

other_at : (xs : List (Option (Option Body))) (k j : ℕ) → j ≢ k
    → get_or (set xs k (Some None)) j None ≡ get_or xs j None
other_at [] k j d = refl
other_at (x ∷ xs) zero zero d = absurd (d refl)
other_at (x ∷ xs) zero (suc j) d = refl
other_at (x ∷ xs) (suc k) zero d = refl
other_at (x ∷ xs) (suc k) (suc j) d = other_at xs k j (λ e. d (ap suc e))

-- the cell that was made last is taken back
pub serials-cancelled : (h : Heap) (slot : ℕ) → IsNewest h slot → Serials h
    → Serials (record { slots = set h.slots slot (Some None); next = h.next - 1 })
serials-cancelled h slot newest q = record {
  below = λ s b e.
      let d = elsewhere s b e in
      let old = sym (ap body_in (other_at h.slots slot s d)) ∙ e in
      let l = q.below s b old in
      let n = newest.2 in
      let x : b.serial ≢ newest.0.serial = λ same. d (q.differ s slot b newest.0 old newest.1 same) in
      omega (arith, l, n, x);
  differ = λ s o b d e f same.
      let x = sym (ap body_in (other_at h.slots slot s (elsewhere s b e))) ∙ e in
      let y = sym (ap body_in (other_at h.slots slot o (elsewhere o d f))) ∙ f in
      q.differ s o b d x y same;
}
  where
    elsewhere : (s : ℕ) (b : Body) → body_at (freed h slot) s ≡ Some b → s ≢ slot
    elsewhere s b e is =
        let no : None ≡ Some b = sym (ap (λ k. body_in (get_or (set h.slots slot (Some None)) k None)) is ∙ none_at h.slots slot) ∙ e in
        cc
