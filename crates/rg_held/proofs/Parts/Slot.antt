-- Slots that are written, end, or come and go with a frame.
use Rattle.std.proofs.Common.{◌≡◌, ℕ, zero, suc, ◌-◌, ◌<◌, ◌≤◌, ◌⊎◌, inl, inr, true, false, Bool as Truth, List, [], ◌∷◌, ◌++◌, length}
use Rattle.std.proofs.Common.{Option, Some, None, unwrap_or, take, drop, replicate, reverse, refl, sym, ap, ◌∙◌, arith, slice_get, slice_set}
use Rattle.std.proofs.lemmas.Option.{same_Some}
use Rattle.std.proofs.lemmas.Map.Keys.{any_passes_from_place}
use Rattle.std.specs.Prelude.{nat_lt}
use Rattle.std.specs.List.{list_any}
use Rattle.rg_base.specs.declared.value.Val.{Val}
use Rattle.rg_base.specs.declared.value.Val.TheVariants as val
use Rattle.rg_stack.specs.Machine.{Frame, Machine, top_slots, with_slots, slot_at, put_slot, ended_slots, end_slots}
use Rattle.rg_stack.specs.Places.{size_of}
use Rattle.rg_stack.specs.Labels.{is_open, is_into}
use Rattle.rg_stack.proofs.Basics.{none-some}
use Rattle.rg_held.specs.Part.{leads_to, AllLead, SlotInto, Placed, Part}
use Rattle.rg_held.proofs.Lists.{off, set-back, set-other, set-new, set-old, ended-back, ended-front, drop-at, any-at}
use Rattle.rg_held.proofs.Lists.{reverse-back, reverse-in, append-back, append-left, replicate-back, take-whole}
use Rattle.rg_held.proofs.Places.{slot-into}
use Rattle.rg_held.proofs.Parts.Part.{part-frames, slot-cases, slot-of-top, slots-back, top-slot, lead-any}

-- what leads into a region is no nil
pub nil-into : {B : Type 0} (m : Machine) (r : ℕ) (v : Val) → v ≡ val.Nil → is_into m.store r v ≡ true → B
nil-into m r v e into = off (ap (is_into m.store r) (sym e) ∙ into)

pub below-size : (m : Machine) (s : ℕ) → nat_lt s (size_of m) ≡ true → s < length (top_slots m.frames)
below-size m s e = grind (arith, e)

-- a value that was written is there
pub put-there : (m : Machine) (s : ℕ) (v : Val) (r : ℕ) → nat_lt s (size_of m) ≡ true → is_into m.store r v ≡ true → SlotInto (put_slot m s v) r
put-there m s v r less into = by (slice_get (top_slots m.frames) s) refl
  where
    by : (o : Option Val) → slice_get (top_slots m.frames) s ≡ o → SlotInto (put_slot m s v) r
    by (Some u) e = slot-of-top m (slice_set (top_slots m.frames) s v) r s u v e (set-new (top_slots m.frames) s v (below-size m s less)) into
    by None e = absurd (lost (top_slots m.frames) s (below-size m s less) e)
      where
        lost : (xs : List Val) (i : ℕ) → i < length xs → slice_get xs i ≡ None → ⊥
        lost [] i h e = omega (arith, h)
        lost (x ∷ xs) zero h e = none-some x (sym e)
        lost (x ∷ xs) (suc i) h e = let less : i < length xs = omega (arith, h) in lost xs i less e

-- a slot that leads into a region stays, unless it is the one that is written
pub put-stays : (m : Machine) (s : ℕ) (v : Val) (r : ℕ) → SlotInto m r → (is_into m.store r (slot_at m s) ≡ true) ⊎ SlotInto (put_slot m s v) r
put-stays m s v r p = elim (slot-cases m (slice_set (top_slots m.frames) s v) r p) [
  | inl h ↦ elim (set-old (top_slots m.frames) s h.0 v h.1.0 h.1.1) [
    | inl same ↦ inl (ap (λ o. is_into m.store r (unwrap_or o val.Nil)) (ap (slice_get (top_slots m.frames)) same ∙ h.1.1) ∙ h.1.2)
    | inr at ↦ inr (slot-of-top m (slice_set (top_slots m.frames) s v) r h.0 h.1.0 h.1.0 h.1.1 at h.1.2)
  ]
  | inr stays ↦ inr stays
]

-- another slot than one of the topmost frame
abbrev pub Other : (m : Machine) (r s : ℕ) → SlotInto m r → Type 0
Other m r s p = p.frame ≡ 0 → p.slot ≡ s → ⊥

-- a slot behind a write is the one that was written, or another that was there
pub put-back : (m : Machine) (s : ℕ) (v : Val) (r : ℕ) → SlotInto (put_slot m s v) r
    → (is_into m.store r v ≡ true) ⊎ ((p : SlotInto m r) × Other m r s p)
put-back m s v r p = by m.frames refl p.frame p.holder_there
  where
    by : (fs : List Frame) → m.frames ≡ fs → (n : ℕ) → slice_get (with_slots (slice_set (top_slots fs) s v) fs) n ≡ Some p.holder
        → (is_into m.store r v ≡ true) ⊎ ((p : SlotInto m r) × Other m r s p)
    by [] e n there = none-some p.holder there
    by (g ∷ gs) e zero there =
        let same = same_Some (record g { slots = slice_set g.slots s v }) p.holder there in
        elim (set-other g.slots s p.slot v p.value (ap (λ (h : Frame). slice_get h.slots p.slot) same ∙ p.value_there)) [
          | inl new ↦ inl (ap (is_into m.store r) (sym new) ∙ p.into)
          | inr old ↦ inr (slot-into 0 p.slot g p.value (ap (λ l. slice_get l 0) e) old.0 p.into, λ zero_is at. old.1 (sym at))
        ]
    by (g ∷ gs) e (suc n) there = inr (
      slot-into (suc n) p.slot p.holder p.value (ap (λ l. slice_get l (suc n)) e ∙ there) p.value_there p.into,
      λ is at. omega (arith, is),
    )

-- a slot that leads into a region behind the end of slots stands in front of it
pub end-back : (m : Machine) (s : ℕ) (r : ℕ) → SlotInto (end_slots m s) r → (p : SlotInto m r) × ((j : ℕ) → s ≤ j → Other m r j p)
end-back m s r p = by m.frames refl p.frame p.holder_there
  where
    by : (fs : List Frame) → m.frames ≡ fs → (n : ℕ) → slice_get (with_slots (ended_slots s (top_slots fs)) fs) n ≡ Some p.holder
        → (p : SlotInto m r) × ((j : ℕ) → s ≤ j → Other m r j p)
    by [] e n there = none-some p.holder there
    by (g ∷ gs) e zero there =
        let same = same_Some (record g { slots = ended_slots s g.slots }) p.holder there in
        elim (ended-back g.slots s (length g.slots - s) p.slot val.Nil p.value
        (ap (λ (h : Frame). slice_get h.slots p.slot) same ∙ p.value_there)) [
          | inl nil ↦ nil-into m r p.value nil p.into
          | inr old ↦ (
            slot-into 0 p.slot g p.value (ap (λ l. slice_get l 0) e) old.0 p.into,
            λ j from zero_is at. (let less = old.1 in omega (arith, less, from, at)),
          )
        ]
    by (g ∷ gs) e (suc n) there = (
      slot-into (suc n) p.slot p.holder p.value (ap (λ l. slice_get l (suc n)) e ∙ there) p.value_there p.into,
      λ j from is at. omega (arith, is),
    )

module _ (held : ℕ → Truth) (owners : List Val) (f m : Machine) (stack : List Val) (p : Part held owners f m stack) where
  -- a value is written
  pub part-put : (s : ℕ) (v : Val) (kept left : List Val) → leads_to held v ≡ true → AllLead held left
      → ((r : ℕ) → is_open m.windows r ≡ false → is_into m.store r (slot_at m s) ≡ true
      → SlotInto (put_slot m s v) r ⊎ (list_any (is_into m.store r) kept ≡ true))
      → ((r : ℕ) → is_open m.windows r ≡ false → list_any (is_into m.store r) owners ≡ true
      → Placed held (put_slot m s v) r ⊎ (list_any (is_into m.store r) kept ≡ true))
      → Part held kept (put_slot f s v) (put_slot m s v) left
  part-put s v kept left lead leads lost move =
      part-frames held owners f m stack p (with_slots (slice_set (top_slots f.frames) s v) f.frames)
      (with_slots (slice_set (top_slots m.frames) s v) m.frames) kept left
      (ap (λ fs. with_slots (slice_set (top_slots fs) s v) fs) p.frames) slots leads
      (λ r c at. elim (put-stays m s v r at) [ inl old ↦ lost r c old | inr stays ↦ inl stays ]) move
    where
      slots : (n : ℕ) (h : Frame) (j : ℕ) (u : Val) → slice_get (with_slots (slice_set (top_slots m.frames) s v) m.frames) n ≡ Some h
          → slice_get h.slots j ≡ Some u → leads_to held u ≡ true
      slots n h j u there at = elim (slots-back m.frames (slice_set (top_slots m.frames) s v) n h j u there at) [
        | inl new ↦ elim (set-back (top_slots m.frames) s j v u new.1) [
          | inl is ↦ ap (leads_to held) is.1 ∙ lead
          | inr old ↦ (let g = top-slot m.frames j u old in p.slots 0 g.0 j u g.1 g.2)
        ]
        | inr old ↦ p.slots n old.0 j u old.1 old.2
      ]

  -- slots from one on end
  pub part-end : (s : ℕ) (left : List Val) → AllLead held left
      → ((r : ℕ) → is_open m.windows r ≡ false → list_any (is_into m.store r) owners ≡ true → Placed held (end_slots m s) r
      ⊎ (list_any (is_into m.store r) (drop s (top_slots m.frames)) ≡ true))
      → Part held (drop s (top_slots m.frames)) (end_slots f s) (end_slots m s) left
  part-end s left leads move =
      part-frames held owners f m stack p (with_slots (ended_slots s (top_slots f.frames)) f.frames)
      (with_slots (ended_slots s (top_slots m.frames)) m.frames) (drop s (top_slots m.frames)) left
      (ap (λ fs. with_slots (ended_slots s (top_slots fs)) fs) p.frames) slots leads
      (λ r c at. elim (slot-cases m (ended_slots s (top_slots m.frames)) r at) [
        | inl h ↦ elim (drop-at (top_slots m.frames) s h.0 h.1.0 h.1.1) [
          | inl front ↦ inl (slot-of-top m (ended_slots s (top_slots m.frames)) r h.0 h.1.0 h.1.0 h.1.1
              (ended-front (top_slots m.frames) s (length (top_slots m.frames) - s) h.0 val.Nil h.1.0 h.1.1 front) h.1.2)
          | inr behind ↦ inr (any_passes_from_place (is_into m.store r) (drop s (top_slots m.frames)) behind.0 h.1.0 behind.1 h.1.2)
        ]
        | inr stays ↦ inl stays
      ]) move
    where
      slots : (n : ℕ) (h : Frame) (j : ℕ) (u : Val) → slice_get (with_slots (ended_slots s (top_slots m.frames)) m.frames) n ≡ Some h
          → slice_get h.slots j ≡ Some u → leads_to held u ≡ true
      slots n h j u there at = elim (slots-back m.frames (ended_slots s (top_slots m.frames)) n h j u there at) [
        | inl new ↦ elim (ended-back (top_slots m.frames) s (length (top_slots m.frames) - s) j val.Nil u new.1) [
          | inl nil ↦ ap (leads_to held) nil
          | inr old ↦ (let g = top-slot m.frames j u old.0 in p.slots 0 g.0 j u g.1 g.2)
        ]
        | inr old ↦ p.slots n old.0 j u old.1 old.2
      ]

  -- a frame comes, with what is on the stack in its slots
  pub part-call : (n k back : ℕ) → length stack ≡ n → ((r : ℕ) → is_open m.windows r ≡ false → list_any (is_into m.store r) owners ≡ true
      → list_any (is_into m.store r) stack ≡ true)
      → Part held [] (record f { frames = record { slots = reverse (take n stack) ++ replicate k val.Nil; back = back } ∷ f.frames })
      (record m { frames = record { slots = reverse (take n stack) ++ replicate k val.Nil; back = back } ∷ m.frames }) []
  part-call n k back size on_stack =
      part-frames held owners f m stack p (top ∷ f.frames) (top ∷ m.frames) [] [] (ap (λ fs. top ∷ fs) p.frames) slots tt
      (λ r c at. inl (slot-into (suc at.frame) at.slot at.holder at.value at.holder_there at.value_there at.into)) (λ r c any. inl (inl (found r (any-at (is_into m.store r) stack (on_stack r c any)))))
    where
      top : Frame
      top = record { slots = reverse (take n stack) ++ replicate k val.Nil; back = back }

      whole : take n stack ≡ stack
      whole = take-whole stack n size

      slots : (j : ℕ) (h : Frame) (s : ℕ) (v : Val) → slice_get (top ∷ m.frames) j ≡ Some h → slice_get h.slots s ≡ Some v → leads_to held v ≡ true
      slots zero h s v there at = elim (append-back (reverse (take n stack)) (replicate k val.Nil) s v
          (ap (λ (h : Frame). slice_get h.slots s) (same_Some top h there) ∙ at)) [
            | inl front ↦
                (let j = reverse-back (take n stack) front.0 v front.1 in
                lead-any held stack j.0 v p.on_stack (ap (λ l. slice_get l j.0) (sym whole) ∙ j.1))
            | inr behind ↦ ap (leads_to held) (replicate-back k behind.0 val.Nil v behind.1)
          ]
      slots (suc j) h s v there at = p.slots j h s v there at

      found : (r : ℕ) → ((i : ℕ) × ((x : Val) × (slice_get stack i ≡ Some x) × (is_into m.store r x ≡ true)))
          → SlotInto (record m { frames = top ∷ m.frames }) r
      found r h =
          let j = reverse-in (take n stack) h.0 h.1.0 (ap (λ l. slice_get l h.0) whole ∙ h.1.1) in
          slot-into 0 j.0 top h.1.0 refl (append-left (reverse (take n stack)) (replicate k val.Nil) j.0 h.1.0 j.1) h.1.2
