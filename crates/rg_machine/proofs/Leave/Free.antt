-- Nothing that stays leads to a temporary of the topmost window, where the machine in front says so.
use Rattle.std.proofs.Common.{◌≡◌, ◌≢◌, ◌<◌, ◌==◌, ◌&&◌, ◌||◌, ◌⊎◌, inl, inr, ℕ, zero, suc, ◌+◌, ◌-◌, ◌^◌, Bool as Truth, true, false, not}
use Rattle.std.proofs.Common.{List, [], ◌∷◌, length, map, take, drop, reverse, Option, Some, None, option_map, option_and_then, slice_get}
use Rattle.std.proofs.Common.{refl, sym, ap, ◌∙◌, subst, arith}
use Rattle.std.specs.List.{list_any}
use Rattle.std.proofs.lemmas.Bool.{false≢true, and_parts, eq-eqb as eq-is, cases_lt as order}
use Rattle.std.proofs.lemmas.List.{length-take-le}
use Rattle.std.proofs.lemmas.Option.{none-some, same_Some, slice_get-map}
use Rattle.std.proofs.lemmas.Map.Keys.{any_passes_from_place as any-in}
use Rattle.rg_base.specs.declared.object.Label.{Label}
use Rattle.rg_base.specs.declared.object.Label.TheVariants.{Region, Temp, Frozen}
use Rattle.rg_base.specs.declared.object.Seen.{Seen}
use Rattle.rg_base.specs.declared.value.Val.{Val}
use Rattle.rg_base.specs.declared.value.Word.{Word}
use Rattle.rg_base.specs.declared.value.Word.TheVariants.{Slot}
use Rattle.rg_cells.specs.declared.cell.Body.{Body}
use Rattle.rg_cells.specs.Table.{Heap, body_at, field_at, label_at, Serials}
use Rattle.rg_regions.specs.Grove.{Grove}
use Rattle.rg_frames.specs.declared.rows.Frame.{Frame as FrameRow}
use Rattle.rg_frames.specs.Stack.{Stack}
use Rattle.rg_heap.specs.Parts.{Parts}
use Rattle.rg_heap.specs.Answers.{val_of}
use Rattle.rg_heap.specs.Ends.{IsTopTemp}
use Rattle.rg_stack.specs.Machine.{Frame, Machine}
use Rattle.rg_stack.specs.Tops.{top_window}
use Rattle.rg_stack.specs.Needs.{is_to_temp, is_top_temp, outlives, temps_may_go}
use Rattle.rg_stack.specs.Labels.{has_window}
use Rattle.rg_held.specs.Frees.{bury}
use Rattle.rg_view.specs.Lain.{Nested}
use Rattle.rg_view.specs.View.{machine_of, object_of, store_of, windows_of}
use Rattle.rg_view.proofs.Callers.Frame.{frames_from}
use Rattle.rg_view.proofs.Callers.Leave.{temp-top, top-temp}
use Rattle.rg_view.proofs.Callers.Look.{store-held, val-held}
use Rattle.rg_view.proofs.Callers.Shown.{field-in, get-drop}
use Rattle.rg_view.proofs.Callers.Gone.Temporaries.{top-row, number-shown}
use Rattle.rg_view.proofs.Callers.Once.{temp-outside}
use Rattle.rg_machine.specs.Stands.{Stands}
use Rattle.rg_machine.proofs.Leave.Lists.{seen-was}
use Rattle.rg_machine.proofs.Leave.Lists.{sooner}

-- what stands in a slot stands in a slot of a frame
any-slot : (heap : Heap) (test : Val → Truth) (slots : List Word) (first j : ℕ) (fs : List FrameRow) (w : Word) → Nested first (length slots) fs
    → slice_get slots j ≡ Some w → test (val_of heap w) ≡ true
    → list_any (λ (f : Frame). list_any test f.slots) (frames_from heap slots first fs) ≡ true
any-slot heap test slots first j [] w n e is = absurd (none-some w (sym (ap (λ xs. slice_get xs j) (empty slots n)) ∙ e))
  where
    empty : (xs : List Word) → length xs ≡ 0 → xs ≡ []
    empty [] e = refl
    empty (x ∷ xs) e = absurd cc
any-slot heap test slots first j (f ∷ fs) w n e is = elim (order j first) [
  | inl lt ↦
      (let size = length-take-le first slots n.0 in
      let P : ℕ → Type 0 = λ k. Nested f.below k fs in
      later (list_any test (map (val_of heap) (drop first slots)))
      (any-slot heap test (take first slots) f.below j fs w (subst P (sym size) n.1) (front-get first j slots lt ∙ e) is))
  | inr le ↦
      (let at : first + (j - first) ≡ j = omega (arith, le) in
      sooner (list_any test (map (val_of heap) (drop first slots))) _
      (any-in test (map (val_of heap) (drop first slots)) (j - first) (val_of heap w)
      (slice_get-map (val_of heap) (drop first slots) (j - first)
      ∙ ap (option_map (val_of heap)) (get-drop first (j - first) slots ∙ ap (slice_get slots) at ∙ e)) is))
]
  where
    front-get : (n k : ℕ) (xs : List Word) → k < n → slice_get (take n xs) k ≡ slice_get xs k
    front-get zero k xs lt = absurd (omega (arith, lt))
    front-get (suc n) k [] lt = refl
    front-get (suc n) zero (x ∷ xs) lt = refl
    front-get (suc n) (suc k) (x ∷ xs) lt = front-get n k xs (omega (arith, lt))

    later : (t : Truth) {u : Truth} → u ≡ true → (t || u) ≡ true
    later true e = refl
    later false e = e

not-true : (b : Truth) → not b ≡ true → b ≡ true → ⊥
not-true true n e = false≢true n
not-true false n e = false≢true e

module _ (p : Parts) (v : Stack) (at : ℕ) (q : Serials p.cells.heap) (g : Grove p.cells p.regions) (s : Stands p v)
    (m : Machine) (regions : List ℕ) (frames : m.frames ≡ (machine_of p v at).frames) (windows : m.windows ≡ windows_of p.regions v)
    (store : store_of p.cells.heap ≡ bury regions None m.store) (may : temps_may_go m ≡ true)
    (bound : (top-row p v at q g s.opened).0.number ≢ 2 ^ 64 - 1) where
  abbrev number : ℕ
  number = (top-row p v at q g s.opened).0.number

  temp-number : (a b : ℕ) → Temp a ≡ Temp b → a ≡ b
  temp-number a b e = cc

  -- a temporary is one in the machine in front
  was-temp : (x : ℕ) → IsTopTemp v x → is_to_temp m (val_of p.cells.heap (Slot x)) ≡ true
  was-temp x t =
      let row = top-row p v at q g s.opened in
      let label = s.opened.temps (length v.windows - 1) x row.0 row.1 (top-temp p v g s.opened t.0 x t.1) in
      by (body_at p.cells.heap x) refl label
    where
      by : (o : Option Body) → body_at p.cells.heap x ≡ o → label_at p.cells.heap x ≡ Some (Temp number)
          → is_to_temp m (val_of p.cells.heap (Slot x)) ≡ true
      by None e l = absurd (none-some (Temp number) (sym (ap (option_map (λ (b : Body). b.label)) e) ∙ l))
      by (Some b) e l =
          let is : b.label ≡ Temp number = same_Some b.label (Temp number) (sym (ap (option_map (λ (b : Body). b.label)) e) ∙ l) in
          elim (seen-was regions m.store b.serial (object_of p.cells.heap (Some b))
          (ap (λ st. slice_get st b.serial) (sym store) ∙ store-held p.cells.heap x b q e)) [
            | inl dead ↦ absurd (bound (temp-number number (2 ^ 64 - 1) (sym is ∙ ap (λ (o : Seen). o.label) dead)))
            | inr was ↦
                (ap (is_to_temp m) (val-held p.cells.heap x b e)
                ∙ ap (λ (o : Option Seen). elim (option_and_then (λ (o : Seen). Some o.label) o) [ None ↦ false | Some l ↦ is_top_temp m l ]) was.0
                ∙ ap (is_top_temp m) is
                ∙ eq-is number (top_window m.windows) (sym (ap top_window windows ∙ number-shown p v at q g s.opened)))
          ]

  parts : (not (list_any (λ (f : Frame). list_any (is_to_temp m) f.slots) m.frames) ≡ true)
      × (not (list_any (λ (o : Seen). outlives m o.label && list_any (is_to_temp m) o.fields) m.store) ≡ true)
  parts = and_parts _ _ may

  pub slots-free : (j x : ℕ) → slice_get v.slots j ≡ Some (Slot x) → IsTopTemp v x → ⊥
  slots-free j x e t =
      not-true (list_any (λ (f : Frame). list_any (is_to_temp m) f.slots) m.frames) parts.0
      (ap (list_any (λ (f : Frame). list_any (is_to_temp m) f.slots)) frames
      ∙ any-slot p.cells.heap (is_to_temp m) v.slots v.first j (reverse v.frames) (Slot x) s.lain e (was-temp x t))

  -- what isn't such a temporary outlives the window
  lives-on : (x : ℕ) (l : Label) → label_at p.cells.heap x ≡ Some l → IsTopTemp v x ⊎ (outlives m l ≡ true)
  lives-on x (Region r) e = inr refl
  lives-on x Frozen e = inr refl
  lives-on x (Temp k) e = by (k == number) refl
    where
      eq-true : (a b : ℕ) → (a == b) ≡ true → a ≡ b
      eq-true a b h = grind (arith, h)

      by : (b : Truth) → (k == number) ≡ b → IsTopTemp v x ⊎ (outlives m (Temp k) ≡ true)
      by true is =
          let row = top-row p v at q g s.opened in
          inl (temp-top p v g s.opened x
          (s.opened.all_temps (length v.windows - 1) x row.0 row.1 (e ∙ ap (λ n. Some (Temp n)) (eq-true k number is))))
      by false is =
          inr (ap (λ b. b && not (k == top_window m.windows))
          (ap (λ ws. has_window ws k) windows ∙ temp-outside p v at q g s.opened s.temps x k e)
          ∙ ap not (ap (λ n. k == n) (ap top_window windows ∙ number-shown p v at q g s.opened) ∙ is))

  pub fields-free : (x k to : ℕ) → field_at p.cells.heap x k ≡ Some (Slot to) → IsTopTemp v to → IsTopTemp v x
  fields-free x k to e t = by (body_at p.cells.heap x) refl
    where
      by : (o : Option Body) → body_at p.cells.heap x ≡ o → IsTopTemp v x
      by None f = absurd (none-some (Slot to) (sym (ap (option_and_then (λ (b : Body). slice_get b.fields k)) f) ∙ e))
      by (Some b) f = elim (lives-on x b.label (ap (option_map (λ (b : Body). b.label)) f)) [
        | inl top ↦ top
        | inr out ↦
            (let holder = object_of p.cells.heap (Some b) in
            let stands : slice_get holder.fields k ≡ Some (val_of p.cells.heap (Slot to)) =
            slice_get-map (val_of p.cells.heap) b.fields k
            ∙ ap (option_map (val_of p.cells.heap)) (sym (field-in p.cells.heap x k b f) ∙ e) in
            elim (seen-was regions m.store b.serial holder
            (ap (λ st. slice_get st b.serial) (sym store) ∙ store-held p.cells.heap x b q f)) [
              | inl dead ↦ absurd (none-some (val_of p.cells.heap (Slot to))
                  (ap (λ (o : Seen). slice_get o.fields k) (sym dead) ∙ stands))
              | inr was ↦ absurd (not-true (list_any (λ (o : Seen). outlives m o.label && list_any (is_to_temp m) o.fields) m.store) parts.1
                  (any-in (λ (o : Seen). outlives m o.label && list_any (is_to_temp m) o.fields) m.store b.serial holder was.0
                  (ap (λ b. b && list_any (is_to_temp m) holder.fields) out
                  ∙ any-in (is_to_temp m) holder.fields k (val_of p.cells.heap (Slot to)) stands (was-temp to t))))
            ])
      ]
