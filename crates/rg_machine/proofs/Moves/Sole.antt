-- Where each closed region is owned once, a slot that leads into one is the only place that does.
use Rattle.std.proofs.Common.{◌≡◌, ◌≤◌, ◌==◌, ◌+◌, inl, inr, ℕ, true, List, [], ◌∷◌, map, take}
use Rattle.std.proofs.Common.{drop, reverse, length, Some, option_map, slice_get, count_by, refl, sym, ap, ◌∙◌, subst, arith}
use Rattle.std.specs.List.{sum_by}
use Rattle.std.proofs.lemmas.Bool.{cases_eq, eq-eqb as eq-is}
use Rattle.std.proofs.lemmas.List.{take-map, drop-map, length-take-le}
use Rattle.std.proofs.lemmas.List.Sums.{sum_by-cons, sum_by-take-drop}
use Rattle.std.proofs.lemmas.Option.{slice_get-map}
use Rattle.std.proofs.lemmas.Map.Keys.{any_passes_from_place as any-in}
use Rattle.rg_base.specs.declared.object.Label.TheVariants.{Temp}
use Rattle.rg_base.specs.declared.object.Seen.{Seen}
use Rattle.rg_base.specs.declared.value.Val.{Val}
use Rattle.rg_base.specs.declared.value.Word.{Word}
use Rattle.rg_base.specs.declared.value.Word.TheVariants as word
use Rattle.rg_cells.specs.Table.{Heap, label_at, field_at, Serials}
use Rattle.rg_regions.specs.Reach.{LiesIn}
use Rattle.rg_regions.specs.Grove.{Grove}
use Rattle.rg_frames.specs.declared.rows.Frame.{Frame as FrameRow}
use Rattle.rg_frames.specs.declared.rows.Window.{Window as WindowRow}
use Rattle.rg_frames.specs.Stack.{Stack}
use Rattle.rg_stack.specs.Machine.{Frame, Window}
use Rattle.rg_stack.specs.Needs.{slots_into, fields_into, owned_once}
use Rattle.rg_stack.specs.Labels.{is_into, has_window}
use Rattle.rg_heap.specs.Parts.{Parts}
use Rattle.rg_heap.specs.Answers.{val_of, IsClosed}
use Rattle.rg_heap.specs.Opened.{Opened, IsWindow}
use Rattle.rg_held.proofs.Lists.{count-one as count-hit}
use Rattle.rg_view.specs.View.{store_of, window_of, windows_of, machine_of}
use Rattle.rg_view.specs.Numbers.{Numbers}
use Rattle.rg_view.specs.Lain.{Nested, Lain}
use Rattle.rg_view.proofs.Callers.Frame.{frames_from}
use Rattle.rg_view.proofs.Callers.Open.{any-map, any-reverse, into-there}
use Rattle.rg_view.proofs.Callers.Need.{label-counts, places-most, weight}
use Rattle.rg_view.proofs.Callers.Once.{count-two}

-- what the slots of all frames count is what all slots do
pub slots-count : (h : Heap) (store : List Seen) (r : ℕ) (slots : List Word) (first : ℕ) (fs : List FrameRow) → Nested first (length slots) fs
    → slots_into store r (frames_from h slots first fs) ≡ count_by (is_into store r) (map (val_of h) slots)
slots-count h store r [] first [] n = refl
slots-count h store r (w ∷ ws) first [] n = absurd cc
slots-count h store r slots first (f ∷ fs) n =
    let test : Val → ℕ = λ x. weight (is_into store r x) in
    let taken = length-take-le first slots n.0 in
    let P : ℕ → Type 0 = λ k. Nested f.below k fs in
    let under = slots-count h store r (take first slots) f.below fs (subst P (sym taken) n.1) in
    let c = sum_by-cons (λ (x : Frame). count_by (is_into store r) x.slots) (record { slots = map (val_of h) (drop first slots); back = f.back })
    (frames_from h (take first slots) f.below fs) in
    let low : sum_by test (take first (map (val_of h) slots)) ≡ count_by (is_into store r) (map (val_of h) (take first slots)) =
    ap (sum_by test) (take-map (val_of h) first slots) in
    let high : sum_by test (drop first (map (val_of h) slots)) ≡ count_by (is_into store r) (map (val_of h) (drop first slots)) =
    ap (sum_by test) (drop-map (val_of h) first slots) in
    let all : sum_by test (take first (map (val_of h) slots)) + sum_by test (drop first (map (val_of h) slots))
    ≡ count_by (is_into store r) (map (val_of h) slots) = sum_by-take-drop test (map (val_of h) slots) first in
    omega (arith, under, c, low, high, all)

module _ (p : Parts) (v : Stack) (at : ℕ) (q : Serials p.cells.heap) (g : Grove p.cells p.regions) (o : Opened p v) where
  into-at : (r j s : ℕ) → slice_get v.slots j ≡ Some (word.Slot s) → slice_get (map (val_of p.cells.heap) v.slots) j
      ≡ Some (val_of p.cells.heap (word.Slot s))
  into-at r j s e = slice_get-map (val_of p.cells.heap) v.slots j ∙ ap (option_map (val_of p.cells.heap)) e

  -- two slots that lead into a closed region are one
  pub sole-slot : (r j k s to : ℕ) → Lain v → Numbers p.regions → IsClosed p.regions v r → owned_once (machine_of p v at) ≡ true
      → slice_get v.slots j ≡ Some (word.Slot s) → LiesIn p.cells.heap r s
      → slice_get v.slots k ≡ Some (word.Slot to) → LiesIn p.cells.heap r to → j ≡ k
  sole-slot r j k s to lain n c once e lies f into = elim (cases_eq j k) [
    | inl is ↦ is
    | inr d ↦
        let most = places-most p v at q g o r n c once in
        let count = slots-count p.cells.heap (store_of p.cells.heap) r v.slots v.first (reverse v.frames) lain in
        let two = count-two (is_into (store_of p.cells.heap) r) (map (val_of p.cells.heap) v.slots) j k
        (val_of p.cells.heap (word.Slot s)) (val_of p.cells.heap (word.Slot to)) (into-at r j s e) (into-at r k to f)
        (into-there p.cells.heap r s q lies) (into-there p.cells.heap r to q into) d in
        absurd (omega (arith, most, count, two))
  ]

  -- a field of a window's temporary that leads into a region is counted
  temp-counts : (r i s k to : ℕ) (w : WindowRow) → IsWindow v i w → label_at p.cells.heap s ≡ Some (Temp w.number)
      → field_at p.cells.heap s k ≡ Some (word.Slot to) → LiesIn p.cells.heap r to
      → 1 ≤ fields_into (store_of p.cells.heap) (windows_of p.regions v) r (store_of p.cells.heap)
  temp-counts r i s k to w is temp leads into = label-counts p v at q g o r s k to (Temp w.number) temp has leads into
    where
      has : has_window (windows_of p.regions v) w.number ≡ true
      has =
          any-map (window_of p.regions) (λ (u : Window). u.number == w.number) (reverse v.windows)
          ∙ any-reverse (λ (u : WindowRow). u.number == w.number) v.windows
          ∙ any-in (λ (u : WindowRow). u.number == w.number) v.windows i w is (eq-is w.number w.number refl)

  -- beside a slot no field of a temporary leads into a closed region
  pub sole-temp : (r j s₂ i s k to : ℕ) (w : WindowRow) → Lain v → Numbers p.regions → IsClosed p.regions v r
      → owned_once (machine_of p v at) ≡ true
      → slice_get v.slots j ≡ Some (word.Slot s₂) → LiesIn p.cells.heap r s₂
      → IsWindow v i w → label_at p.cells.heap s ≡ Some (Temp w.number)
      → field_at p.cells.heap s k ≡ Some (word.Slot to) → LiesIn p.cells.heap r to → ⊥
  sole-temp r j s₂ i s k to w lain n c once e lies is temp leads into =
      let most = places-most p v at q g o r n c once in
      let count = slots-count p.cells.heap (store_of p.cells.heap) r v.slots v.first (reverse v.frames) lain in
      let slot = count-hit (is_into (store_of p.cells.heap) r) (map (val_of p.cells.heap) v.slots) j
      (val_of p.cells.heap (word.Slot s₂)) (into-at r j s₂ e) (into-there p.cells.heap r s₂ q lies) in
      let field = temp-counts r i s k to w is temp leads into in
      absurd (omega (arith, most, count, slot, field))
