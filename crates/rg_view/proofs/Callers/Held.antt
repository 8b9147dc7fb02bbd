-- That words lead to held cells, and that regions of objects are below the next number, from what holds between calls.
use Rattle.std.proofs.Common.{◌≡◌, ◌<◌, inl, inr, ℕ, ◌+◌, take, length, Option, Some, None, option_map, option_and_then, slice_get}
use Rattle.std.proofs.Common.{slice_index_or, refl, sym, ap, ◌∙◌, arith}
use Rattle.std.proofs.lemmas.Option.{none-some, same_Some}
use Rattle.rg_base.specs.declared.object.Label.{Label}
use Rattle.rg_base.specs.declared.object.Label.TheVariants.{Region, Temp, Frozen}
use Rattle.rg_base.specs.declared.value.Word.TheVariants as word
use Rattle.rg_rules.specs.Regions.{region_at}
use Rattle.rg_cells.specs.declared.cell.Body.{Body}
use Rattle.rg_cells.specs.Table.{Heap, body_at, label_at, Serials, IsHeld}
use Rattle.rg_regions.specs.Table.{Record, RegionTable, record_at, InTable}
use Rattle.rg_regions.specs.Reach.{LiesIn}
use Rattle.rg_regions.specs.Grove.{Grove}
use Rattle.rg_regions.proofs.Callers.Told.{labelled_held}
use Rattle.rg_frames.specs.declared.rows.Window.{Window as WindowRow}
use Rattle.rg_frames.specs.Stack.{Stack}
use Rattle.rg_heap.specs.Parts.{Parts}
use Rattle.rg_heap.specs.Answers.{AllLead}
use Rattle.rg_heap.specs.Opened.{Opened, IsWindow}
use Rattle.rg_view.specs.View.{store_of, managers_of}
use Rattle.rg_view.specs.Numbers.{Numbers}
use Rattle.rg_view.proofs.Callers.Shown.{get-drop, get-take}
use Rattle.rg_view.proofs.Callers.Manager.{managers-length}
use Rattle.rg_view.proofs.Callers.Link.{region-back}

-- each temporary is one of an open window
abbrev pub TempsOfWindows : Heap → Stack → Type 0
TempsOfWindows h v = (s n : ℕ) → label_at h s ≡ Some (Temp n) → (i : ℕ) × (w : WindowRow) × IsWindow v i w × (w.number ≡ n)

-- then fields of all cells lead to held cells
pub all-lead : (p : Parts) (v : Stack) → Grove p.cells p.regions → Opened p v → TempsOfWindows p.cells.heap v → (s : ℕ) → AllLead p.cells.heap s
all-lead p v g o temps s k to e = by (body_at p.cells.heap s) refl
  where
    label : (l : Label) → label_at p.cells.heap s ≡ Some l → IsHeld p.cells.heap to
    label (Region r) is = elim (g.fields r s k to is e) [
      | inl frozen ↦ labelled_held p.cells.heap to Frozen frozen
      | inr rest ↦ elim rest [
        | inl own ↦ labelled_held p.cells.heap to (Region r) own
        | inr x ↦ labelled_held p.cells.heap to (Region x.0) x.2
      ]
    ]
    label (Temp n) is =
        let w = temps s n is in
        let t = o.all_temps w.0 s w.1 w.2 (is ∙ ap (λ m. Some (Temp m)) (sym w.3)) in
        let begin = slice_index_or v.marks w.0 0 in
        let end = slice_index_or v.marks (w.0 + 1) (length v.temps) in
        o.lead (begin + t.0) s (get-take end (begin + t.0) v.temps s (sym (get-drop begin t.0 (take end v.temps)) ∙ t.1)) k to e
    label Frozen is = labelled_held p.cells.heap to Frozen (g.frozen s k to is e)

    by : (c : Option Body) → body_at p.cells.heap s ≡ c → IsHeld p.cells.heap to
    by None f = absurd (none-some (word.Slot to) (sym (ap (option_and_then (λ (b : Body). slice_get b.fields k)) f) ∙ e))
    by (Some b) f = label b.label (ap (option_map (λ (b : Body). b.label)) f)

-- the region of an object is one of those that were made
pub region-below : (h : Heap) (t : RegionTable) (a r : ℕ) → Serials h → Numbers t → ((r s : ℕ) → LiesIn h r s → InTable t r)
    → region_at (store_of h) a ≡ Some r → r < length (managers_of t)
region-below h t a r q n labels e =
    let x = region-back h a r q e in
    let known = labels r x.0 x.4 in
    by known.0 (record_at t known.0) refl known.1
  where
    by : (key : ℕ) (o : Option Record) → record_at t key ≡ o → option_map (λ (r : Record). r.number) (record_at t key) ≡ Some r
        → r < length (managers_of t)
    by key None f has = absurd (none-some r (sym (ap (option_map (λ (r : Record). r.number)) f) ∙ has))
    by key (Some rec) f has =
        let is : rec.number ≡ r = same_Some rec.number r (sym (ap (option_map (λ (r : Record). r.number)) f) ∙ has) in
        let lt = n.below key rec f in
        omega (arith, is, lt, managers-length t)
