-- The regions that go with a window's temporaries, in the heap and in the store that it shows.
use Rattle.std.proofs.Common.{◌≡◌, inl, inr, ℕ, ◌-◌, true, map, length, Option, Some, None, option_map, slice_get}
use Rattle.std.proofs.Common.{refl, sym, ap, ◌∙◌, arith}
use Rattle.std.proofs.lemmas.Bool.{false≢true, eq-eqb, eqb-true}
use Rattle.std.proofs.lemmas.Option.{none-some, slice_get-map}
use Rattle.rg_base.specs.declared.object.Label.{Label}
use Rattle.rg_base.specs.declared.object.Label.TheVariants.{Region, Temp, Frozen}
use Rattle.rg_base.specs.declared.object.Seen.{Seen}
use Rattle.rg_base.specs.declared.value.Word.TheVariants as word
use Rattle.rg_base.proofs.Callers.Lists.{there}
use Rattle.rg_cells.specs.declared.cell.Body.{Body}
use Rattle.rg_cells.specs.Table.{body_at, label_at, Serials}
use Rattle.rg_regions.specs.Grove.{Grove}
use Rattle.rg_frames.specs.declared.rows.Window.{Window as WindowRow}
use Rattle.rg_frames.specs.Stack.{Stack}
use Rattle.rg_stack.specs.Tops.{top_window}
use Rattle.rg_stack.specs.Needs.{is_top_temp, closed_into}
use Rattle.rg_heap.specs.Parts.{Parts}
use Rattle.rg_heap.specs.Answers.{val_of}
use Rattle.rg_heap.specs.Ends.{OwnedByOne, top_temps, IsTopTemp}
use Rattle.rg_heap.specs.Opened.{Opened}
use Rattle.rg_view.specs.View.{object_of, windows_of, machine_of}
use Rattle.rg_view.specs.Names.{AreTemps}
use Rattle.rg_view.specs.Links.{ByTemp}
use Rattle.rg_view.proofs.Callers.Look.{store-held}
use Rattle.rg_view.proofs.Callers.Shown.{field-in}
use Rattle.rg_view.proofs.Callers.Window.{active-number}
use Rattle.rg_view.proofs.Callers.Link.{store-back, word-back}
use Rattle.rg_view.proofs.Callers.Open.{into-closed, closed-there}
use Rattle.rg_view.proofs.Callers.Need.{keyed}
use Rattle.rg_view.proofs.Callers.Leave.{top-temp, temp-top}

module _ (p : Parts) (v : Stack) (at : ℕ) (q : Serials p.cells.heap) (g : Grove p.cells p.regions) (o : Opened p v) where
  -- the topmost window
  pub top-row : (w : WindowRow) × (slice_get v.windows (length v.windows - 1) ≡ Some w)
  top-row = let some = o.some in there v.windows (length v.windows - 1) (omega (arith, some))

  pub number-shown : top_window (windows_of p.regions v) ≡ top-row.0.number
  number-shown = active-number p.regions v top-row.0 top-row.1

  -- the topmost window's temporaries are the cells that are labelled with its number
  pub top-temps : AreTemps p.cells.heap (Some top-row.0.number) (IsTopTemp v)
  top-temps = record {
    all = λ s n e is.
        let same : Some (Temp n) ≡ Some (Temp top-row.0.number) = ap (option_map Temp) (sym is) in
        temp-top p v g o s (o.all_temps (length v.windows - 1) s top-row.0 top-row.1 (e ∙ same));
    only = λ s t.
        (top-row.0.number, o.temps (length v.windows - 1) s top-row.0 top-row.1 (top-temp p v g o t.0 s t.1), refl);
  }

  -- a region that one of them owns, as the machine sees it
  pub owned-temp : (r : ℕ) → OwnedByOne p.cells.heap p.regions v (top_temps v) r → ByTemp (machine_of p v at) r
  owned-temp r a = by (body_at p.cells.heap a.slot) refl
    where
      labelled : label_at p.cells.heap a.slot ≡ Some (Temp top-row.0.number)
      labelled = o.temps (length v.windows - 1) a.slot top-row.0 top-row.1 (top-temp p v g o a.place a.slot a.stands)

      by : (c : Option Body) → body_at p.cells.heap a.slot ≡ c → ByTemp (machine_of p v at) r
      by None e = absurd (none-some (Temp top-row.0.number) (sym (ap (option_map (λ (b : Body). b.label)) e) ∙ labelled))
      by (Some b) e =
          let label : Some b.label ≡ Some (Temp top-row.0.number) = sym (ap (option_map (λ (b : Body). b.label)) e) ∙ labelled in
          record {
            object = b.serial;
            holder = object_of p.cells.heap (Some b);
            there = store-held p.cells.heap a.slot b q e;
            temp = temp-label b label;
            field = a.field;
            value = val_of p.cells.heap (word.Slot a.to);
            stands =
                slice_get-map (val_of p.cells.heap) b.fields a.field
                ∙ ap (option_map (val_of p.cells.heap)) (sym (field-in p.cells.heap a.slot a.field b e) ∙ a.leads);
            leads = closed-there p v at q (keyed p v at q g o) g.labels a.to r a.lies a.closed;
          }
        where
          some-label : (l k : Label) → Some l ≡ Some k → l ≡ k
          some-label l k e = cc

          temp-label : (b : Body) → Some b.label ≡ Some (Temp top-row.0.number) → is_top_temp (machine_of p v at) b.label ≡ true
          temp-label b e =
              ap (is_top_temp (machine_of p v at)) (some-label b.label (Temp top-row.0.number) e)
              ∙ eq-eqb top-row.0.number (top_window (windows_of p.regions v)) (sym number-shown)

  pub temp-owned : (r : ℕ) → ByTemp (machine_of p v at) r → OwnedByOne p.cells.heap p.regions v (top_temps v) r
  temp-owned r a = elim (store-back p.cells.heap a.object a.holder a.there) [
    | inl x ↦
        let fields : map (val_of p.cells.heap) x.body.fields ≡ a.holder.fields = sym (ap (λ (o : Seen). o.fields) x.shown) in
        let w = word-back p.cells.heap x.body.fields a.field a.value (ap (λ vs. slice_get vs a.field) fields ∙ a.stands) in
        let c = into-closed p v at q (keyed p v at q g o) g.labels w.0 r (ap (closed_into (machine_of p v at)) w.2 ∙ a.leads) in
        let lies : label_at p.cells.heap x.slot ≡ Some (Temp top-row.0.number) =
        ap (option_map (λ (b : Body). b.label)) x.held ∙ ap Some (sym (ap (λ (o : Seen). o.label) x.shown) ∙ temp-is a.holder.label a.temp) in
        let t = temp-top p v g o x.slot (o.all_temps (length v.windows - 1) x.slot top-row.0 top-row.1 lies) in
        record {
          closed = c.3;
          place = t.0;
          slot = x.slot;
          field = a.field;
          to = c.0;
          stands = t.1;
          leads = field-in p.cells.heap x.slot a.field x.body x.held ∙ w.1 ∙ ap Some c.1;
          lies = c.2;
        }
    | inr x ↦ absurd (none-some a.value (ap (λ (o : Seen). slice_get o.fields a.field) (sym x) ∙ a.stands))
  ]
    where
      temp-is : (l : Label) → is_top_temp (machine_of p v at) l ≡ true → l ≡ Temp top-row.0.number
      temp-is (Region r) e = absurd (false≢true e)
      temp-is (Temp n) e = ap Temp (eqb-true n (top_window (windows_of p.regions v)) e ∙ number-shown)
      temp-is Frozen e = absurd (false≢true e)
