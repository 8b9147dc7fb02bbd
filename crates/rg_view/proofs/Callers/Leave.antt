-- What leaving a window asks of the heap, from what holds between calls.
use Rattle.std.proofs.Common.{◌≡◌, ◌<◌, ℕ, ◌+◌, ◌-◌, length, drop, take, Some, slice_get}
use Rattle.std.proofs.Common.{slice_index_or, sym, ap, ◌∙◌, arith}
use Rattle.std.proofs.lemmas.List.{get_or_past, take_all}
use Rattle.std.proofs.lemmas.Bool.{eq-eqb}
use Rattle.std.proofs.lemmas.Map.Keys.{any_passes_from_place}
use Rattle.rg_base.proofs.Callers.Lists.{there}
use Rattle.rg_regions.specs.Grove.{Grove}
use Rattle.rg_frames.specs.Stack.{Stack, has_region, mark}
use Rattle.rg_heap.specs.Parts.{Parts}
use Rattle.rg_heap.specs.Ends.{CanLeave, OneOutside, top_temps}
use Rattle.rg_heap.specs.Opened.{Opened, IsTempOf}
use Rattle.rg_view.proofs.Callers.Shown.{get-drop}

-- the topmost window's temporaries are those of the window at the last place
pub last-temps : (v : Stack) → length v.marks ≡ length v.windows → 0 < length v.windows
    → drop (slice_index_or v.marks (length v.windows - 1) 0)
    (take (slice_index_or v.marks (length v.windows - 1 + 1) (length v.temps)) v.temps) ≡ top_temps v
last-temps v many some =
    let last : length v.windows - 1 ≡ length v.marks - 1 = omega (arith, many) in
    let end : slice_index_or v.marks (length v.windows - 1 + 1) (length v.temps) ≡ length v.temps =
    get_or_past v.marks (length v.windows - 1 + 1) (length v.temps) (omega (arith, many, some)) in
    let all : take (slice_index_or v.marks (length v.windows - 1 + 1) (length v.temps)) v.temps ≡ v.temps =
    ap (λ n. take n v.temps) end ∙ take_all (length v.temps) v.temps (omega arith) in
    ap (drop (slice_index_or v.marks (length v.windows - 1) 0)) all ∙ ap (λ n. drop (slice_index_or v.marks n 0) v.temps) last

module _ (p : Parts) (v : Stack) (g : Grove p.cells p.regions) (o : Opened p v) where
  same-temps : drop (slice_index_or v.marks (length v.windows - 1) 0)
      (take (slice_index_or v.marks (length v.windows - 1 + 1) (length v.temps)) v.temps) ≡ top_temps v
  same-temps = last-temps v o.as_many o.some

  pub top-temp : (i s : ℕ) → slice_get (top_temps v) i ≡ Some s → IsTempOf v (length v.windows - 1) s
  top-temp i s e = (i, ap (λ xs. slice_get xs i) same-temps ∙ e)

  pub temp-top : (s : ℕ) → IsTempOf v (length v.windows - 1) s → (i : ℕ) × (slice_get (top_temps v) i ≡ Some s)
  temp-top s t = (t.0, ap (λ xs. slice_get xs t.0) (sym same-temps) ∙ t.1)

  top-place : (i s : ℕ) → slice_get (top_temps v) i ≡ Some s → slice_get v.temps (mark v + i) ≡ Some s
  top-place i s e = sym (get-drop (mark v) i v.temps) ∙ e

  pub can-leave : OneOutside p v → CanLeave p v
  can-leave once = record {
    first = λ key n.
        let w = there v.windows 0 o.some in
        let same : w.0.region ≡ key = g.numbers w.0.region key 0 (o.first w.0 w.1) n in
        any_passes_from_place (has_region key) v.windows 0 w.0 w.1 (eq-eqb w.0.region key same);
    temps = λ i s e.
        let some = o.some in
        let w = there v.windows (length v.windows - 1) (omega (arith, some)) in
        (w.0.number, o.temps (length v.windows - 1) s w.0 w.1 (top-temp i s e));
    once = λ i j s e f.
        let same = o.once (mark v + i) (mark v + j) s (top-place i s e) (top-place j s f) in
        omega (arith, same);
    lead = λ i s e. o.lead (mark v + i) s (top-place i s e);
    one_outside = once;
  }
