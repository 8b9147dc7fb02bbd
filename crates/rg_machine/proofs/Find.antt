-- What is found of an object by its serial.
use Rattle.std.proofs.Common.{◌≡◌, ◌<◌, ◌≤◌, ◌-◌, ◌^◌, ℕ, List, map, Option, Some, None, IfOk, Result, Ok, Err, slice_get, option_map, sym, ap}
use Rattle.std.proofs.Common.{subst, ◌∙◌}
use Rattle.std.proofs.Common.{arith}
use Rattle.std.proofs.lemmas.Option.{same_Some, slice_get_within}
use Rattle.rg_base.specs.declared.object.Label.{Label}
use Rattle.rg_base.specs.declared.object.Seen.{Seen}
use Rattle.rg_base.specs.declared.value.Val.{Val}
use Rattle.rg_cells.specs.declared.cell.Body.{Body}
use Rattle.rg_cells.specs.Table.{Serials, body_at}
use Rattle.rg_frames.specs.Stack.{Stack}
use Rattle.rg_heap.specs.Answers.{val_of}
use Rattle.rg_heap.specs.Reads.{Shows, fields_of}
use Rattle.rg_heap.specs.Parts.{Parts as HeapParts}
use Rattle.rg_held.specs.Gone.{gone}
use Rattle.rg_held.specs.Shown.{Finds}
use Rattle.rg_view.specs.View.{store_of}
use Rattle.rg_machine.specs.Stands.{Stands}
use Rattle.rg_view.proofs.Callers.Look.{store-gone, store-held, store-length}

-- the parts of an object
object-by : (o : Seen) (class : ℕ) (fields : List Val) (label : Label) → o.class ≡ class → o.fields ≡ fields → o.label ≡ label
    → o ≡ record { class = class; fields = fields; label = label }
object-by o class fields label a b c =
    ap (λ n. record o { class = n }) a ∙ ap (λ vs. record o { class = class; fields = vs }) b
    ∙ ap (λ l. record { class = class; fields = fields; label = l }) c

module _ (p : HeapParts) (v : Stack) (q : Serials p.cells.heap) (stands : Stands p v) (few : v.next ≤ 2 ^ 64 - 1) where
  -- no object that is held shows as one that is gone: a temporary's window has its number
  not-gone : (s : ℕ) (b : Body) → body_at p.cells.heap s ≡ Some b → (o : Seen) → o.label ≡ b.label → o ≡ gone → ⊥
  not-gone s b at o same is =
      let w = stands.temps s (2 ^ 64 - 1) (ap (option_map (λ (b : Body). b.label)) at ∙ ap Some (sym same)
      ∙ ap (λ (o : Seen). Some o.label) is) in
      let less = stands.windows_next w.0 w.1 w.2 in
      let number = w.3 in
      omega (arith, less, few, number)

  finds-by : (serial : ℕ) (o : Option Seen) → Shows p.cells.heap serial o → Finds (store_of p.cells.heap) serial o
  finds-by serial None lacks = λ o e. (
      let h = p.cells.heap in
      let less = slice_get_within (store_of h) serial o e in
      let made = store-length h in
      let below : serial < h.next = omega (arith, less, made) in
      sym (same_Some gone o (sym (store-gone h serial below lacks) ∙ e)))
  finds-by serial (Some o) (slot, b, at, is, class, label, fields) =
      let h = p.cells.heap in
      let shown = ap (λ (x : Option Body). map (val_of h) (fields_of x)) at in (
        subst (λ n. slice_get (store_of h) n ≡ Some o) is
            (store-held h slot b q at ∙ ap Some (sym (object-by o b.class (map (val_of h) b.fields) b.label class (fields ∙ shown) label))),
        not-gone slot b at o label,
      )

  pub finds : (serial : ℕ) {E : Type 0} (r : Result (Option Seen) E) → IfOk r (Shows p.cells.heap serial)
      → IfOk r (Finds (store_of p.cells.heap) serial)
  finds serial (Ok o) shows = finds-by serial o shows
  finds serial (Err e) shows = tt
