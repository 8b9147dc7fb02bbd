-- What the machine reads of an object that a word leads to, and of a stack of words.
use Rattle.std.proofs.Common.{◌≡◌, ◌<◌, ℕ, true, List, [], ◌∷◌, ◌++◌, map, length, Option, Some, option_map, unwrap_or, nat_lt}
use Rattle.std.proofs.Common.{Ok, Err, ok_or, Bool as Truth, sym, ap, ◌∙◌, arith}
use Rattle.std.proofs.lemmas.List.{reverse-append, length-map}
use Rattle.std.proofs.lemmas.Option.{slice_get-map}
use Rattle.rg_base.specs.declared.object.Seen.{Seen}
use Rattle.rg_base.specs.declared.outcome.Trap.TheVariants as trap
use Rattle.rg_base.specs.declared.value.Val.TheVariants as val
use Rattle.rg_base.specs.declared.value.Word.{Word}
use Rattle.rg_base.specs.declared.value.Word.TheVariants as word
use Rattle.rg_rules.specs.Evaluation.{object_at}
use Rattle.rg_cells.specs.declared.cell.Body.{Body}
use Rattle.rg_cells.specs.Table.{Heap, body_at, field_at, width, Serials}
use Rattle.rg_frames.specs.Stack.{Stack}
use Rattle.rg_heap.specs.Parts.{Parts}
use Rattle.rg_heap.specs.Answers.{val_of}
use Rattle.rg_stack.specs.Needs.{of_object}
use Rattle.rg_stack.specs.Places.{field_of}
use Rattle.rg_view.specs.View.{object_of, store_of, machine_of, values_of}
use Rattle.rg_view.proofs.Callers.Look.{store-held, val-held}
use Rattle.rg_view.proofs.Callers.Shown.{field-in}

-- a word on top of others
pub pushed-value : (h : Heap) (ws : List Word) (w : Word) → values_of h (ws ++ w ∷ []) ≡ val_of h w ∷ values_of h ws
pushed-value h ws w = ap (map (val_of h)) (reverse-append ws (w ∷ []))

-- the object to which a reference leads
pub object-there : (h : Heap) (s : ℕ) (b : Body) → Serials h → body_at h s ≡ Some b
    → object_at (store_of h) (val_of h (word.Slot s)) ≡ Ok (object_of h (Some b))
object-there h s b q e =
    ap (object_at (store_of h)) (val-held h s b e)
    ∙ ap (λ (o : Option Seen). ok_or o trap.Nil) (store-held h s b q e)

-- what a field of it holds
pub field-there : (h : Heap) (s k : ℕ) (b : Body) (w : Word) → body_at h s ≡ Some b → field_at h s k ≡ Some w
    → field_of (object_of h (Some b)) k ≡ val_of h w
field-there h s k b w e f =
    ap (λ o. unwrap_or o val.Nil)
    (slice_get-map (val_of h) b.fields k ∙ ap (option_map (val_of h)) (sym (field-in h s k b e) ∙ f))

-- a test of the object is one of what the cell shows
pub object-tested : (p : Parts) (v : Stack) (at s : ℕ) (b : Body) (test : Seen → Truth) → Serials p.cells.heap → body_at p.cells.heap s ≡ Some b
    → of_object (machine_of p v at) (val_of p.cells.heap (word.Slot s)) test ≡ test (object_of p.cells.heap (Some b))
object-tested p v at s b test q e =
    ap (λ r. elim r [ Ok o ↦ test o | Err t ↦ true ]) (object-there p.cells.heap s b q e)

-- the cell has the field
pub field-within : (p : Parts) (v : Stack) (at s k : ℕ) (b : Body) → Serials p.cells.heap → body_at p.cells.heap s ≡ Some b
    → nat_lt k (length (object_of p.cells.heap (Some b)).fields) ≡ true → k < width (body_at p.cells.heap s)
field-within p v at s k b q e test =
    let lt : k < length (map (val_of p.cells.heap) b.fields) = grind (arith, test) in
    let same : width (body_at p.cells.heap s) ≡ length b.fields = ap width e in
    omega (arith, lt, same, length-map b.fields (val_of p.cells.heap))
