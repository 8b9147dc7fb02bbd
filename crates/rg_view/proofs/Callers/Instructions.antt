-- The conditions of the heap's calls for whole instructions: enter, swap, freeze and merge.
use Rattle.std.proofs.Common.{◌≡◌, ◌⊎◌, ℕ, true, Some, refl, sym, ap, ◌∙◌, subst}
use Rattle.rg_base.specs.declared.value.Word.{Word}
use Rattle.rg_base.specs.declared.value.Word.TheVariants as word
use Rattle.rg_base.proofs.Callers.Labels.{slot-same}
use Rattle.rg_cells.specs.declared.cell.Body.{Body}
use Rattle.rg_cells.specs.Table.{body_at, field_at, Serials, IsHeld}
use Rattle.rg_regions.specs.Table.{IsBridge}
use Rattle.rg_regions.specs.Reach.{LiesIn}
use Rattle.rg_regions.specs.Grove.{Grove}
use Rattle.rg_frames.specs.Stack.{Stack}
use Rattle.rg_stack.specs.Machine.{slot_at}
use Rattle.rg_stack.specs.Needs.{owned_once, owns_or_nil, may_stand}
use Rattle.rg_stack.specs.Places.{is_writable}
use Rattle.rg_heap.specs.Parts.{Parts}
use Rattle.rg_heap.specs.Answers.{val_of, IsClosed}
use Rattle.rg_heap.specs.Reads.{LeadsIntoClosed}
use Rattle.rg_heap.specs.Opened.{Opened}
use Rattle.rg_heap.specs.Moves.{CanMove, NotBeneath}
use Rattle.rg_heap.specs.Writes.{Stays, Ownerless, Comes, InActive, LeadsOut}
use Rattle.rg_heap.specs.Ends.{IsTemp}
use Rattle.rg_view.specs.View.{machine_of}
use Rattle.rg_view.specs.Numbers.{Numbers}
use Rattle.rg_view.proofs.Callers.Open.{owner-leads}
use Rattle.rg_view.proofs.Callers.Need.{keyed, top, write-place, stays, ownerless-slot, not-beneath, comes, leads-out}

-- a reference into a closed region leads to its bridge
abbrev pub LeadsToBridge : Parts → Stack → Word → Type 0
LeadsToBridge p v w = (s r : ℕ) → w ≡ word.Slot s → LiesIn p.cells.heap r s → IsClosed p.regions v r → IsBridge p.regions r s

module _ (p : Parts) (v : Stack) (at : ℕ) (q : Serials p.cells.heap) (g : Grove p.cells p.regions) (o : Opened p v) where
  -- a word that owns leads into a closed region
  pub owns : (s : ℕ) → IsHeld p.cells.heap s → owns_or_nil (machine_of p v at) (val_of p.cells.heap (word.Slot s)) ≡ true
      → LeadsIntoClosed p v (word.Slot s)
  owns s held e = owner-leads p v at q (keyed p v at q g o) g.labels s held e

  -- the region of a slot of the topmost frame that owns has no owner in the heap
  pub slot-ownerless : (s i : ℕ) → Numbers p.regions → IsHeld p.cells.heap s → LeadsToBridge p v (word.Slot s)
      → slot_at (machine_of p v at) i ≡ val_of p.cells.heap (word.Slot s) → owned_once (machine_of p v at) ≡ true
      → owns_or_nil (machine_of p v at) (val_of p.cells.heap (word.Slot s)) ≡ true
      → (r : ℕ) × Ownerless p.cells.heap p.regions r s × IsClosed p.regions v r
  slot-ownerless s i n held bridge is once e =
      let l = owns s held e in
      let lies : LiesIn p.cells.heap l.0 s = subst (LiesIn p.cells.heap l.0) (slot-same l.1 s (sym l.2)) l.3 in
      (l.0, ownerless-slot p v at q g o l.0 s i n lies l.4 (bridge s l.0 refl lies l.4) is once, l.4)

  -- so it can be frozen, merged or dropped
  pub can-move : (s i : ℕ) → Numbers p.regions → IsHeld p.cells.heap s → LeadsToBridge p v (word.Slot s)
      → slot_at (machine_of p v at) i ≡ val_of p.cells.heap (word.Slot s) → owned_once (machine_of p v at) ≡ true
      → owns_or_nil (machine_of p v at) (val_of p.cells.heap (word.Slot s)) ≡ true
      → CanMove p.cells.heap p.regions (word.Slot s)
  can-move s i n held bridge is once e = let x = slot-ownerless s i n held bridge is once e in (x.0, x.1)

  -- and the active region isn't beneath it
  pub can-merge : (s : ℕ) → IsHeld p.cells.heap s → owns_or_nil (machine_of p v at) (val_of p.cells.heap (word.Slot s)) ≡ true
      → NotBeneath p s (top p v at q g o).window.region
  can-merge s held e =
      let l = owns s held e in
      not-beneath p v at q g o l.0 s (subst (LiesIn p.cells.heap l.0) (slot-same l.1 s (sym l.2)) l.3) l.4

  -- a field of an object that may be written gets a value that may stand there
  pub can-write : (s : ℕ) (b : Body) (w : Word) → body_at p.cells.heap s ≡ Some b → is_writable (machine_of p v at) b.label ≡ true
      → ((to : ℕ) → w ≡ word.Slot to → IsHeld p.cells.heap to) → may_stand (machine_of p v at) b.label (val_of p.cells.heap w) ≡ true
      → InActive p.cells.heap p.regions v s (λ n. Stays p.cells.heap n w) ⊎ IsTemp p.cells.heap s
  can-write s b w e may held stand =
      write-place p v at q g o s b (λ n. Stays p.cells.heap n w) e may (λ n is label.
      stays p v at q g o n w held (sym (ap (λ l. may_stand (machine_of p v at) l (val_of p.cells.heap w)) label) ∙ stand))

  -- a field that owns changes places with a slot that owns
  pub can-swap : (s k i : ℕ) (b : Body) (w : Word) → Numbers p.regions → body_at p.cells.heap s ≡ Some b
      → is_writable (machine_of p v at) b.label ≡ true → ((to : ℕ) → w ≡ word.Slot to → IsHeld p.cells.heap to)
      → ((to : ℕ) → field_at p.cells.heap s k ≡ Some (word.Slot to) → IsHeld p.cells.heap to) → LeadsToBridge p v w
      → slot_at (machine_of p v at) i ≡ val_of p.cells.heap w → owned_once (machine_of p v at) ≡ true
      → owns_or_nil (machine_of p v at) (val_of p.cells.heap w) ≡ true
      → ((u : Word) → field_at p.cells.heap s k ≡ Some u → owns_or_nil (machine_of p v at) (val_of p.cells.heap u) ≡ true)
      → InActive p.cells.heap p.regions v s (λ n. Comes p.cells.heap p.regions n w × LeadsOut p.cells.heap s k n) ⊎ IsTemp p.cells.heap s
  can-swap s k i b w n e may held leads bridge is once owner field =
      write-place p v at q g o s b (λ n. Comes p.cells.heap p.regions n w × LeadsOut p.cells.heap s k n) e may (λ r same label.
      subst (λ r. Comes p.cells.heap p.regions r w × LeadsOut p.cells.heap s k r) (sym same) (
        comes p v at q g o w
            (λ to r f lies c. ownerless-slot p v at q g o r to i n lies c (bridge to r f lies c) (is ∙ ap (val_of p.cells.heap) f) once)
            (λ to f.
            let owns_it = sym (ap (λ w. owns_or_nil (machine_of p v at) (val_of p.cells.heap w)) f) ∙ owner in
            subst (LeadsIntoClosed p v) (sym f) (owns to (held to f) owns_it)),
        leads-out p v at q g o s k (λ to f. owns to (leads to f) (field (word.Slot to) f)),
      ))
