-- The machine behind each call of the heap that changes it.
use Rattle.std.proofs.Common.{◌≡◌, ℕ, List, [], ◌∷◌, ◌++◌, map, Option, Some, slice_get, refl, ap, ◌∙◌}
use Rattle.rg_base.specs.declared.object.Label.{Label}
use Rattle.rg_base.specs.declared.object.Seen.{Seen}
use Rattle.rg_base.specs.declared.words.Manager.{Manager}
use Rattle.rg_base.specs.declared.value.Word.{Word}
use Rattle.rg_base.specs.declared.value.Word.TheVariants as word
use Rattle.rg_rules.specs.Regions.{relabelled}
use Rattle.rg_cells.specs.declared.cell.Body.{Body}
use Rattle.rg_cells.specs.Table.{Heap, body_at, with_field, Serials, IsHeld}
use Rattle.rg_regions.specs.Table.{RegionTable, IsKey}
use Rattle.rg_frames.specs.declared.rows.Window.{Window as WindowRow}
use Rattle.rg_frames.specs.Stack.{Stack}
use Rattle.rg_stack.specs.Machine.{Frame, Window, Machine, value_of_word}
use Rattle.rg_stack.specs.Effects.{put_in}
use Rattle.rg_heap.specs.Parts.{Parts}
use Rattle.rg_heap.specs.Answers.{val_of, AllLead}
use Rattle.rg_heap.specs.Changes.{Makes, LeadsNowhere, OpensOne}
use Rattle.rg_heap.specs.Ends.{Released}
use Rattle.rg_view.specs.View.{store_of, frames_of, windows_of, managers_of, number_of, machine_of}
use Rattle.rg_view.specs.Names.{Names, AreTemps}
use Rattle.rg_view.specs.Numbers.{Numbers}
use Rattle.rg_view.proofs.Callers.Shown.{frames-same}
use Rattle.rg_view.proofs.Callers.New.{made-same, made-plain}
use Rattle.rg_view.proofs.Callers.Write.{written-same, written-store}
use Rattle.rg_view.proofs.Callers.Gone.Released.{kept-same, released-store}
use Rattle.rg_view.proofs.Callers.Label.{Labels, labels-same, labels-store}
use Rattle.rg_view.proofs.Callers.Manager.{SameNumbers, same-managers, opens-managers}
use Rattle.rg_view.proofs.Callers.Table.{kept-windows, same-windows, opens-windows}
use Rattle.rg_held.specs.Frees.{bury}

-- words in slots lead to held cells
abbrev pub SlotsLead : Heap → Stack → Type 0
SlotsLead h v = (k s : ℕ) → slice_get v.slots k ≡ Some (word.Slot s) → IsHeld h s

-- windows are on regions of the table
abbrev pub WindowsKnown : RegionTable → Stack → Type 0
WindowsKnown t v = (i : ℕ) (w : WindowRow) → slice_get v.windows i ≡ Some w → IsKey t w.region

-- and these keep their numbers
abbrev pub WindowsKept : (old new : RegionTable) → Stack → Type 0
WindowsKept old new v = (i : ℕ) (w : WindowRow) → slice_get v.windows i ≡ Some w → number_of new w.region ≡ number_of old w.region

module _ (v : Stack) (at : ℕ) where
  abbrev machine : List Seen → List Frame → List Window → List Manager → Machine
  machine store frames windows managers =
      record { store = store; frames = frames; windows = windows; managers = managers; windows_made = v.next; at = at }

  -- machines of the same parts
  same-machine : (s s₂ : List Seen) (f f₂ : List Frame) (w w₂ : List Window) (m m₂ : List Manager) → s ≡ s₂ → f ≡ f₂ → w ≡ w₂ → m ≡ m₂
      → machine s f w m ≡ machine s₂ f₂ w₂ m₂
  same-machine s s₂ f f₂ w w₂ m m₂ a b c d =
      ap (λ x. machine x f w m) a ∙ ap (λ x. machine s₂ x w m) b ∙ ap (λ x. machine s₂ f₂ x m) c ∙ ap (machine s₂ f₂ w₂) d

  -- a cell is made
  pub made-machine : (old new : Parts) (slot class : ℕ) (label : Label) (fields : List Word)
      → Makes old.cells new.cells slot class label fields → SameNumbers old.regions new.regions → LeadsNowhere fields
      → Serials old.cells.heap → Numbers old.regions → ((s : ℕ) → AllLead old.cells.heap s) → SlotsLead old.cells.heap v → WindowsKnown old.regions v
      → machine_of new v at ≡ record (machine_of old v at) {
        store = store_of old.cells.heap ++ record { class = class; fields = map value_of_word fields; label = label } ∷ [];
      }
  made-machine old new slot class label fields m s plain q n lead slots known =
      same-machine _ _ _ _ _ _ _ _
      (made-plain old.cells new.cells slot class label fields m q lead plain)
      (frames-same old.cells.heap new.cells.heap v (λ k x e. made-same old.cells new.cells slot class label fields m x (slots k x e)))
      (same-windows old.regions new.regions v s known)
      (same-managers old.regions new.regions s n)

  -- a cell is made in a region of its own
  pub opened-machine : (old new : Parts) (slot class : ℕ) (label : Label) (fields : List Word) (manager : Manager)
      → Makes old.cells new.cells slot class label fields → OpensOne old.regions new.regions slot manager → LeadsNowhere fields
      → Serials old.cells.heap → Numbers old.regions → ((s : ℕ) → AllLead old.cells.heap s) → SlotsLead old.cells.heap v → WindowsKnown old.regions v
      → machine_of new v at ≡ record (machine_of old v at) {
        store = store_of old.cells.heap ++ record { class = class; fields = map value_of_word fields; label = label } ∷ [];
        managers = managers_of old.regions ++ manager ∷ [];
      }
  opened-machine old new slot class label fields manager m o plain q n lead slots known =
      same-machine _ _ _ _ _ _ _ _
      (made-plain old.cells new.cells slot class label fields m q lead plain)
      (frames-same old.cells.heap new.cells.heap v (λ k x e. made-same old.cells new.cells slot class label fields m x (slots k x e)))
      (opens-windows old.regions new.regions v o.0 slot manager o.1 known)
      (opens-managers old.regions new.regions o.0 slot manager o.1 n)

  -- a field is written
  pub written-machine : (old new : Parts) (slot k : ℕ) (w : Word) (b : Body) → body_at old.cells.heap slot ≡ Some b
      → new.cells.heap ≡ with_field old.cells.heap slot k w → new.regions ≡ old.regions → Serials old.cells.heap
      → machine_of new v at ≡ record (machine_of old v at) {
        store = put_in (store_of old.cells.heap) (val_of old.cells.heap (word.Slot slot)) k (val_of old.cells.heap w);
      }
  written-machine old new slot k w b e h r q =
      same-machine _ _ _ _ _ _ _ _
      (ap store_of h ∙ written-store old.cells.heap slot k w b e q)
      (ap (λ g. frames_of g v) h
      ∙ frames-same old.cells.heap (with_field old.cells.heap slot k w) v (λ i s f. written-same old.cells.heap slot k w b e s))
      (ap (λ t. windows_of t v) r)
      (ap managers_of r)

  -- regions and temporaries go
  pub released-machine : (old new : Parts) (Gone Cell : ℕ → Type 0) (regions : List ℕ) (temps : Option ℕ) (r : Released old new Gone Cell)
      (names : Names regions Gone) (cells : AreTemps old.cells.heap temps Cell) → Serials old.cells.heap → ((s : ℕ) → AllLead new.cells.heap s)
      → SlotsLead new.cells.heap v → WindowsKept old.regions new.regions v
      → machine_of new v at ≡ record (machine_of old v at) {
        store = bury regions temps (store_of old.cells.heap);
        managers = managers_of new.regions;
      }
  released-machine old new Gone Cell regions temps r names cells q lead slots kept =
      same-machine _ _ _ _ _ _ _ _
      (released-store old new Gone Cell regions temps r names cells q lead)
      (frames-same old.cells.heap new.cells.heap v (λ k x e. kept-same old new Gone Cell regions temps r names cells x (slots k x e)))
      (kept-windows old.regions new.regions v kept)
      refl

  -- cells get a label, as at a freeze and a merge
  pub labelled-machine : (old new : Parts) (regions : List ℕ) (label : Label) → Labels old.cells.heap new.cells.heap regions label
      → Serials old.cells.heap → WindowsKept old.regions new.regions v
      → machine_of new v at ≡ record (machine_of old v at) {
        store = relabelled regions label (store_of old.cells.heap);
        managers = managers_of new.regions;
      }
  labelled-machine old new regions label l q kept =
      same-machine _ _ _ _ _ _ _ _
      (labels-store old.cells.heap new.cells.heap regions label l q)
      (frames-same old.cells.heap new.cells.heap v (λ k x e. labels-same old.cells.heap new.cells.heap regions label l x))
      (kept-windows old.regions new.regions v kept)
      refl
