-- What always holds of a run of an accepted program, and where a run stands on a machine (docs/language.md, "What always holds").
use Rattle.std.specs.Prelude.{◌≡◌, ℕ, ◌+◌, ◌<◌, ◌≤◌, Bool, true, false, List, length, Some, slice_get}
use Rattle.rg_base.specs.declared.object.Seen.{Seen}
use Rattle.rg_base.specs.declared.value.Val.TheVariants.{Obj}
use Rattle.rg_tree.specs.Tree.{Class, Tree}
use Rattle.rg_tree.specs.Rows.Tables.{Tables}
use Rattle.rg_tree.specs.Rows.RowTrees.{classes_of, program_of}
use Rattle.rg_rules.specs.State.{Local, Frame, State, frame_at}
use Rattle.rg_rules.specs.Outside.Inputs.{first_asks}
use Rattle.rg_rules.specs.Runs.{plain}
use Rattle.rg_sound.specs.Fit.{Fit}
use Rattle.rg_sound.specs.Held.{IsHeld, NoneStale, LiveFit}
use Rattle.rg_sound.specs.Writes.{Allowed}
use Rattle.rg_held.specs.Gone.{gone}
use Rattle.rg_machine.specs.Parts.{machine_in}
use Rattle.rg_run.specs.Collected.{Tells}
use Rattle.rg_run.specs.Machine.{Kept, Shows, object_at}

-- What holds of each state of the first n steps of a program on an input, the opening one and the last one too, and of each
-- of these steps.
pub record IsSound (t : Tree) (input : List ℕ) (n : ℕ) : Type 0 where
  -- the state fits the program
  pub fits : (k : ℕ) → k ≤ n → Fit t (plain t input k).state
  -- no held reference is stale: variables and the fields of held objects lead to held objects
  pub none_stale : (k : ℕ) → k ≤ n → NoneStale t.classes (plain t input k).state
  -- the regions are a forest: each live one but the first, so each closed one, has exactly one owning reference
  pub forest : (k : ℕ) → k ≤ n → LiveFit t.classes (plain t input k).state
  -- beside variables, the step wrote only into objects of the active region and temporaries of the topmost window; one that ended a window with
  -- `giving`, into the object at the place of that window's owner alone
  pub writes : (k : ℕ) → k < n → Allowed (plain t input k).state (plain t input (k + 1)).state

-- The objects that a machine holds beside a state. Each is the state's object of its serial, and is held there too, so what no window and no
-- owner reference leads to any more is freed; and no reference that the machine holds is stale.
pub record HoldsOf (classes : List Class) (m : Kept) (s : State) : Type 0 where
  -- the serials of the objects that the machine holds
  pub holds : ℕ → Bool
  -- as many objects were made
  pub made : length (machine_in m.stepper.parts).store ≡ length s.store
  -- such an object is held in the state, and has there the class, the fields and the label that it has here
  pub held : (serial : ℕ) → holds serial ≡ true → IsHeld classes s serial
  pub same : (serial : ℕ) (o : Seen) → holds serial ≡ true → slice_get s.store serial ≡ Some o → object_at m serial ≡ Some o
  -- any other is gone
  pub others : (serial : ℕ) (o : Seen) → holds serial ≡ false → object_at m serial ≡ Some o → o ≡ gone
  -- variables, and fields of objects that the machine holds, lead to objects that it holds
  pub locals : (n i : ℕ) (f : Frame) (l : Local) (a : ℕ) → frame_at s.frames n ≡ Some f → slice_get f.locals i ≡ Some l → l.value ≡ Obj a →
      holds a ≡ true
  pub fields : (a k : ℕ) (o : Seen) (b : ℕ) → holds a ≡ true → object_at m a ≡ Some o → slice_get o.fields k ≡ Some (Obj b) → holds b ≡ true

-- A run of a program on an input stands behind n steps: the machine shows the state there, and holds what it needs of its
-- objects; it has counted the steps; and the run is sound.
pub record Stands (t : Tables) (input : List ℕ) (n : ℕ) (m : Kept) : Type 0 where
  pub shows : Shows t m (plain (program_of t) input n).state
  pub held : HoldsOf (classes_of t) m (plain (program_of t) input n).state
  pub steps : m.steps ≡ (plain (program_of t) input n).steps
  -- the collections that it tells are those of its steps
  pub told : Tells (program_of t) input m.steps m.stepper.events
  pub sound : IsSound (program_of t) input n

-- none of the first n steps of a program on an input asks for the input
abbrev pub NeverAsks : Tree → (input : List ℕ) → (n : ℕ) → Type 0
NeverAsks t input n = (k : ℕ) → k < n → first_asks (plain t input k).state.items ≡ false
