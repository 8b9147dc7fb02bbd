-- What the machine holds, and the stack machine that it shows (docs/architecture.md, "The machine").
use Rattle.std.specs.Prelude.{◌≡◌, ℕ, List, [], ◌∷◌, ◌++◌, Option, None, replicate}
use Rattle.rg_base.specs.declared.value.Val.{Val}
use Rattle.rg_base.specs.declared.value.Val.TheVariants.{Nil}
use Rattle.rg_base.specs.declared.value.Word.{Word}
use Rattle.rg_base.specs.declared.words.Manager.{Manager}
use Rattle.rg_frames.specs.Stack.{Stack}
use Rattle.rg_heap.specs.Parts.{Parts as HeapParts}
use Rattle.rg_heap.specs.Answers.{val_of}
use Rattle.rg_stack.specs.Machine.{Machine}
use Rattle.rg_view.specs.View.{machine_of}

-- cells and regions; frames, windows and temporaries; the words on the stack, the topmost last; the address of the next step's mark; and what
-- the step has printed
pub record Parts : Type 0 where
  pub heap : HeapParts
  pub frames : Stack
  pub words : List Word
  pub at : ℕ
  pub printed : Option Val

-- the stack machine that it shows
abbrev pub machine_in : Parts → Machine
machine_in p = machine_of p.heap p.frames p.at

-- the value that a word shows
abbrev pub val_in : Parts → Word → Val
val_in p w = val_of p.heap.cells.heap w

-- a word more on the stack
abbrev pub with_word : Parts → Word → Parts
with_word p w = record p { words = p.words ++ w ∷ [] }

-- nothing but the stack of words, what was printed and the room differ
pub record SameStore (old new : Parts) : Type 0 where
  pub heap : new.heap ≡ old.heap
  pub frames : new.frames ≡ old.frames
  pub at : new.at ≡ old.at

-- the stack machine with which a program opens
abbrev pub opening : (main_slots : ℕ) → Manager → Machine
opening n manager = record {
  store = [];
  frames = record { slots = replicate n Nil; back = 0 } ∷ [];
  windows = record { number = 0; region = 0; owner = None; base = 0 } ∷ [];
  managers = manager ∷ [];
  windows_made = 1;
  at = 0;
}
