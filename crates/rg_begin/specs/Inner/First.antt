-- The behaviour's object alone, and the method's frame (docs/architecture.md, "How a behaviour begins").
use Rattle.std.specs.Prelude.{◌≡◌, ℕ, ◌-◌, List, [], ◌∷◌, map, replicate, Some, slice_get}
use Rattle.rg_base.specs.declared.value.Word.{Word}
use Rattle.rg_base.specs.declared.value.Word.TheVariants.{Nil, Slot}
use Rattle.rg_code.specs.Code.{Code}
use Rattle.rg_frames.specs.Stack.{Stack, IsEmpty}
use Rattle.rg_frames.specs.Changes.{begun, roomed, pushed_of}
use Rattle.rg_heap.specs.Changes.{LeadsNowhere}
use Rattle.rg_heap.specs.Parts.{Parts}
use Rattle.rg_opening.specs.declared.given.Given.{Given}
use Rattle.rg_stack.specs.Machine.{value_of_word}
use Rattle.rg_begin.specs.Inner.Laid.{start_value, Laid}

-- nothing was made yet
pub record NothingMade (p : Parts) (v : Stack) : Type 0 where
  pub slots : p.cells.heap.slots ≡ []
  pub serials : p.cells.heap.next ≡ 0
  pub records : p.regions.records ≡ []
  pub numbers : p.regions.next ≡ 0
  pub frames : IsEmpty v

-- the words with which the fields of a class start are the values with which they begin
pub record Opens (code : Code) (class : ℕ) (given : List Given) : Type 0 where
  pub words : List Word
  pub there : slice_get code.openings class ≡ Some words
  pub plain : LeadsNowhere words
  pub values : map value_of_word words ≡ map start_value given

-- main's frame and window 0 over the region of a key
abbrev pub main_frame : (key slots frame_room slot_room : ℕ) → Stack
main_frame key n a b = roomed (begun key n) a b

-- the object stands at a slot, and main's frame is there
pub record FirstMade (p : Parts) (v : Stack) (main_slots slot class : ℕ) (given : List Given) : Type 0 where
  pub laid : Laid p v slot class given 0
  pub key : ℕ
  pub frames : v ≡ main_frame key main_slots v.frame_room v.slot_room

-- the frame of the method, whose first slot leads to a slot of the heap, on others; it goes back to address 0
abbrev pub with_method : Stack → (slots slot : ℕ) → (frame_room slot_room : ℕ) → Stack
with_method v n slot a b = roomed (pushed_of v 0 (Slot slot ∷ replicate (n - 1) Nil)) a b
