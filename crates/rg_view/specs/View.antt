-- The machine that a heap with its frames shows (docs/architecture.md, "The machine that frees"): an object is named by its serial, and a
-- region by its number.
use Rattle.std.specs.Prelude.{ℕ, ◌==◌, Bool as Truth, false, if◌then◌else◌, List, [], ◌∷◌, map, reverse, Option, Some, None}
use Rattle.std.specs.List.{range_with_len}
use Rattle.rg_base.specs.declared.object.Seen.{Seen}
use Rattle.rg_base.specs.declared.words.Manager.{Manager}
use Rattle.rg_base.specs.declared.words.Manager.TheVariants.{Arena}
use Rattle.rg_base.specs.declared.value.Val.{Val}
use Rattle.rg_base.specs.declared.value.Word.{Word}
use Rattle.rg_cells.specs.declared.cell.Body.{Body}
use Rattle.rg_cells.specs.Table.{Heap, body_in}
use Rattle.rg_regions.specs.Table.{Record, RegionTable, record_at}
use Rattle.rg_frames.specs.declared.rows.Window.{Window as WindowRow}
use Rattle.rg_frames.specs.Stack.{Stack}
use Rattle.rg_frames.specs.Layers.{Layer, layers}
use Rattle.rg_stack.specs.Machine.{Frame, Window, Machine}
use Rattle.rg_heap.specs.Parts.{Parts}
use Rattle.rg_heap.specs.Answers.{val_of}
use Rattle.rg_held.specs.Gone.{gone}

-- whether a body has a serial
abbrev pub has_serial : (serial : ℕ) → Option Body → Truth
has_serial a None = false
has_serial a (Some b) = b.serial == a

-- the held body with a serial, if there is one
abbrev pub body_with : (serial : ℕ) → List (Option (Option Body)) → Option Body
body_with a [] = None
body_with a (x ∷ xs) = if has_serial a (body_in x) then body_in x else body_with a xs

-- what a body shows
abbrev pub object_of : Heap → Option Body → Seen
object_of h None = gone
object_of h (Some b) = record { class = b.class; fields = map (val_of h) b.fields; label = b.label }

-- the object with a serial
abbrev pub seen_of : Heap → (serial : ℕ) → Seen
seen_of h a = object_of h (body_with a h.slots)

-- the objects that were ever made
abbrev pub store_of : Heap → List Seen
store_of h = map (seen_of h) (range_with_len 0 h.next)

-- a frame
abbrev pub frame_of : Heap → Layer → Frame
frame_of h l = record { slots = map (val_of h) l.slots; back = l.back }

-- the frames
abbrev pub frames_of : Heap → Stack → List Frame
frames_of h v = map (frame_of h) (layers v)

-- the number of a region, 0 where there is none
abbrev pub number_in : Option Record → ℕ
number_in None = 0
number_in (Some r) = r.number

abbrev pub number_of : RegionTable → (key : ℕ) → ℕ
number_of t key = number_in (record_at t key)

-- a window
abbrev pub window_of : RegionTable → WindowRow → Window
window_of t w = record { number = w.number; region = number_of t w.region; owner = w.owner; base = w.base }

-- the windows
abbrev pub windows_of : RegionTable → Stack → List Window
windows_of t v = map (window_of t) (reverse v.windows)

-- the manager of the region with a number; that of one that is gone doesn't matter
abbrev pub manager_with : (number : ℕ) → List (Option Record) → Manager
manager_with n [] = Arena
manager_with n (None ∷ rs) = manager_with n rs
manager_with n (Some r ∷ rs) = if r.number == n then r.manager else manager_with n rs

-- the managers of the regions that were ever made
abbrev pub managers_of : RegionTable → List Manager
managers_of t = map (λ n. manager_with n t.records) (range_with_len 0 t.next)

-- the machine at an address
abbrev pub machine_of : Parts → Stack → (at : ℕ) → Machine
machine_of p v at = record {
  store = store_of p.cells.heap;
  frames = frames_of p.cells.heap v;
  windows = windows_of p.regions v;
  managers = managers_of p.regions;
  windows_made = v.next;
  at = at;
}

-- a stack of words, the topmost first
abbrev pub values_of : Heap → List Word → List Val
values_of h words = map (val_of h) (reverse words)
