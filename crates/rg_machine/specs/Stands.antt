-- What always holds of the machine between two instructions (docs/architecture.md, "The machine").
use Rattle.std.specs.Prelude.{◌≡◌, ◌<◌, ℕ, List, Some, length, slice_get}
use Rattle.rg_base.specs.declared.object.Label.TheVariants.{Temp}
use Rattle.rg_base.specs.declared.value.Word.{Word}
use Rattle.rg_base.specs.declared.value.Word.TheVariants.{Slot}
use Rattle.rg_cells.specs.Table.{field_at, label_at, IsHeld}
use Rattle.rg_regions.specs.Table.{RegionTable, HasNumber, IsBridge}
use Rattle.rg_regions.specs.Reach.{LiesIn}
use Rattle.rg_frames.specs.declared.rows.Window.{Window}
use Rattle.rg_frames.specs.Stack.{Stack}
use Rattle.rg_heap.specs.Parts.{Parts}
use Rattle.rg_heap.specs.Answers.{IsClosed}
use Rattle.rg_heap.specs.Opened.{Opened, IsWindow, IsTempOf}
use Rattle.rg_view.specs.Lain.{Lain}
use Rattle.rg_view.specs.Numbers.{HasBridges, Numbers}

-- a word leads where one on the stack may: to a held cell, and into a closed region to its bridge
pub record Leads (p : Parts) (v : Stack) (w : Word) : Type 0 where
  pub held : (s : ℕ) → w ≡ Slot s → IsHeld p.cells.heap s
  pub bridge : (s r : ℕ) → w ≡ Slot s → LiesIn p.cells.heap r s → IsClosed p.regions v r → IsBridge p.regions r s

-- so do all on the stack
abbrev pub AllLead : Parts → Stack → List Word → Type 0
AllLead p v words = (k : ℕ) (w : Word) → slice_get words k ≡ Some w → Leads p v w

-- no window on a region begins at or in front of a place among all slots
abbrev pub BeginsBehind : RegionTable → Stack → (place region : ℕ) → Type 0
BeginsBehind t v j r = (i : ℕ) (w : Window) → IsWindow v i w → HasNumber t w.region r → j < w.base

-- none was opened by the time of the window at a place, counted from window 0
abbrev pub OpensLater : RegionTable → Stack → (place region : ℕ) → Type 0
OpensLater t v j r = (i : ℕ) (w : Window) → IsWindow v i w → HasNumber t w.region r → j < i

pub record Stands (p : Parts) (v : Stack) : Type 0 where
  pub opened : Opened p v
  -- frames lie over their slots, and there is one
  pub lain : Lain v
  pub some : 0 < length v.frames
  -- regions have their own numbers, and all but region 0 a bridge, which it has not
  pub numbers : Numbers p.regions
  pub bridges : HasBridges p.regions
  -- windows have their own numbers, and each temporary is one of a window
  pub window_numbers : (i j : ℕ) (w u : Window) → IsWindow v i w → IsWindow v j u → w.number ≡ u.number → i ≡ j
  pub windows_next : (i : ℕ) (w : Window) → IsWindow v i w → w.number < v.next
  pub temps : (s n : ℕ) → label_at p.cells.heap s ≡ Some (Temp n) → (i : ℕ) × (w : Window) × IsWindow v i w × (w.number ≡ n)
  -- a region is led into by its bridge from slots in front of its window, and from temporaries of windows that were opened before it
  pub slots : (j s r : ℕ) → slice_get v.slots j ≡ Some (Slot s) → LiesIn p.cells.heap r s → BeginsBehind p.regions v j r → IsBridge p.regions r s
  pub fields : (i s k to r : ℕ) (w : Window) → IsWindow v i w → IsTempOf v i s → field_at p.cells.heap s k ≡ Some (Slot to)
      → LiesIn p.cells.heap r to → OpensLater p.regions v i r → IsBridge p.regions r to
  -- window 0's temporaries begin at the first one
  pub first_mark : (n : ℕ) → slice_get v.marks 0 ≡ Some n → n ≡ 0
