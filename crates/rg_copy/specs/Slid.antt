-- What a collection leaves that moves the cells which it keeps (docs/architecture.md, "A manager that moves its cells").
use Rattle.std.specs.Prelude.{◌≡◌, ◌≢◌, ℕ, ◌-◌, ◌<◌, List, Some, None, length, take, drop, slice_get}
use Rattle.rg_base.specs.declared.value.Word.{Word}
use Rattle.rg_base.specs.declared.value.Word.TheVariants.{Slot}
use Rattle.rg_cells.specs.declared.cell.Body.{Body}
use Rattle.rg_cells.specs.Table.{Heap, Table, body_at, field_at, mark_at, link_at, high_of}
use Rattle.rg_frames.specs.Stack.{Stack, mark}
use Rattle.rg_regions.specs.Table.{Record, RegionTable, record_at, Has}
use Rattle.rg_regions.specs.Reach.{LiesIn, Roots, Reach}
use Rattle.rg_regions.specs.Grove.{Members}
use Rattle.rg_regions.specs.Collection.{roots_of}

-- where the slots of the top window begin, those slots, and the top window's temporaries
abbrev pub base_of : Stack → ℕ
base_of v = elim (slice_get v.windows (length v.windows - 1)) [ None ↦ 0 | Some w ↦ w.base ]

abbrev pub top_slots : Stack → List Word
top_slots v = drop (base_of v) v.slots

abbrev pub top_temps : Stack → List ℕ
top_temps v = drop (mark v) v.temps

-- the roots of the top window's region
abbrev pub top_roots : Record → Stack → Roots
top_roots rec v = roots_of rec.bridge (top_slots v) (top_temps v)

-- What becomes of a word. Where it leads to a cell in reach, it leads to the place where that cell stands now; any other
-- word stays.
pub record Becomes (h : Heap) (region : ℕ) (roots : Roots) (place : ℕ → ℕ) (old new : Word) : Type 0 where
  pub moved : (x : ℕ) → old ≡ Slot x → Reach h region roots x → new ≡ Slot (place x)
  pub stays : ((x : ℕ) → old ≡ Slot x → Reach h region roots x → ⊥) → new ≡ old

-- so it is for each word of a list
pub record AllBecome (h : Heap) (region : ℕ) (roots : Roots) (place : ℕ → ℕ) (olds news : List Word) : Type 0 where
  pub as_many : length news ≡ length olds
  pub each : (k : ℕ) (old new : Word) → slice_get olds k ≡ Some old → slice_get news k ≡ Some new
      → Becomes h region roots place old new

-- a cell keeps its class, label and serial, and so it is for its fields
pub record CellBecomes (h : Heap) (region : ℕ) (roots : Roots) (place : ℕ → ℕ) (old new : Body) : Type 0 where
  pub class : new.class ≡ old.class
  pub label : new.label ≡ old.label
  pub serial : new.serial ≡ old.serial
  pub fields : AllBecome h region roots place old.fields new.fields

-- Of the region what is in reach is kept, in the lowest of the region's slots, and all else of it is freed. What led
-- to a cell that is kept leads to where that one stands, in fields of the region, in the top window's slots and in
-- fields of its temporaries. All other words, cells, labels and records stay, and the region's members are its cells.
pub record Slid (c : Table) (t : RegionTable) (key : ℕ) (rec : Record) (v : Stack) (cells : Table)
    (regions : RegionTable) (frames : Stack) : Type 0
  where
    -- where the cell with the serial stands that a cell in reach has
    pub place : ℕ → ℕ
    pub stands : (x : ℕ) (b : Body) → Reach c.heap rec.number (top_roots rec v) x → body_at c.heap x ≡ Some b
        → (d : Body) × (body_at cells.heap (place x) ≡ Some d)
        × CellBecomes c.heap rec.number (top_roots rec v) place b d
    -- what is in reach leads within the region to what is in reach
    pub closed : (x k to : ℕ) → Reach c.heap rec.number (top_roots rec v) x → field_at c.heap x k ≡ Some (Slot to)
        → LiesIn c.heap rec.number to → Reach c.heap rec.number (top_roots rec v) to
    -- no other cell lies in the region
    pub only : (s : ℕ) → LiesIn cells.heap rec.number s
        → (x : ℕ) × Reach c.heap rec.number (top_roots rec v) x × (place x ≡ s)
    -- the bridge keeps its slot, and the others stand in the lowest slots of the region that the bridge hasn't
    pub bridge : (s : ℕ) → rec.bridge ≡ Some s → place s ≡ s
    pub within : (x : ℕ) → Reach c.heap rec.number (top_roots rec v) x → LiesIn c.heap rec.number (place x)
    pub lowest : (x s : ℕ) → Reach c.heap rec.number (top_roots rec v) x → rec.bridge ≢ Some x
        → LiesIn c.heap rec.number s → rec.bridge ≢ Some s → s < place x → LiesIn cells.heap rec.number s
    -- a slot of the region where no cell of it stands is free, and no slot of it has a mark
    pub gone : (s : ℕ) → LiesIn c.heap rec.number s → (LiesIn cells.heap rec.number s → ⊥)
        → body_at cells.heap s ≡ None
    pub unmarked : (s : ℕ) → LiesIn c.heap rec.number s → mark_at cells s ≡ 0
    -- temporaries of the top window, and all other cells
    pub temps : (s : ℕ) (b : Body) → Has (top_temps v) s → (LiesIn c.heap rec.number s → ⊥) → body_at c.heap s ≡ Some b
        → (d : Body) × (body_at cells.heap s ≡ Some d)
        × CellBecomes c.heap rec.number (top_roots rec v) place b d
    pub others : (s : ℕ) → (Has (top_temps v) s → ⊥) → (LiesIn c.heap rec.number s → ⊥)
        → body_at cells.heap s ≡ body_at c.heap s
    pub marks : (s : ℕ) → (LiesIn c.heap rec.number s → ⊥)
        → (mark_at cells s ≡ mark_at c s) × (link_at cells s ≡ link_at c s)
    -- the top window's slots, and all else of the frames
    pub slots : AllBecome c.heap rec.number (top_roots rec v) place (top_slots v) (drop (base_of v) frames.slots)
    pub beneath : take (base_of v) frames.slots ≡ take (base_of v) v.slots
    pub stack : frames ≡ record v { slots = frames.slots }
    -- the next serial, the slots ever held, and the next number stay
    pub serials : cells.heap.next ≡ c.heap.next
    pub high : high_of cells.heap ≡ high_of c.heap
    pub numbers : regions.next ≡ t.next
    pub records : (k : ℕ) → k ≢ key → record_at regions k ≡ record_at t k
    pub own : (now : Record) × (record_at regions key ≡ Some now) × (now.number ≡ rec.number)
        × (now.manager ≡ rec.manager) × (now.bridge ≡ rec.bridge) × Members cells.heap rec.number now.members
