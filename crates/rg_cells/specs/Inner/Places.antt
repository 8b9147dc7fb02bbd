-- What places show, and what holds of them: the list of the free ones, and the fields that stand beside (docs/architecture.md, "Cells").
use Rattle.std.specs.Prelude.{◌≡◌, ◌≢◌, ℕ, ◌+◌, ◌<◌, ◌⊎◌, if◌then◌else◌, List, [], ◌∷◌, length, map, Option, Some, None, true, false, option_map, option_and_then}
use Rattle.std.specs.Prelude.{slice_get, slice_set}
use Rattle.rg_base.specs.declared.value.Word.{Word}
use Rattle.rg_cells.specs.declared.cell.Body.{Body}
use Rattle.rg_cells.specs.declared.cell.Cell.{Cell}
use Rattle.rg_cells.specs.declared.cell.Beside.{Beside}
use Rattle.rg_cells.specs.declared.cell.Kind.{Kind}
use Rattle.rg_cells.specs.declared.cell.State.{State}
use Rattle.rg_base.specs.declared.object.Label.{Label}
use Rattle.rg_cells.specs.Table.{Table}
use Rattle.rg_cells.specs.Inner.Layout.{few_of, is_free, is_linked, index_in, kind_in, word_of, label_in}

-- which list beside the cells has the fields of a held cell, where they don't stand in the cell itself
abbrev pub index_of : Cell → Option ℕ
index_of c = if is_free c.state then None else index_in c.kinds c.words

-- the fields in the list of that number beside the cells
abbrev pub list_at : List Beside → ℕ → List Word
list_at bs j = elim (slice_get bs j) [ None ↦ [] | Some b ↦ b.fields ]

-- the fields of a cell
abbrev pub fields_of : List Beside → Cell → List Word
fields_of bs c = elim (index_in c.kinds c.words) [ None ↦ few_of c.kinds c.words | Some j ↦ list_at bs j ]

-- what a cell shows
abbrev pub body_of : List Beside → Cell → Body
body_of bs c = record { class = c.class; label = label_in c.state c.number; serial = c.serial; fields = fields_of bs c }

-- what a place shows
abbrev pub shown : List Beside → Cell → Option (Option Body)
shown bs c = Some (if is_free c.state then None else Some (body_of bs c))

abbrev pub mark_of : Cell → ℕ
mark_of c = c.mark

abbrev pub link_of : Cell → Option ℕ
link_of c = if is_linked c.state then Some c.link else None

-- the table that places show
abbrev pub table_of : List Cell → List Beside → ℕ → Table
table_of cells bs next = record {
  heap = record { slots = map (shown bs) cells; next = next };
  marks = map mark_of cells;
  links = map link_of cells;
}

-- which place a free one names
abbrev pub next_of : Cell → Option ℕ
next_of c = if is_free c.state then Some c.number else None

-- what the place of a slot says, if anything
abbrev pub told : (Cell → Option ℕ) → List Cell → ℕ → Option ℕ
told f cells slot = option_and_then f (slice_get cells slot)

-- to which slot a list beside the cells belongs
abbrev pub owner_at : List Beside → ℕ → Option ℕ
owner_at bs j = option_map (λ (b : Beside). b.owner) (slice_get bs j)

-- a number isn't in a list
abbrev pub Lacks : List ℕ → ℕ → Type 0
Lacks [] x = Unit {0}
Lacks (y ∷ ys) x = (y ≢ x) × Lacks ys x

-- these places are free; the first is the one named, each other one is named by the one before it, and none comes twice
abbrev pub Leads : List Cell → ℕ → List ℕ → Type 0
Leads cells first [] = Unit {0}
Leads cells first (x ∷ xs) = (first ≡ x) × Lacks xs x × ((n : ℕ) × (told next_of cells x ≡ Some n) × Leads cells n xs)

-- one for a free place
abbrev pub free_one : Cell → ℕ
free_one c = if is_free c.state then 1 else 0

-- how many places are free
abbrev pub frees : List Cell → ℕ
frees [] = 0
frees (c ∷ cs) = free_one c + frees cs

-- the free places are linked from the one that is taken next, and counted
pub record FreeList (cells : List Cell) (free vacant : ℕ) : Type 0 where
  pub list : List ℕ
  pub leads : Leads cells free list
  pub many : length list ≡ vacant
  pub all : frees cells ≡ vacant

-- each list beside the cells belongs to one cell that has its fields there, and names its slot
pub record Owned (cells : List Cell) (bs : List Beside) : Type 0 where
  pub owner : (slot j : ℕ) → told index_of cells slot ≡ Some j → owner_at bs j ≡ Some slot
  pub index : (j slot : ℕ) → owner_at bs j ≡ Some slot → told index_of cells slot ≡ Some j

-- a cell was put into a free place, or into a new one where none was free; all others stay
pub record Taken (old new : List Cell) (vacant slot : ℕ) (c : Cell) : Type 0 where
  pub at : slice_get new slot ≡ Some c
  pub others : (i : ℕ) → i ≢ slot → slice_get new i ≡ slice_get old i
  pub place : ((vacant ≡ 0) × (slice_get old slot ≡ None) × (length new ≡ length old + 1))
      ⊎ ((0 < vacant) × ((n : ℕ) × (told next_of old slot ≡ Some n)) × (length new ≡ length old))

-- a field in the cell itself is written, and nothing else
abbrev pub Puts : (old new : Cell) → ℕ → Word → Type 0
Puts old new k w = (n : ℕ) × (word_of (kind_in w) n ≡ w)
    × (new ≡ record old { kinds = slice_set old.kinds k (kind_in w); words = slice_set old.words k n })

-- the link is written, and nothing else
abbrev pub Links : (old new : Cell) → Option ℕ → Type 0
Links old new next = (s : State) × (n : ℕ) × (new ≡ record old { state = s; link = n }) × (is_free s ≡ is_free old.state)
    × (label_in s ≡ label_in old.state) × (link_of new ≡ next)

-- the label is written, and nothing else; a cell that was free isn't any more
abbrev pub Labels : (old new : Cell) → Label → Type 0
Labels old new l = (s : State) × (n : ℕ) × (new ≡ record old { state = s; number = n }) × (is_free s ≡ false) × (label_in s n ≡ l)
    × (is_linked s ≡ is_linked old.state)

-- a cell as it is made
pub record IsNew (c : Cell) (cl : ℕ) (l : Label) (sr : ℕ) (ks : List Kind) (ns : List ℕ) : Type 0 where
  pub class : c.class ≡ cl
  pub label : label_in c.state c.number ≡ l
  pub held : is_free c.state ≡ false
  pub serial : c.serial ≡ sr
  pub kinds : c.kinds ≡ ks
  pub words : c.words ≡ ns
  pub mark : c.mark ≡ 0
  pub link : link_of c ≡ None

-- a place that is free, and names another
pub record Clears (c : Cell) (next : ℕ) : Type 0 where
  pub free : is_free c.state ≡ true
  pub names : c.number ≡ next
  pub mark : c.mark ≡ 0
  pub link : link_of c ≡ None

-- the list of that number belongs to a slot
abbrev pub owned : List Beside → Option ℕ → ℕ → List Beside
owned bs None slot = bs
owned bs (Some j) slot = elim (slice_get bs j) [ None ↦ bs | Some b ↦ slice_set bs j (record b { owner = slot }) ]

-- the same, but that the list of one number belongs to no cell any more
pub record OwnedBut (cells : List Cell) (bs : List Beside) (at : ℕ) : Type 0 where
  pub owner : (slot j : ℕ) → told index_of cells slot ≡ Some j → (owner_at bs j ≡ Some slot) × (j ≢ at)
  pub index : (j slot : ℕ) → j ≢ at → owner_at bs j ≡ Some slot → told index_of cells slot ≡ Some j

-- a held cell has that serial
abbrev pub ServesSerial : List Cell → (slot serial : ℕ) → Type 0
ServesSerial cells slot serial = (c : Cell) × (slice_get cells slot ≡ Some c) × (is_free c.state ≡ false) × (c.serial ≡ serial)

-- no held cell has it
abbrev pub ServesNone : List Cell → (serial : ℕ) → Type 0
ServesNone cells serial = (slot : ℕ) (c : Cell) → slice_get cells slot ≡ Some c → is_free c.state ≡ false → c.serial ≢ serial
