-- The three colours of marking: white 0, grey 1, black 2; the grey list runs through the links (docs/architecture.md,
-- "Mark and sweep").
use Rattle.std.specs.Prelude.{◌≡◌, ℕ, zero, suc, ◌<◌, ◌≤◌, cond, List, [], ◌∷◌, length, Option, Some, None}
use Rattle.std.specs.Prelude.{slice_get, slice_set}
use Rattle.std.specs.Prelude.{slice_index, slice_index_or, ◌⊎◌}
use Rattle.rg_base.specs.declared.value.Word.{Word}
use Rattle.rg_base.specs.declared.value.Word.TheVariants.{Slot}
use Rattle.rg_cells.specs.Table.{Heap, Table, field_at, mark_at, link_at}
use Rattle.rg_regions.specs.Same.{LinksStay}
use Rattle.rg_regions.specs.Reach.{LiesIn, Roots, Walk, belongs}
use Rattle.rg_trace.specs.Marking.{weighed, black_fields}
use Rattle.rg_regions.specs.Table.{Has}

-- one for a mark that is grey or black; one for a mark that isn't black
abbrev pub known : ℕ → ℕ
known zero = 0
known (suc n) = 1

abbrev pub unfinished : ℕ → ℕ
unfinished zero = 1
unfinished (suc zero) = 1
unfinished (suc (suc n)) = 0

-- how many cells of a region are grey or black, and how many aren't black
abbrev pub known_count : Heap → ℕ → List ℕ → ℕ
known_count h r marks = weighed (λ b m. cond (belongs r b) (known m) 0) h.slots marks

abbrev pub pending : Heap → ℕ → List ℕ → ℕ
pending h r marks = weighed (λ b m. cond (belongs r b) (unfinished m) 0) h.slots marks

-- the grey cells, each once, from the head through the links
abbrev pub GreyChain : Heap → ℕ → List ℕ → List (Option ℕ) → Option ℕ → List ℕ → Type 0
GreyChain h r marks links head [] = head ≡ None
GreyChain h r marks links head (s ∷ grey) =
    (head ≡ Some s) × LiesIn h r s × (slice_index marks s ≡ 1) × (Has grey s → ⊥)
    × GreyChain h r marks links (slice_index_or links s None) grey

-- each grey cell is in the list, and each grey or black cell is in reach by fewer links than cells are known
pub record TriColour (h : Heap) (r : ℕ) (roots : Roots) (marks : List ℕ) (links : List (Option ℕ)) (head : Option ℕ)
    (grey : List ℕ) : Type 0 where
  pub chain : GreyChain h r marks links head grey
  pub listed : (s : ℕ) → LiesIn h r s → slice_index marks s ≡ 1 → Has grey s
  pub walked : (s : ℕ) → LiesIn h r s → 0 < slice_index marks s
      → (n : ℕ) × (n < known_count h r marks) × Walk h r roots n s

-- there is such a list
abbrev pub Marking : Heap → ℕ → Roots → Table → Option ℕ → Type 0
Marking h r roots t head = (grey : List ℕ) × TriColour h r roots t.marks t.links head grey

-- the field of a cell leads to no white cell of the region
abbrev pub FieldClosed : Heap → ℕ → List ℕ → (slot k : ℕ) → Type 0
FieldClosed h r marks s k = (t : ℕ) → field_at h s k ≡ Some (Slot t) → LiesIn h r t → 0 < slice_index marks t

-- so it is for all fields of black cells, but for the fields of one cell from a number on
abbrev pub BlackDoneBut : Heap → ℕ → List ℕ → (held from : ℕ) → Type 0
BlackDoneBut h r marks held from = (s k : ℕ) → LiesIn h r s → 1 < slice_index marks s → (s ≡ held → k < from)
    → FieldClosed h r marks s k

abbrev pub BlackDone : Heap → ℕ → List ℕ → Type 0
BlackDone h r marks = (s k : ℕ) → LiesIn h r s → 1 < slice_index marks s → FieldClosed h r marks s k

-- white cells may have become grey, and nothing else
pub record OnlyGreyed (h : Heap) (r : ℕ) (old new : List ℕ) : Type 0 where
  pub grows : (s : ℕ) → 0 < slice_index old s → 0 < slice_index new s
  pub blacks : (s : ℕ) → LiesIn h r s → 1 < slice_index new s → 1 < slice_index old s
  pub count : known_count h r old ≤ known_count h r new
  pub fields : black_fields h r new ≡ black_fields h r old
  pub rest : pending h r new ≡ pending h r old
  pub outside : (s : ℕ) → (LiesIn h r s → ⊥) → slice_index new s ≡ slice_index old s

-- a cell that may become grey: it is in reach by no more links than cells are known
abbrev pub Near : Heap → ℕ → Roots → List ℕ → ℕ → Type 0
Near h r roots marks s = (n : ℕ) × (n ≤ known_count h r marks) × Walk h r roots n s

-- a word leads to no white cell of the region, and nothing changes
pub record StaysKnown (r : ℕ) (w : Word) (head result : Option ℕ) (old new : Table) : Type 0 where
  pub known_is : (s : ℕ) → w ≡ Slot s → LiesIn old.heap r s → 0 < mark_at old s
  pub same : new ≡ old
  pub head_is : result ≡ head

-- a word leads to a white cell of the region, which becomes grey and the head of the list
pub record BecomesGrey (r : ℕ) (w : Word) (head result : Option ℕ) (old new : Table) : Type 0 where
  pub slot : ℕ
  pub leads : w ≡ Slot slot
  pub lies : LiesIn old.heap r slot
  pub white : mark_at old slot ≡ 0
  pub within : slot < length old.marks
  pub in_links : slot < length old.links
  pub new_is : new ≡ record old { marks = slice_set old.marks slot 1; links = slice_set old.links slot head }
  pub head_is : result ≡ Some slot

abbrev pub Greys : ℕ → Word → (head result : Option ℕ) → (old new : Table) → Type 0
Greys r w head result old new = StaysKnown r w head result old new ⊎ BecomesGrey r w head result old new

-- so many words were looked at in turn: what they lead to in the region is known
pub record Scanned (h : Heap) (r : ℕ) (word : ℕ → Option Word) (n : ℕ) (old new : Table)
    (head result : Option ℕ) : Type 0 where
  pub heap : new.heap ≡ h
  pub went : OnlyGreyed h r old.marks new.marks
  pub links : LinksStay h r old new
  pub found : (k s : ℕ) → k < n → word k ≡ Some (Slot s) → LiesIn h r s → 0 < mark_at new s
  pub marking : (roots : Roots) → ((k s : ℕ) → word k ≡ Some (Slot s) → LiesIn h r s → Near h r roots old.marks s)
      → Marking h r roots old head
      → Marking h r roots new result

-- so many temporaries were looked at in turn: what their fields lead to in the region is known
pub record ScannedTemps (h : Heap) (r : ℕ) (temps : List ℕ) (n : ℕ) (old new : Table)
    (head result : Option ℕ) : Type 0 where
  pub heap : new.heap ≡ h
  pub went : OnlyGreyed h r old.marks new.marks
  pub links : LinksStay h r old new
  pub found : (i k s temp : ℕ) → i < n → slice_get temps i ≡ Some temp → field_at h temp k ≡ Some (Slot s)
      → LiesIn h r s → 0 < mark_at new s
  pub marking : (roots : Roots) → roots.temps ≡ temps → Marking h r roots old head → Marking h r roots new result

-- the bridge was looked at: it is known where it lies in the region
pub record ScannedBridge (h : Heap) (r : ℕ) (bridge : Option ℕ) (old new : Table) (result : Option ℕ) : Type 0 where
  pub heap : new.heap ≡ h
  pub went : OnlyGreyed h r old.marks new.marks
  pub links : LinksStay h r old new
  pub found : (s : ℕ) → bridge ≡ Some s → LiesIn h r s → 0 < mark_at new s
  pub marking : (roots : Roots) → roots.bridge ≡ bridge → Marking h r roots old None → Marking h r roots new result

-- the marking of a region goes on: the roots are known, and the fields of black cells lead to no white cell
pub record MarkingGoes (h : Heap) (r : ℕ) (roots : Roots) (first t : Table) (head : Option ℕ) : Type 0 where
  pub heap : t.heap ≡ h
  pub marking : Marking h r roots t head
  pub done : BlackDone h r t.marks
  pub roots_known : (s : ℕ) → Walk h r roots zero s → 0 < mark_at t s
  pub outside : (s : ℕ) → (LiesIn h r s → ⊥) → (mark_at t s ≡ mark_at first s) × (link_at t s ≡ link_at first s)
