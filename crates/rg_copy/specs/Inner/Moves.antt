-- What leads to cells that go elsewhere is rewritten (docs/architecture.md, "A manager that moves its cells").
use Rattle.std.specs.Prelude.{◌≡◌, ◌≢◌, ℕ, zero, suc, ◌<◌, ◌≤◌, ◌⊎◌, cond, List, [], ◌∷◌, Option, Some, None, map}
use Rattle.std.specs.Prelude.{slice_get, option_map, unwrap_or}
use Rattle.rg_base.specs.declared.object.Label.TheVariants.{Temp}
use Rattle.rg_base.specs.declared.value.Word.{Word}
use Rattle.rg_base.specs.declared.value.Word.TheVariants.{Nil, Int, Bool as Truth, Slot}
use Rattle.rg_cells.specs.declared.cell.Body.{Body}
use Rattle.rg_cells.specs.Table.{Heap, Table, body_at, label_at, mark_at, link_at, high_of}
use Rattle.rg_frames.specs.Stack.{Stack}
use Rattle.rg_regions.specs.Reach.{LiesIn, belongs}
use Rattle.rg_regions.specs.Table.{Has}
use Rattle.rg_copy.specs.Slid.{base_of}

-- where the cell at a slot goes, if it lies in the region and has a link
abbrev pub target : Table → (region slot : ℕ) → Option ℕ
target t r s = cond (belongs r (body_at t.heap s)) (link_at t s) None

-- a word that leads to a cell leads to where that one goes
abbrev pub moved_word : (ℕ → Option ℕ) → Word → Word
moved_word to Nil = Nil
moved_word to (Int i) = Int i
moved_word to (Truth b) = Truth b
moved_word to (Slot s) = Slot (unwrap_or (to s) s)

-- the first words of a list are changed; so many from a place on
abbrev pub first_changed : (Word → Word) → (count : ℕ) → List Word → List Word
first_changed f zero xs = xs
first_changed f (suc k) [] = []
first_changed f (suc k) (x ∷ xs) = f x ∷ first_changed f k xs

abbrev pub changed_from : (Word → Word) → (from count : ℕ) → List Word → List Word
changed_from f zero k xs = first_changed f k xs
changed_from f (suc b) k [] = []
changed_from f (suc b) k (x ∷ xs) = x ∷ changed_from f b k xs

-- so many fields of a cell, and all of them
abbrev pub first_fields : (Word → Word) → ℕ → Body → Body
first_fields f k b = record b { fields = first_changed f k b.fields }

abbrev pub all_fields : (Word → Word) → Body → Body
all_fields f b = record b { fields = map f b.fields }

-- so many fields of the cell at a slot are rewritten, and nothing else changes
pub record ForwardsFirst (r slot k : ℕ) (old new : Table) : Type 0 where
  pub marks : new.marks ≡ old.marks
  pub links : new.links ≡ old.links
  pub next : new.heap.next ≡ old.heap.next
  pub high : high_of new.heap ≡ high_of old.heap
  pub here : body_at new.heap slot ≡ option_map (first_fields (moved_word (target old r)) k) (body_at old.heap slot)
  pub others : (s : ℕ) → s ≢ slot → body_at new.heap s ≡ body_at old.heap s

-- all of them are
pub record Forwards (r slot : ℕ) (old new : Table) : Type 0 where
  pub marks : new.marks ≡ old.marks
  pub links : new.links ≡ old.links
  pub next : new.heap.next ≡ old.heap.next
  pub high : high_of new.heap ≡ high_of old.heap
  pub here : body_at new.heap slot ≡ option_map (all_fields (moved_word (target old r))) (body_at old.heap slot)
  pub others : (s : ℕ) → s ≢ slot → body_at new.heap s ≡ body_at old.heap s

-- the cell at a slot is as it was, or all its fields are rewritten
abbrev pub IsKept : (p t : Table) → (slot : ℕ) → Type 0
IsKept p t s = body_at t.heap s ≡ body_at p.heap s

abbrev pub IsForwarded : (r : ℕ) → (p t : Table) → (slot : ℕ) → Type 0
IsForwarded r p t s = body_at t.heap s ≡ option_map (all_fields (moved_word (target p r))) (body_at p.heap s)

-- what no rewriting changes
pub record Alike (p t : Table) : Type 0 where
  pub links : t.links ≡ p.links
  pub next : t.heap.next ≡ p.heap.next
  pub high : high_of t.heap ≡ high_of p.heap
  pub labels : (s : ℕ) → label_at t.heap s ≡ label_at p.heap s

-- the black ones among so many members are rewritten
pub record MembersForwarded (p : Table) (r : ℕ) (members : List ℕ) (i : ℕ) (t : Table) : Type 0 where
  pub alike : Alike p t
  pub marks : t.marks ≡ p.marks
  pub black : (j s : ℕ) → j < i → slice_get members j ≡ Some s → mark_at p s ≢ 0 → IsForwarded r p t s
  pub white : (j s : ℕ) → slice_get members j ≡ Some s → mark_at p s ≡ 0 → IsKept p t s
  pub left : (j s : ℕ) → i ≤ j → slice_get members j ≡ Some s → IsKept p t s
  pub others : (s : ℕ) → (LiesIn p.heap r s → ⊥) → IsKept p t s

-- a slot has a cell that is a temporary by its label
abbrev pub IsTempAt : Heap → ℕ → Type 0
IsTempAt h s = (n : ℕ) × (label_at h s ≡ Some (Temp n))

-- no temporary has a mark
abbrev pub TempsClean : Table → Type 0
TempsClean t = (s : ℕ) → IsTempAt t.heap s → mark_at t s ≡ 0

-- a temporary among some is rewritten, and marked
pub record IsMarkedTemp (r : ℕ) (p t : Table) (temps : List ℕ) (s : ℕ) : Type 0 where
  pub is : IsTempAt p.heap s
  pub among : Has temps s
  pub mark : mark_at t s ≡ 1
  pub forwarded : IsForwarded r p t s

-- so many temporaries are rewritten and marked, and all else is as it was
pub record TempsMarked (p : Table) (r : ℕ) (temps : List ℕ) (i : ℕ) (t : Table) : Type 0 where
  pub alike : Alike p t
  pub done : (j s : ℕ) → j < i → slice_get temps j ≡ Some s → IsTempAt p.heap s → mark_at t s ≡ 1
  pub either : (s : ℕ) → (IsKept p t s × (mark_at t s ≡ mark_at p s)) ⊎ IsMarkedTemp r p t temps s

-- the marks of so many temporaries are cleared
pub record Cleared (p : Table) (temps : List ℕ) (i : ℕ) (t : Table) : Type 0 where
  pub heap : t.heap ≡ p.heap
  pub links : t.links ≡ p.links
  pub done : (j s : ℕ) → j < i → slice_get temps j ≡ Some s → IsTempAt p.heap s → mark_at t s ≡ 0
  pub others : (s : ℕ) → (mark_at t s ≡ mark_at p s) ⊎ (IsTempAt p.heap s × (mark_at t s ≡ 0))

-- the temporaries are rewritten, and all else is as it was
pub record TempsForwarded (p : Table) (r : ℕ) (temps : List ℕ) (t : Table) : Type 0 where
  pub alike : Alike p t
  pub marks : (s : ℕ) → mark_at t s ≡ mark_at p s
  pub among : (s : ℕ) → Has temps s → IsTempAt p.heap s → IsForwarded r p t s
  pub others : (s : ℕ) → ((Has temps s × IsTempAt p.heap s) → ⊥) → IsKept p t s

-- so many of the top window's slots are rewritten
abbrev pub ForwardsSlots : (Word → Word) → (count : ℕ) → (old new : Stack) → Type 0
ForwardsSlots f k old new = new ≡ record old { slots = changed_from f (base_of old) k old.slots }
