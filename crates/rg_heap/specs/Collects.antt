-- What a collection of the active region leaves (docs/architecture.md, "The heap").
use Rattle.std.specs.Prelude.{◌≡◌, ◌≢◌, ℕ, ◌+◌, Option, Some, None, length, count_by, is_some}
use Rattle.rg_base.specs.declared.words.Manager.{Manager}
use Rattle.rg_base.specs.declared.words.Manager.TheVariants.{Arena, Count, Trace}
use Rattle.rg_cells.specs.Table.{body_at, high_of}
use Rattle.rg_regions.specs.Table.{Record, record_at, HasNumber}
use Rattle.rg_regions.specs.Reach.{LiesIn, Roots}
use Rattle.rg_regions.specs.Spent.{Spent}
use Rattle.rg_regions.specs.Grove.{Below}
use Rattle.rg_regions.specs.Collection.{Lost}
use Rattle.rg_regions.specs.Reach.{OutOfReach}
use Rattle.rg_heap.specs.declared.answers.Collected.{Collected}
use Rattle.rg_heap.specs.Parts.{Parts}

-- a region lost its owner with one of the cells that go, or is beneath such a one
abbrev pub LostBelow : Parts → (region : ℕ) → (ℕ → Type 0) → ℕ → Type 0
LostBelow p r Cell q = (top : ℕ) × Lost p.cells.heap r Cell top × Below p.cells.heap p.regions top q

-- Of the region of a key some cells go, with the regions that they owned and all beneath these; all else stays, but that
-- the region has fewer members.
pub record Collects (old new : Parts) (key : ℕ) (rec : Record) (Cell : ℕ → Type 0) : Type 0 where
  pub freed : (s : ℕ) → LiesIn old.cells.heap rec.number s → Cell s → body_at new.cells.heap s ≡ None
  pub lost : (q s : ℕ) → LostBelow old rec.number Cell q → LiesIn old.cells.heap q s → body_at new.cells.heap s ≡ None
  pub cells : (s : ℕ) → (LiesIn old.cells.heap rec.number s → Cell s → ⊥)
      → ((q : ℕ) → LostBelow old rec.number Cell q → LiesIn old.cells.heap q s → ⊥)
      → body_at new.cells.heap s ≡ body_at old.cells.heap s
  pub removed : (k q : ℕ) → LostBelow old rec.number Cell q → HasNumber old.regions k q → record_at new.regions k ≡ None
  pub records : (k : ℕ) → k ≢ key → ((q : ℕ) → LostBelow old rec.number Cell q → HasNumber old.regions k q → ⊥)
      → record_at new.regions k ≡ record_at old.regions k
  pub own : (now : Record) × (record_at new.regions key ≡ Some now) × (now.number ≡ rec.number)
      × (now.manager ≡ rec.manager) × (now.bridge ≡ rec.bridge)
  pub serials : new.cells.heap.next ≡ old.cells.heap.next
  pub high : high_of new.cells.heap ≡ high_of old.cells.heap
  pub numbers : new.regions.next ≡ old.regions.next

-- what is told of it: the cells of the region before and after, and how many regions went
pub record Told (old new : Parts) (key : ℕ) (rec : Record) (told : Collected) : Type 0 where
  pub region : told.region ≡ rec.number
  pub manager : told.manager ≡ rec.manager
  pub held : told.held ≡ length rec.members
  pub kept : (now : Record) → record_at new.regions key ≡ Some now → told.kept ≡ length now.members
  pub released : told.released + count_by is_some new.regions.records ≡ count_by is_some old.regions.records

-- the collection of a region by its manager; an arena keeps all, and nothing is told
abbrev pub CollectsBy : Manager → (old new : Parts) → (key : ℕ) → Record → Roots → Option Collected → Type 0
CollectsBy Arena old new key rec roots result = (result ≡ None) × (new ≡ old)
CollectsBy Count old new key rec roots result =
    (told : Collected) × (result ≡ Some told) × Told old new key rec told
    × Collects old new key rec (Spent old.cells.heap rec.number roots)
CollectsBy Trace old new key rec roots result =
    (told : Collected) × (result ≡ Some told) × Told old new key rec told
    × Collects old new key rec (OutOfReach old.cells.heap rec.number roots)
