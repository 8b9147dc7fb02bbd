-- What a collection of the active region leaves that moves the cells which it keeps (docs/architecture.md, "The heap").
use Rattle.std.specs.Prelude.{◌≡◌, ℕ, Option, Some, None}
use Rattle.rg_base.specs.declared.words.Manager.{Manager}
use Rattle.rg_base.specs.declared.words.Manager.TheVariants.{Arena, Count, Trace}
use Rattle.rg_regions.specs.Table.{Record, record_at}
use Rattle.rg_regions.specs.Reach.{OutOfReach}
use Rattle.rg_frames.specs.Stack.{Stack}
use Rattle.rg_copy.specs.Slid.{Slid, top_roots}
use Rattle.rg_heap.specs.declared.answers.Collected.{Collected}
use Rattle.rg_heap.specs.Parts.{Parts}
use Rattle.rg_heap.specs.Ends.{Released, NoCell}
use Rattle.rg_heap.specs.Collects.{CollectsBy, LostBelow, Told}

-- a region lost its owner with a cell that is out of reach, or is beneath such a one
abbrev pub GoesBelow : Parts → Record → Stack → ℕ → Type 0
GoesBelow p rec v q = LostBelow p rec.number (OutOfReach p.cells.heap rec.number (top_roots rec v)) q

-- Between the heap before and the one behind there is one in which the cells of the region that are in reach have moved,
-- and nothing else has changed but that the others of it are gone. From that one the regions went that lost their owner,
-- and all beneath these; the collected region isn't one of them, and its record stays.
pub record Slides (old new : Parts) (key : ℕ) (rec : Record) (before after : Stack) : Type 0 where
  pub mid : Parts
  pub slid : Slid old.cells old.regions key rec before mid.cells mid.regions after
  pub released : Released mid new (GoesBelow old rec before) NoCell
  pub apart : GoesBelow old rec before rec.number → ⊥
  pub own : record_at new.regions key ≡ record_at mid.regions key

-- the collection of the top window's region by its manager, with the frames before it and behind it: where a region is
-- traced, its cells move; an arena keeps all, and nothing is told
abbrev pub SlidesBy : Manager → (old new : Parts) → (key : ℕ) → Record → (before after : Stack) → Option Collected → Type 0
SlidesBy Arena old new key rec before after result = (result ≡ None) × (new ≡ old) × (after ≡ before)
SlidesBy Count old new key rec before after result =
    CollectsBy Count old new key rec (top_roots rec before) result × (after ≡ before)
SlidesBy Trace old new key rec before after result =
    (told : Collected) × (result ≡ Some told) × Told old new key rec told × Slides old new key rec before after
