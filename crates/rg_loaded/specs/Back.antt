-- What was loaded is read as it was (docs/architecture.md, "Cargo" and "Images").
use Rattle.std.specs.Prelude.{◌≡◌, ℕ, List, Some}
use Rattle.rg_tree.specs.Tree.{Tree}
use Rattle.rg_cells.specs.Table.{Table}
use Rattle.rg_regions.specs.Table.{RegionTable}
use Rattle.rg_regions.specs.Grove.{Grove}
use Rattle.rg_cown.specs.Cargo.{CargoList, SoundCargo}
use Rattle.rg_cown.specs.Contents.{cargo_at}
use Rattle.rg_cown.specs.Loads.{Loaded, SameCells, SameRecords}
use Rattle.rg_image.specs.ImageText.{image_text}
use Rattle.rg_image.specs.Images.{IsImage}

-- a sound cargo was loaded, its bridge stands at the slot, and the regions are a forest as load leaves them
pub record WasLoaded (c : CargoList) (slot : ℕ) (cells : Table) (regions : RegionTable) : Type 0 where
  pub old_cells : Table
  pub old_regions : RegionTable
  pub loaded : Loaded c slot old_cells old_regions cells regions
  pub grove : Grove cells regions

-- a cargo was loaded somewhere
abbrev pub Came : CargoList → (cells : Table) → RegionTable → (new_cells : Table) → RegionTable → Type 0
Came c cells regions new_cells new_regions = (slot : ℕ) × Loaded c slot cells regions new_cells new_regions

-- all cells and regions are as they were
abbrev pub Stayed : (cells : Table) → RegionTable → (new_cells : Table) → RegionTable → Type 0
Stayed cells regions new_cells new_regions = SameCells cells new_cells × SameRecords regions new_regions

-- what the region at that slot holds is the cargo: the same objects in the same order, with the same numbers of objects and regions
abbrev pub LoadedBack : Type 0
LoadedBack = (c : CargoList) (slot : ℕ) (cells : Table) (regions : RegionTable) → SoundCargo c → WasLoaded c slot cells regions
    → cargo_at cells.heap regions slot ≡ c

-- so the image of what was read from an image, and loaded, is the image that was read
abbrev pub ImageComesBack : Type 0
ImageComesBack = (t : Tree) (bytes : List ℕ) (c : CargoList) (slot : ℕ) (cells : Table) (regions : RegionTable) → IsImage t bytes (Some c)
    → WasLoaded c slot cells regions → image_text (Some (cargo_at cells.heap regions slot)) ≡ bytes
