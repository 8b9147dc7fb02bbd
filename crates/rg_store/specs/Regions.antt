-- Regions: those that labels name, and sets of them (docs/language.md, "Steps").
use Rattle.std.specs.Prelude.{◌≡◌, ℕ, ◌<◌, Bool as Truth, false, List, [], ◌∷◌, All, slice_index_or}
use Rattle.rg_base.specs.declared.object.Label.{Label}
use Rattle.rg_base.specs.declared.object.Label.TheVariants.{Region, Temp, Frozen}
use Rattle.rg_base.specs.declared.object.Seen.{Seen}
use Rattle.rg_rules.specs.Regions.{among}
use Rattle.rg_store.specs.declared.labels.Regions.{Regions}
use Rattle.rg_store.specs.declared.labels.Regions.TheVariants as regions

-- the region of a label, if it is one, is among the first so many
abbrev pub LabelFits : (count : ℕ) → Label → Type 0
LabelFits count (Region r) = r < count
LabelFits count (Temp n) = Unit {0}
LabelFits count Frozen = Unit {0}

-- that of each object is
abbrev pub LabelsFit : (count : ℕ) → List Seen → Type 0
LabelsFit count store = All (λ o. LabelFits count o.label) store

-- whether a region has a mark
abbrev pub is_marked : List Truth → ℕ → Truth
is_marked marks r = slice_index_or marks r false

-- those with a mark are these
abbrev pub AreMarked : List Truth → List ℕ → Type 0
AreMarked marks these = (r : ℕ) → is_marked marks r ≡ among these r

-- the regions are these
abbrev pub AreRegions : Regions → List ℕ → Type 0
AreRegions (regions.One r) these = these ≡ r ∷ []
AreRegions (regions.Marked marks) these = AreMarked marks.items these
