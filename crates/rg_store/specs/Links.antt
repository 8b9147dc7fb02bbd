-- Links between regions: for each region the list of those to which references lead from it, and where they lead, link by link
-- (docs/language.md, "Steps").
use Rattle.std.specs.Prelude.{ℕ, zero, suc, if◌then◌else◌, List, [], ◌∷◌, ◌++◌, map, filter_map, flat_map, slice_index_or, Vec}
use Rattle.std.specs.declared.alloc.Global.{Global}
use Rattle.rg_base.specs.declared.object.Seen.{Seen}
use Rattle.rg_rules.specs.Regions.{address, region_at, in_regions, joined_with}

-- the list of a number
abbrev pub listed : List (Vec ℕ Global) → ℕ → List ℕ
listed lists r = slice_index_or (map (λ v. v.items) lists) r []

-- these regions, and those to which links lead from them, by at most so many
abbrev pub linked : (lists : ℕ → List ℕ) → (links : ℕ) → List ℕ → List ℕ
linked lists zero regions = regions
linked lists (suc k) regions = linked lists k (joined_with regions (flat_map lists regions))
