-- Links by declared types, and regions that were found, link by link (docs/language.md, "Steps").
use Rattle.std.specs.Prelude.{◌≡◌, ℕ, ◌||◌, List, [], ◌∷◌, filter_map, length, Vec}
use Rattle.std.specs.declared.alloc.Global.{Global}
use Rattle.rg_base.specs.declared.object.Seen.{Seen}
use Rattle.rg_base.specs.declared.value.Val.{Val}
use Rattle.rg_tree.specs.Tree.{Class, Member}
use Rattle.rg_tree.specs.Rows.Tables.{Tables}
use Rattle.rg_tree.specs.Rows.RowTrees.{classes_of}
use Rattle.rg_tree.specs.Keeps.{Begins}
use Rattle.rg_rules.specs.Regions.{region_at, owned_in, among, in_regions, led_from}
use Rattle.rg_rules.specs.Types.{field_member}
use Rattle.rg_store.specs.declared.marks.Found.{Found}
use Rattle.rg_store.specs.Links.{listed}
use Rattle.rg_store.specs.Regions.{is_marked, AreMarked}

-- the regions to which owner references lead in members with these values
abbrev pub links_in : Tables → List Seen → List Member → List Val → List ℕ
links_in t store members values = filter_map (region_at store) (owned_in (classes_of t) (filter_map field_member members) values)

-- these regions were found too, and stand behind those that were known
pub record FindsToo (old new : Found) (these : List ℕ) : Type 0 where
  pub count : length new.marks.items ≡ length old.marks.items
  pub fit : AreMarked new.marks.items new.regions.items
  pub before : Begins old.regions.items new.regions.items
  pub marked : (r : ℕ) → is_marked new.marks.items r ≡ is_marked old.marks.items r || among these r

-- for each region there is the list of those to which owner references lead from it, and so many lists stand there
pub record AreLinks (classes : List Class) (store : List Seen) (count : ℕ) (lists : List (Vec ℕ Global)) : Type 0 where
  pub count_is : length lists ≡ count
  pub led : (r : ℕ) → listed lists r ≡ led_from classes store (in_regions (r ∷ [])) store
