-- The fields of an ordinary class, looked up for the objects of it (docs/architecture.md, "Cargo").
use Rattle.std.specs.Prelude.{◌≡◌, ℕ, ◌<◌, All, false, List, length, map, filter_map}
use Rattle.rg_tree.specs.Rows.Tables.{Tables}
use Rattle.rg_tree.specs.Rows.RowTrees.{classes_of, member_at}
use Rattle.rg_rules.specs.Types.{field_member}
use Rattle.rg_cown.specs.declared.cargo.CargoCell.{CargoCell}
use Rattle.rg_typed.specs.Typed.{is_temp, cell_fits, fields_fit}

-- an object of the class fits where its values are those of the fields among these members
pub record AreFieldsOf (t : Tables) (class : ℕ) (these : List ℕ) : Type 0 where
  pub fits : (cells : List CargoCell) (c : CargoCell) → c.class ≡ class → is_temp c.label ≡ false
      → cell_fits (classes_of t) cells c
      ≡ fields_fit (classes_of t) cells c.label (filter_map field_member (map (member_at t) these)) c.fields
  pub below : All (λ k. k < length t.members) these
