-- A program beside its class table (docs/language.md, "Headers").
use Rattle.rg_tree.specs.Rows.Tables.{Tables}
use Rattle.rg_names.specs.Table.{Table}

pub record Known : Type 0 where
  pub program : Tables
  pub classes : Table
