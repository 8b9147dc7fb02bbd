-- What is added to tables: a row that stands for a tree, now and wherever the tables grow (docs/language.md, "The tree").
use Rattle.std.specs.Prelude.{◌≡◌}
use Rattle.rg_tree.specs.Rows.Tables.{Tables}
use Rattle.rg_tree.specs.Rows.RowTrees.{program_of}
use Rattle.rg_tree.specs.Keeps.{Keeps}

-- the tables grow, and their program stays
pub record Extends (old new : Tables) : Type 0 where
  pub keeps : Keeps old new
  pub program : program_of new ≡ program_of old

-- a row stands for that, now and wherever the tables grow
pub record Means {V A : Type 0} (at : Tables → V → A) (exists : Tables → V → Type 0) (t : Tables) (v : V) (a : A) : Type 0 where
  pub is : (u : Tables) → Keeps t u → at u v ≡ a
  pub there : (u : Tables) → Keeps t u → exists u v

-- the tables grow, their program stays, and a row stands for that
pub record Adds {V A : Type 0} (at : Tables → V → A) (exists : Tables → V → Type 0) (old new : Tables) (v : V) (a : A) : Type 0 where
  pub extends : Extends old new
  pub means : Means at exists new v a
