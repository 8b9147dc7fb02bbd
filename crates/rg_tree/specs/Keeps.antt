-- What stays where tables grow (docs/language.md, "The tree").
use Rattle.std.specs.Prelude.{◌≡◌, List, ◌++◌}
use Rattle.rg_tree.specs.Rows.Tables.{Tables}
use Rattle.rg_tree.specs.Rows.RowTrees.{exprs_of, stmts_of, params_of, members_of, classes_of}

-- the second list begins with the first
pub record Begins {A : Type 0} (xs ys : List A) : Type 0 where
  pub more : List A
  pub is : ys ≡ xs ++ more

-- all older names and numbers stay, and each older row stands for the same tree
pub record Keeps (old new : Tables) : Type 0 where
  pub names : Begins old.names new.names
  pub numbers : Begins old.numbers new.numbers
  pub params : Begins (params_of old) (params_of new)
  pub members : Begins (members_of old) (members_of new)
  pub classes : Begins (classes_of old) (classes_of new)
  pub stmts : Begins (stmts_of old) (stmts_of new)
  pub exprs : Begins (exprs_of old) (exprs_of new)
