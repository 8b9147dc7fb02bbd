-- The bodies of accepted programs with the names of a module are those of blocks with numbers (docs/architecture.md, "Modules").
use Rattle.std.specs.Prelude.{◌≡◌, ℕ, Bool as Truth, false, true, List, [], length, Some}
use Rattle.rg_tree.specs.Tree.{Name, Block, Method, Class, Tree}
use Rattle.rg_rules.specs.Types.{method_named}
use Rattle.rg_rules.specs.Acceptance.{Accepted}
use Rattle.rg_code.specs.Lowering.{Scope, method_scope}
use Rattle.rg_verify_expressions.specs.Found.{block_named, IsBlockFound}
use Rattle.rg_numbered.specs.Numbered.{numbered_block}
use Rattle.rg_numbered.specs.ModuleNames.{HasModuleNames}

-- A body is its block with numbers: with names that is the body again, each statement on its line, and all of its names are found. So it has
-- the code of the block with numbers (`BlocksHaveTheirCode` of rg_verify_expressions).
pub record IsNumbered (classes : List Class) (scope : Scope) (in_method : Truth) (b : Block) : Type 0 where
  pub named : block_named in_method (length scope) (numbered_block classes scope b) ≡ b
  pub found : IsBlockFound classes scope in_method (numbered_block classes scope b)

-- main and each method of an accepted program whose names are those of a module
pub record AcceptedAreNumbered : Type 0 where
  pub main : (t : Tree) → Accepted t → HasModuleNames t → IsNumbered t.classes [] false t.body
  pub methods : (t : Tree) → Accepted t → HasModuleNames t → (c : ℕ) (x : Name) (m : Method) → method_named t.classes c x ≡ Some m →
      IsNumbered t.classes (method_scope t.classes c m) true m.body
