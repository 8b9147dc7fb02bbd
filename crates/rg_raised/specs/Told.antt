-- The program that is raised from a module, with its names (docs/architecture.md, "Modules"): its classes are those of the module's tables, and
-- its bodies are told by the module's code.
use Rattle.std.specs.Prelude.{◌≡◌, false, Option, Some, None, option_map, Result, Ok, Err}
use Rattle.rg_base.specs.declared.limits.TheConstants.{BRACKETS}
use Rattle.rg_tree.specs.Tree.{Tree}
use Rattle.rg_tree.specs.Rows.Tables.{Tables}
use Rattle.rg_tree.specs.Rows.RowTrees.{program_of}
use Rattle.rg_module.specs.Parts.{Parts}
use Rattle.rg_verify_expressions.specs.declared.refusal.Refusal.{Refusal}
use Rattle.rg_verify_expressions.specs.declared.refusal.Refusal.TheVariants as refusal
use Rattle.rg_verify_expressions.specs.Blocks.{◌>>◌, test}
use Rattle.rg_verify_expressions.specs.Found.{block_named}
use Rattle.rg_classes.specs.Order.{are_tables, callees_of}
use Rattle.rg_classes.specs.Written.{classes_written}
use Rattle.rg_bodies.specs.Bodies.{Bodies, bodies_told}
use Rattle.rg_bodies.specs.Rows.{given_by, methods_named}

-- the bodies of a module, whose tables are those of a program. Blocks within the limits are no deeper than brackets may be.
abbrev pub module_told : Parts → Option Bodies
module_told m = do
  test (are_tables m.classes m.methods)
  bodies_told (given_by m (callees_of m.methods)) BRACKETS m.methods

-- the program of these bodies
abbrev pub tree_named : Parts → Bodies → Tree
tree_named m x = record {
  classes = classes_written 0 m.classes m.methods (methods_named m.methods x.methods);
  manager = m.manager;
  body = block_named false 0 x.main.block;
  line = x.main.line;
}

-- the program of a module
abbrev pub program_told : Parts → Option Tree
program_told m = option_map (tree_named m) (module_told m)

-- the answer is this program, if there is one, as rows; or that there is none
abbrev pub IsRaised : Option Tree → Result Tables Refusal → Type 0
IsRaised (Some t) (Ok p) = program_of p ≡ t
IsRaised None (Ok p) = ⊥
IsRaised told (Err refusal.NotRaised) = told ≡ None
IsRaised told (Err refusal.Memory) = Unit {0}
