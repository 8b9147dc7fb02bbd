-- Programs that are the same but for the lines that no mark has have the same module, and two programs that are the same up to lines and have
-- the same module are such (docs/architecture.md, "Modules").
use Rattle.std.specs.Prelude.{◌≡◌}
use Rattle.rg_tree.specs.Tree.{Tree}
use Rattle.rg_tree.specs.Lineless.{lineless}
use Rattle.rg_build.specs.ModuleOf.{module_of}
use Rattle.rg_lines.specs.Unlined.{SameButLines}

-- they have the same module
abbrev pub SameModule : Type 0
SameModule = (t u : Tree) → SameButLines t u → module_of t ≡ module_of u

-- the module of a program tells each line that it has but those
abbrev pub ModuleTellsLines : Type 0
ModuleTellsLines = (t u : Tree) → lineless t ≡ lineless u → module_of t ≡ module_of u → SameButLines t u
