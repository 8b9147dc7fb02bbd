-- Laws of the lines that marks have (docs/architecture.md, "Modules"): programs that are the same but for the other lines have the same code and
-- the same module, and two programs that are the same up to lines and have the same code are such.
use Rattle.std.specs.Prelude.{◌≡◌}
use Rattle.rg_tree.specs.Tree.{Tree}
use Rattle.rg_tree.specs.Lineless.{lineless}
use Rattle.rg_code.specs.Lowering.{lowered}
use Rattle.rg_lines.specs.Unlined.{SameButLines}

-- they have the same code
abbrev pub SameCode : Type 0
SameCode = (t u : Tree) → SameButLines t u → lowered t ≡ lowered u

-- the code of a program tells each line that it has but those
abbrev pub CodeTellsLines : Type 0
CodeTellsLines = (t u : Tree) → lineless t ≡ lineless u → lowered t ≡ lowered u → SameButLines t u
