-- Which behaviours may begin by the code of a program (docs/architecture.md, "How a behaviour begins").
use Rattle.std.specs.Prelude.{◌≡◌, ℕ, List}
use Rattle.rg_tree.specs.Tree.{Method, Tree}
use Rattle.rg_rules.specs.Acceptance.{Accepted}
use Rattle.rg_code.specs.Code.{Code}
use Rattle.rg_code.specs.Lowering.{Lowers, method_number}
use Rattle.rg_opening.specs.declared.given.Given.{Given}
use Rattle.rg_opening.specs.Beginning.{MayBegin}

-- A behaviour of an accepted program may begin: it runs the method of a class that has this number among all methods of the program, on an object
-- whose fields begin so. The program has the code.
pub record Starts (t : Tree) (code : Code) (class method : ℕ) (m : Method) (given : List Given) : Type 0 where
  pub accepted : Accepted t
  pub lowers : Lowers t code
  pub may : MayBegin t class m given
  pub number : method_number t.classes class may.name ≡ method

-- so it is for some program that has the code
abbrev pub MayStart : Code → (class method : ℕ) → List Given → Type 0
MayStart code class method given = (t : Tree) × (m : Method) × Starts t code class method m given
