-- What files in memory are (docs/architecture.md).
use Rattle.std.specs.Prelude.{ℕ, List}
use Rattle.rg_io.specs.Files.{Told}
use Rattle.rg_io.specs.Calls.{CallCounts}

-- what they tell, their calls, and the names that were begun, in order
pub record InMemoryFiles : Type 0 where
  pub told : Told
  pub calls : CallCounts
  pub begun : List (List ℕ)
