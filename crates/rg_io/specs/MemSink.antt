-- What a sink in memory is (docs/architecture.md).
use Rattle.std.specs.Prelude.{ℕ, List}
use Rattle.rg_io.specs.Calls.{CallCounts}

-- the bytes that it has taken, the room that is left, the largest piece of one call, and its calls
pub record InMemorySink : Type 0 where
  pub taken : List ℕ
  pub room : ℕ
  pub largest : ℕ
  pub calls : CallCounts
