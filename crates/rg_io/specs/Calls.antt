-- Calls on an object in memory: how many were made, which are to fail, and how many failed (docs/architecture.md).
use Rattle.std.specs.Prelude.{ℕ, List, [], ◌∷◌, ◌++◌, Contains}
use Rattle.rg_io.specs.Content.{one_more}

-- calls are numbered from 1
pub record CallCounts : Type 0 where
  pub made : ℕ
  pub failing : List ℕ
  pub faults : ℕ

-- no call was made, and none is to fail
abbrev pub no_calls : CallCounts
no_calls = record { made = 0; failing = []; faults = 0 }

-- a call was named as one that fails
abbrev pub with_failing : CallCounts → ℕ → CallCounts
with_failing c call = record c { failing = c.failing ++ call ∷ [] }

-- the next call was named as one that fails
abbrev pub IsNextFailing : CallCounts → Type 0
IsNextFailing c = Contains c.failing (one_more c.made)

-- one more call was made
abbrev pub with_call : CallCounts → CallCounts
with_call c = record c { made = one_more c.made }

-- one more call was made, and it failed
abbrev pub with_fault : CallCounts → CallCounts
with_fault c = record c { made = one_more c.made; faults = one_more c.faults }
