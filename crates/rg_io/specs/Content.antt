-- Counts of faults, and what sources and sinks tell of their content (docs/architecture.md).
use Rattle.std.specs.Prelude.{◌≡◌, ℕ, ◌+◌, ◌-◌, ◌^◌, ◌<◌, ◌≤◌, ◌⊎◌, if◌then◌else◌, nat_lt, List, ◌++◌, Option, Some, None}

-- a count of faults rose in a call: it is greater after the call than before, or stands at the greatest u64
abbrev pub Rose : ℕ → ℕ → Type 0
Rose old new = (old < new) ⊎ (2 ^ 64 - 1 ≤ new)

-- where the content is told, these bytes came to its end
abbrev pub Appends : Option (List ℕ) → Option (List ℕ) → List ℕ → Type 0
Appends None new bytes = new ≡ None
Appends (Some old) new bytes = new ≡ Some (old ++ bytes)

-- the first list is a prefix of the second
pub record IsPrefix (part whole : List ℕ) : Type 0 where
  pub rest : List ℕ
  pub whole_is : whole ≡ part ++ rest

-- where the content is told, a prefix of these bytes came to its end
abbrev pub AppendsPart : Option (List ℕ) → Option (List ℕ) → List ℕ → Type 0
AppendsPart old new bytes = (part : List ℕ) × IsPrefix part bytes × Appends old new part

-- where the content is told, the first bytes came to its end, and behind them a prefix of the further ones
abbrev pub AppendsUpTo : Option (List ℕ) → Option (List ℕ) → (first further : List ℕ) → Type 0
AppendsUpTo old new first further = (part : List ℕ) × IsPrefix part further × Appends old new (first ++ part)

-- where the content is told, these bytes were at its front and are gone
abbrev pub Gives : Option (List ℕ) → Option (List ℕ) → List ℕ → Type 0
Gives None new bytes = new ≡ None
Gives (Some old) new bytes = (rest : List ℕ) × (old ≡ bytes ++ rest) × (new ≡ Some rest)

-- what comes of a read: bytes, none of them where none is left, or a fault
pub data Reply : Type 0 where
  gave : List ℕ → Reply
  failed : Reply

-- one more; the greatest u64 stays
abbrev pub one_more : ℕ → ℕ
one_more n = if nat_lt n (2 ^ 64 - 1) then n + 1 else n
