-- Runs of the machine that never frees, on the bytes of the input.
use Rattle.std.proofs.Common.{ℕ, List, Option}
use Rattle.rg_base.specs.declared.outcome.Ended.{Ended}
use Rattle.rg_tree.specs.Rows.Tables.{Tables}
use Rattle.rg_plain.specs.Machine.{Machine, state_of}
use Rattle.rg_plain.specs.Runs.{RunIs, NoneAsks, begun}
use Rattle.rg_plain.proofs.Runs.Run.{RanSoFar}

-- a run so far of a machine that started on these bytes
abbrev pub RanOn : Tables → (start : Machine) → (k : ℕ) → (m : Machine) → (old new : Option (List ℕ)) → (before after : List ℕ) → Type 0
RanOn t start k m old new before after = RanSoFar t (state_of t start before) k (state_of t m after) old new

-- what such a run has answered
abbrev pub RunOn : Tables → (start : Machine) → (n k : ℕ) → (m : Machine) → (old new : Option (List ℕ)) → Ended → (before after : List ℕ) → Type 0
RunOn t start n k m old new result before after = RunIs t (state_of t start before) n k m after old new result

-- a run so far of a machine that started on these bytes; where none of its steps asks, something is as it was
abbrev pub UnreadOn : Tables → (start : Machine) → (k : ℕ) → (m : Machine) → (old new : Option (List ℕ)) → (Still : Type 0) →
    (before after : List ℕ) → Type 0
UnreadOn t start k m old new Still before after =
    RanOn t start k m old new before after × (NoneAsks t (state_of t start before) k → Still)

-- what a run has answered, and that something is as it was where none of the steps that it began asks
abbrev pub QuietOn : Tables → (start : Machine) → (n k : ℕ) → (m : Machine) → (old new : Option (List ℕ)) → Ended → (Still : Type 0) →
    (before after : List ℕ) → Type 0
QuietOn t start n k m old new result Still before after =
    RunOn t start n k m old new result before after × (NoneAsks t (state_of t start before) (begun result k) → Still)
