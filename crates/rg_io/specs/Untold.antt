-- What the files, sources and sinks of the system tell of their content: nothing. Sources and sinks are seen as their counts of
-- faults, files as theirs and the names that were begun (docs/architecture.md).
use Rattle.std.specs.Prelude.{◌≡◌, ℕ, List, Option, None}
use Rattle.rg_io.specs.Content.{Reply, gave, failed, one_more}
use Rattle.rg_io.specs.Files.{Told}

-- no bytes are told
abbrev pub untold_bytes : ℕ → Option (List ℕ)
untold_bytes faults = None

-- a fault is counted
abbrev pub untold_replies : ℕ → Reply → ℕ → Type 0
untold_replies faults (gave bytes) new = new ≡ faults
untold_replies faults failed new = new ≡ one_more faults

-- the files of the system: how often they failed, and the names that were begun, in order
pub record SystemFiles : Type 0 where
  pub faults : ℕ
  pub begun : List (List ℕ)

-- no files are told
abbrev pub untold_files : SystemFiles → Option Told
untold_files files = None
