-- Files as they lie in memory, the oldest first (docs/architecture.md).
use Rattle.std.specs.Prelude.{ℕ, ◌<◌, ◌≤◌, List, [], length, drop, Option, Some, None, slice_get}
use Rattle.rg_io.specs.Files.{FileMap}
use Rattle.rg_io.specs.declared.reading.Place.{Place}

-- the bytes of a file, none where there is no file
abbrev pub bytes_of : Option (List ℕ × List ℕ) → List ℕ
bytes_of None = []
bytes_of (Some f) = f.1

-- the unread rest of the file that is read
abbrev pub unread : FileMap → Option Place → List ℕ
unread shelf None = []
unread shelf (Some p) = drop p.at (bytes_of (slice_get shelf p.file))

-- the place lies in a file
abbrev pub IsPlace : FileMap → Option Place → Type 0
IsPlace shelf None = Unit {0}
IsPlace shelf (Some p) = (p.file < length shelf) × (p.at ≤ length (bytes_of (slice_get shelf p.file)))
