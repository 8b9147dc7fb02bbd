use Rattle.std.proofs.Common.{◌≡◌, ◌+◌, ◌≤◌, [], ◌∷◌, ◌++◌, length}
use Rattle.rg_io.specs.Files.{Reads}
use Rattle.rg_io.proofs.files.take_all.Given as goal

abbrev pub invariant-loop-n : goal.invariant-loop-n
invariant-loop-n g l = record {
  taken : Reads (g.F.Files.told l.initial.files) (g.F.Files.told l.files) l.bytes;
  room : length l.bytes + l.left ≡ l.fn.most;
  begun : g.F.Files.begun l.files ≡ g.F.Files.begun l.fn.files ++ l.fn.name ∷ [];
  never_falls : g.F.Files.faults l.fn.files ≤ g.F.Files.faults l.files;
}

abbrev pub decreases-loop-n : goal.decreases-loop-n
decreases-loop-n g l = l.left
