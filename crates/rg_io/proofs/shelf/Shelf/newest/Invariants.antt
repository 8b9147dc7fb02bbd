use Rattle.std.proofs.Common.{◌≡◌, ◌≤◌, length, reverse, take}
use Rattle.rg_io.specs.Files.{file_bytes}
use Rattle.rg_io.proofs.shelf.Shelf.newest.Given as goal

abbrev pub invariant-loop-i : goal.invariant-loop-i
invariant-loop-i l = record {
  within : l.i ≤ length l.self;
  sought : file_bytes (reverse l.self) l.name ≡ file_bytes (reverse (take l.i l.self)) l.name;
}
