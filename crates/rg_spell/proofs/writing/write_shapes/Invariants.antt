use Rattle.std.proofs.Common.{◌≡◌, ◌++◌, length, take}
use Rattle.std.specs.List.{flat_map}
use Rattle.rg_spell.specs.Spelling.{four, shape_bytes}
use Rattle.rg_spell.proofs.writing.write_shapes.Given as goal

abbrev pub invariant-loop-shape : goal.invariant-loop-shape
invariant-loop-shape l = l.out ≡ l.fn.out ++ (four (length l.shapes) ++ flat_map shape_bytes (take l.shape-index l.shapes))
