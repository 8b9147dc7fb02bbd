use Rattle.std.proofs.Common.{◌≡◌, ◌++◌, length, take}
use Rattle.std.specs.List.{flat_map}
use Rattle.rg_spell.specs.Spelling.{four, ty_bytes}
use Rattle.rg_spell.proofs.writing.write_types.Given as goal

abbrev pub invariant-loop-ty : goal.invariant-loop-ty
invariant-loop-ty l = l.out ≡ l.fn.out ++ (four (length l.types) ++ flat_map ty_bytes (take l.ty-index l.types))
