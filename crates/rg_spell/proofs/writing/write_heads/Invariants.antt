use Rattle.std.proofs.Common.{◌≡◌, ◌++◌, length, take}
use Rattle.std.specs.List.{flat_map}
use Rattle.rg_spell.specs.Spelling.{four, head_bytes}
use Rattle.rg_spell.proofs.writing.write_heads.Given as goal

abbrev pub invariant-loop-head : goal.invariant-loop-head
invariant-loop-head l = l.out ≡ l.fn.out ++ (four (length l.heads) ++ flat_map head_bytes (take l.head-index l.heads))
