use Rattle.std.proofs.Common.{◌≡◌, ◌++◌, length, take}
use Rattle.std.specs.List.{flat_map}
use Rattle.rg_spell.specs.Spelling.{four, row_bytes}
use Rattle.rg_module.specs.Spelling.{rows_of}
use Rattle.rg_module.proofs.rows.write_rows.Given as goal

abbrev pub invariant-loop-at : goal.invariant-loop-at
invariant-loop-at l =
    l.out ≡ (l.fn.out ++ four (length (rows_of l.module))) ++ flat_map row_bytes (take l.at (rows_of l.module))
