use Rattle.std.proofs.Common.{◌≡◌, ◌++◌, length, take, drop}
use Rattle.std.specs.List.{flat_map, AllByRecursion}
use Rattle.rg_spell.specs.Spelling.{eight}
use Rattle.rg_image.specs.ImageText.{value_bytes, FitsValue}
use Rattle.rg_image.proofs.writing.write_values.Given as goal

abbrev pub invariant-loop-k : goal.invariant-loop-k
invariant-loop-k l = record {
  text : l.out ≡ l.fn.out ++ (eight (length l.values) ++ flat_map value_bytes (take l.k l.values));
  ranges : AllByRecursion FitsValue (drop l.k l.values) → AllByRecursion FitsValue l.values;
}
