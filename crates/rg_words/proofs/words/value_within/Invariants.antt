use Rattle.std.proofs.Common.{◌≡◌, ◌≤◌, true, drop}
use Rattle.std.specs.List.{list_all}
use Rattle.rg_base.specs.Pieces.{is_digit}
use Rattle.rg_base.specs.Tokens.{value_onto, value_of}
use Rattle.rg_words.proofs.words.value_within.Given as goal

abbrev pub invariant-loop-b : goal.invariant-loop-b
invariant-loop-b l = record {
  small : l.value ≤ l.most;
  digits : list_all is_digit (drop l.b-index l.digits) ≡ true;
  same : value_onto l.value (drop l.b-index l.digits) ≡ value_of l.digits;
}
