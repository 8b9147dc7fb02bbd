use Rattle.std.proofs.Common.{◌≡◌, ◌≤◌, ◌-◌, true, length, drop}
use Rattle.std.specs.List.{list_all}
use Rattle.rg_base.specs.Pieces.{is_digit}
use Rattle.rg_base.specs.Tokens.{value_onto}
use Rattle.rg_plan.proofs.Digits.{most}
use Rattle.rg_plan.proofs.words.number.Given as goal

abbrev pub invariant-loop-b : goal.invariant-loop-b
invariant-loop-b l = record {
  small : l.value ≤ most (length l.word - l.b-index);
  fits : l.value ≤ 9999;
  digits : list_all is_digit (drop l.b-index l.word) ≡ true;
  same : value_onto l.value (drop l.b-index l.word) ≡ value_onto 0 l.word;
}
