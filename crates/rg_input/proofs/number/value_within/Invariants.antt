use Rattle.std.proofs.Common.{◌≡◌, ◌≤◌, drop}
use Rattle.std.specs.List.{list_all}
use Rattle.rg_base.specs.Pieces.{is_digit}
use Rattle.rg_base.specs.Tokens.{value_onto}
use Rattle.rg_input.proofs.number.value_within.Given as goal

abbrev pub invariant-loop-b : goal.invariant-loop-b
invariant-loop-b l = record {
  small : l.value ≤ l.most;
  digits : list_all is_digit (drop l.b-index l.digits) ≡ list_all is_digit l.digits;
  same : value_onto l.value (drop l.b-index l.digits) ≡ value_onto 0 l.digits;
}
