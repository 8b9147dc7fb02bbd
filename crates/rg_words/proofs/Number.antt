-- The value of digits that are read one after another.
use Rattle.std.proofs.Common.{◌≡◌, ℕ, ◌+◌, ◌-◌, ◌*◌, ◌<◌, ◌≤◌, false, nat_le, List, length, drop, get_or, None, refl, ap, arith}
use Rattle.std.proofs.lemmas.List.{drop_more}
use Rattle.std.proofs.lemmas.Bool.Decides.{nat_tests}
use Rattle.rg_base.proofs.Callers.Digits.{value_onto-above}
use Rattle.rg_base.specs.Tokens.{value_onto, value_of}
use Rattle.rg_words.specs.Commands.{value_up_to}

-- a value past the limit has none
value_up_to-large : (digits : List ℕ) (most : ℕ) → most < value_of digits → None ≡ value_up_to digits most
value_up_to-large digits most h = let t : nat_le (value_of digits) most ≡ false = grind (arith, nat_tests) in rw t refl

-- where the digits so far are past the limit, all of them are
pub value_up_to-past : (ds : List ℕ) (k v w most : ℕ) → k < length ds → value_onto v (drop k ds) ≡ value_of ds
    → w ≡ v * 10 + (get_or ds k 0 - 48) → most < w
    → None ≡ value_up_to ds most
value_up_to-past ds k v w most l same e more =
    let step : value_onto v (drop k ds) ≡ value_onto (v * 10 + (get_or ds k 0 - 48)) (drop (k + 1) ds) = ap (value_onto v) (drop_more ds k 0 l) in
    let up : v * 10 + (get_or ds k 0 - 48) ≤
    value_onto (v * 10 + (get_or ds k 0 - 48)) (drop (k + 1) ds) = value_onto-above (v * 10 + (get_or ds k 0 - 48)) (drop (k + 1) ds) in
    value_up_to-large ds most (omega arith)
