-- The values of digits that are read one after another.
use Rattle.std.proofs.Common.{◌≡◌, ℕ, ◌+◌, ◌-◌, ◌*◌, ◌<◌, ◌≤◌, List, [], ◌∷◌, length, drop, get_or, ap, arith}
use Rattle.std.proofs.lemmas.List.{drop_more}
use Rattle.rg_base.specs.Tokens.{value_onto, value_of}

-- more digits make no smaller value
pub value_onto-above : (n : ℕ) (bs : List ℕ) → n ≤ value_onto n bs
value_onto-above n [] = omega arith
value_onto-above n (b ∷ bs) = let h = value_onto-above (n * 10 + (b - 48)) bs in omega arith

-- once past a limit the value stays past it
pub value_of-past : (most : ℕ) (ds : List ℕ) (k v : ℕ) → k < length ds → value_onto v (drop k ds) ≡ value_onto 0 ds
    → most < v * 10 + (get_or ds k 0 - 48) → most < value_of ds
value_of-past most ds k v l same more =
    let w = v * 10 + (get_or ds k 0 - 48) in
    let step : value_onto v (drop k ds) ≡ value_onto w (drop (k + 1) ds) = ap (value_onto v) (drop_more ds k 0 l) in
    let up : w ≤ value_onto w (drop (k + 1) ds) = value_onto-above w (drop (k + 1) ds) in
    omega arith
