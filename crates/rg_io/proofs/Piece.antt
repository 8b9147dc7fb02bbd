-- The first bytes of what is left, in a buffer.
use Rattle.std.proofs.Common.{◌≡◌, ℕ, ◌+◌, ◌≤◌, List, ◌++◌, take, drop, length, sym, ◌∙◌, ap, arith}
use Rattle.std.proofs.lemmas.List.{take-append-drop, take-append-le, length-take-le, take-take, drop-drop}

-- the first bytes of a list, as they stand at the front of a buffer
pub take-moved : (n : ℕ) (left behind : List ℕ) → n ≤ length left → take n (take n left ++ behind) ≡ take n left
take-moved n left behind fits = grind (arith, take-append-le, length-take-le, take-take)

-- what is left behind a place is the bytes that were moved to the front of a buffer, and the rest
pub drop-moved : (old left buffer bytes behind : List ℕ) (at n : ℕ) → old ≡ drop at bytes → left ≡ drop at bytes → n ≤ length left →
    buffer ≡ take n left ++ behind → old ≡ take n buffer ++ drop (at + n) bytes
drop-moved old left buffer bytes behind at n old_is left_is fits buffer_is =
    let moved : take n buffer ≡ take n left = ap (take n) buffer_is ∙ take-moved n left behind fits in
    let whole : take n left ++ drop n left ≡ left = take-append-drop n left in
    let rest : drop n left ≡ drop (at + n) bytes = ap (drop n) left_is ∙ drop-drop n at bytes in
    rw (moved, ← rest, whole) (old_is ∙ sym left_is)
