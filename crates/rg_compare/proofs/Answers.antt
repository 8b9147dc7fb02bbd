-- Parts of two lists that are the same.
use Rattle.std.proofs.Common.{◌≡◌, ◌<◌, ℕ, ◌+◌, List, [], ◌∷◌, length, take, Some, slice_get, sym, ap, ◌∙◌, arith}
use Rattle.std.specs.Option.{unwrap_or}
use Rattle.std.proofs.lemmas.List.{take_more_same}
use Rattle.std.proofs.lemmas.Option.{unwrap_or-slice_get}

pub some_is : {A : Type 0} (x y : A) → Some x ≡ Some y → x ≡ y
some_is x y e = cc

-- the same at one place more
pub one_more : {A : Type 0} (xs ys : List A) (at : ℕ) → length xs ≡ length ys → at < length xs → take at xs ≡ take at ys
    → slice_get xs at ≡ slice_get ys at → take (at + 1) xs ≡ take (at + 1) ys
one_more [] ys at len lt same e = absurd (omega (arith, lt))
one_more (x ∷ xs) ys at len lt same e =
    let there : at < length ys = omega (arith, lt, len) in
    let here = sym (unwrap_or-slice_get (x ∷ xs) at x) ∙ ap (λ o. unwrap_or o x) e ∙ unwrap_or-slice_get ys at x in
    take_more_same (x ∷ xs) ys at x lt there same here
