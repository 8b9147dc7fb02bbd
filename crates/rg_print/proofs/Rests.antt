-- What is left of the trees of a table behind a row, one row on.
use Rattle.std.proofs.Common.{◌≡◌, ℕ, suc, ◌+◌, List, ◌++◌, drop, Some, slice_get, append_assoc, arith}
use Rattle.std.specs.Prelude.{flat_map}
use Rattle.rg_base.proofs.Callers.Lists.{drop-get}

-- the text of a row is written
pub flat_map-row : {A : Type 0} (text : A → List ℕ) (xs : List A) (i : ℕ) (x : A) (out all new : List ℕ) → slice_get xs i ≡ Some x
    → out ++ flat_map text (drop i xs) ≡ all → new ≡ out ++ text x → new ++ flat_map text (drop (i + 1) xs) ≡ all
flat_map-row text xs i x out all new g h e =
    let s : i + 1 ≡ suc i = omega arith in
    let r = drop-get xs i x g in
    rw (s, e, append_assoc) (rw r at h)
