-- What many files need of options.
use Rattle.std.proofs.Common.{◌≡◌, Some, None, arith}

-- nothing isn't something
pub none-some : {A : Type 0} {B : Type 0} {a : A} → None ≡ Some a → B
none-some e = grind arith
