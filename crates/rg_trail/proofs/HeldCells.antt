-- A cell of which something is told is held.
use Rattle.std.proofs.Common.{◌≡◌, Option, Some, None, refl}
use Rattle.std.specs.Option.{IsSome, option_map}

pub is-held : {A B : Type 0} (f : A → B) (o : Option A) (b : B) → option_map f o ≡ Some b → IsSome o
is-held f None b e = cc
is-held f (Some a) b e = refl
