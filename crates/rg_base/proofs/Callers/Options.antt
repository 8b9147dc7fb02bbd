-- What is there, of an option that has something.
use Rattle.std.proofs.Common.{◌≡◌, Option, Some, None, IsSome, refl}

pub some-there : {A : Type 0} (o : Option A) → IsSome o → (a : A) × (o ≡ Some a)
some-there None e = absurd cc
some-there (Some a) e = (a, refl)

-- nothing is there where anything that is there is absurd
pub none-is : {A : Type 0} (o : Option A) → ((a : A) → o ≡ Some a → ⊥) → o ≡ None
none-is None h = refl
none-is (Some a) h = absurd (h a refl)
