-- Outcomes of parts in order.
use Rattle.std.proofs.Common.{◌≡◌, ℕ, zero, suc, List, [], ◌∷◌, slice_get, Some, None, Option, IfSome, All, refl}
use Rattle.std.proofs.Common.{arith}
use Rattle.std.proofs.lemmas.List.Elements.{All-head, All-tail}

-- what holds of all holds of it
pub All-slice_get : {X : Type 0} (P : X → Type 0) (xs : List X) (k : ℕ) (x : X) → All P xs → slice_get xs k ≡ Some x → P x
All-slice_get P [] k x a h = grind arith
All-slice_get P (y ∷ ys) zero x a h = let e : y ≡ x = grind arith in rw (← e) (All-head P y ys a)
All-slice_get P (y ∷ ys) (suc k) x a h = All-slice_get P ys k x (All-tail P y ys a) h

-- what holds of an option's value
pub IfSome-by : {X : Type 0} (P : X → Type 0) (o : Option X) → ((x : X) → o ≡ Some x → P x) → IfSome o P
IfSome-by P None h = tt
IfSome-by P (Some x) h = h x refl
