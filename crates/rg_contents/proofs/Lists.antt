-- Lists that are written at places, and contents that are put.
use Rattle.std.proofs.Common.{◌≡◌, ℕ, zero, suc, List, [], ◌∷◌, get_or, set, Some, slice_get, subst}
use Rattle.std.proofs.lemmas.Option.{slice_get_within, get_or_from_slice_get}
use Rattle.std.specs.Prelude.{All}
use Rattle.rg_sched_atomic.specs.Contents.{Content, Empty, first_of, rest_of, put}

-- what holds of each place holds behind a write of a value for which it does
pub set-all : {A : Type 0} (P : ℕ → A → Type 0) (d : A) (xs : List A) (n : ℕ) (x : A) → P n x → ((m : ℕ) → P m (get_or xs m d)) → (m : ℕ)
    → P m (get_or (set xs n x) m d)
set-all P d [] n x new old m = old m
set-all P d (y ∷ ys) zero x new old zero = new
set-all P d (y ∷ ys) zero x new old (suc m) = old (suc m)
set-all P d (y ∷ ys) (suc n) x new old zero = old zero
set-all P d (y ∷ ys) (suc n) x new old (suc m) = set-all (λ k. P (suc k)) d ys n x new (λ k. old (suc k)) m

-- it holds of what is put to each of these cowns
abbrev pub AllPut : (ℕ → Content → Type 0) → List ℕ → List Content → Type 0
AllPut P [] xs = Unit {0}
AllPut P (n ∷ ns) xs = P n (first_of xs) × AllPut P ns (rest_of xs)

pub put-all : (P : ℕ → Content → Type 0) (ns : List ℕ) (xs cs : List Content) → AllPut P ns xs → ((m : ℕ) → P m (get_or cs m Empty)) → (m : ℕ)
    → P m (get_or (put ns xs cs) m Empty)
put-all P [] xs cs new old m = old m
put-all P (n ∷ ns) xs cs new old m = put-all P ns (rest_of xs) (set cs n (first_of xs)) new.1 (set-all P Empty cs n (first_of xs) new.0 old) m

-- where nothing is put there is nothing
pub put-none : (P : ℕ → Content → Type 0) → ((n : ℕ) → P n Empty) → (ns : List ℕ) → AllPut P ns []
put-none P none [] = tt
put-none P none (n ∷ ns) = (none n, put-none P none ns)

-- what holds of all holds of the one at a place
pub all-at : {A : Type 0} (P : A → Type 0) (xs : List A) (i : ℕ) (x : A) → All P xs → slice_get xs i ≡ Some x → P x
all-at P xs i x all at = subst P (get_or_from_slice_get xs i x x at) (all i x (slice_get_within xs i x at))
