-- The variables of a frame by place: how the first one of a name is read and written. For callers.
use Rattle.std.proofs.Common.{◌≡◌, refl, ap, ◌∙◌, ℕ, suc, ◌≤◌, Bool, true, false, if◌then◌else◌, List, [], ◌∷◌, length, Some, slice_get, slice_set}
use Rattle.std.proofs.Common.{arith}
use Rattle.rg_base.specs.declared.value.Val.{Val}
use Rattle.rg_base.specs.declared.value.Val.TheVariants.{Nil}
use Rattle.rg_tree.specs.Tree.{Variable}
use Rattle.rg_rules.specs.Capabilities.{is_iso}
use Rattle.rg_rules.specs.Environment.{same_variable}
use Rattle.rg_rules.specs.State.{Local, value_in, place_in, set_in}
use Rattle.rg_rules.specs.Evaluation.{is_iso_local, cleared}

-- a place among the variables, or their number
place_in-bound_by : (b : Bool) (k n : ℕ) → k ≤ n → (if b then 0 else suc k) ≤ suc n
place_in-bound_by true k n h = omega arith
place_in-bound_by false k n h = omega (arith, h)

pub place_in-bound : (ls : List Local) (x : Variable) → place_in ls x ≤ length ls
place_in-bound [] x = omega arith
place_in-bound (l ∷ ls) x = place_in-bound_by (same_variable l.name x) (place_in ls x) (length ls) (place_in-bound ls x)

-- the value of a variable is that at its place
value_in-at_by : (b : Bool) (m : Local) (ls : List Local) (k : ℕ) (v : Val) (l : Local) → (slice_get ls k ≡ Some l → v ≡ l.value) →
    slice_get (m ∷ ls) (if b then 0 else suc k) ≡ Some l → (if b then m.value else v) ≡ l.value
value_in-at_by true m ls k v l h at = let e : m ≡ l = grind arith in ap (λ (o : Local). o.value) e
value_in-at_by false m ls k v l h at = h at

pub value_in-at : (ls : List Local) (x : Variable) (l : Local) → slice_get ls (place_in ls x) ≡ Some l → value_in ls x ≡ l.value
value_in-at [] x l at = grind arith
value_in-at (m ∷ ls) x l at = value_in-at_by (same_variable m.name x) m ls (place_in ls x) (value_in ls x) l (value_in-at ls x l) at

-- it is declared `iso` where the one at its place is
is_iso_local-at_by : (b : Bool) (m : Local) (ls : List Local) (k : ℕ) (i : Bool) (l : Local) → (slice_get ls k ≡ Some l → i ≡ is_iso l.ty) →
    slice_get (m ∷ ls) (if b then 0 else suc k) ≡ Some l → (if b then is_iso m.ty else i) ≡ is_iso l.ty
is_iso_local-at_by true m ls k i l h at = let e : m ≡ l = grind arith in ap (λ (o : Local). is_iso o.ty) e
is_iso_local-at_by false m ls k i l h at = h at

pub is_iso_local-at : (ls : List Local) (x : Variable) (l : Local) → slice_get ls (place_in ls x) ≡ Some l → is_iso_local ls x ≡ is_iso l.ty
is_iso_local-at [] x l at = grind arith
is_iso_local-at (m ∷ ls) x l at = is_iso_local-at_by (same_variable m.name x) m ls (place_in ls x) (is_iso_local ls x) l (is_iso_local-at ls x l) at

-- a write goes to that place
set_in-at_by : (b : Bool) (m : Local) (ls others : List Local) (k : ℕ) (v : Val) (l : Local) →
    (slice_get ls k ≡ Some l → others ≡ slice_set ls k (record l { value = v })) → slice_get (m ∷ ls) (if b then 0 else suc k) ≡ Some l →
    (if b then record m { value = v } ∷ ls else m ∷ others) ≡ slice_set (m ∷ ls) (if b then 0 else suc k) (record l { value = v })
set_in-at_by true m ls others k v l h at = let e : m ≡ l = grind arith in ap (λ (o : Local). record o { value = v } ∷ ls) e
set_in-at_by false m ls others k v l h at = ap (λ o. m ∷ o) (h at)

pub set_in-at : (x : Variable) (v : Val) (ls : List Local) (l : Local) → slice_get ls (place_in ls x) ≡ Some l →
    set_in x v ls ≡ slice_set ls (place_in ls x) (record l { value = v })
set_in-at x v [] l at = grind arith
set_in-at x v (m ∷ ls) l at = set_in-at_by (same_variable m.name x) m ls (set_in x v ls) (place_in ls x) v l (set_in-at x v ls l) at

-- without a variable of that name, nil is read and nothing is written
value_in-absent_by : (b : Bool) (k n : ℕ) (v w : Val) → (k ≡ n → w ≡ Nil) → (if b then 0 else suc k) ≡ suc n → (if b then v else w) ≡ Nil
value_in-absent_by true k n v w h at = absurd (omega (arith, at))
value_in-absent_by false k n v w h at = h (omega (arith, at))

pub value_in-absent : (ls : List Local) (x : Variable) → place_in ls x ≡ length ls → value_in ls x ≡ Nil
value_in-absent [] x at = refl
value_in-absent (m ∷ ls) x at =
    value_in-absent_by (same_variable m.name x) (place_in ls x) (length ls) m.value (value_in ls x) (value_in-absent ls x) at

set_in-absent_by : (b : Bool) (k n : ℕ) (m w : Local) (ls others : List Local) → (k ≡ n → others ≡ ls) → (if b then 0 else suc k) ≡ suc n →
    (if b then w ∷ ls else m ∷ others) ≡ m ∷ ls
set_in-absent_by true k n m w ls others h at = absurd (omega (arith, at))
set_in-absent_by false k n m w ls others h at = ap (λ o. m ∷ o) (h (omega (arith, at)))

pub set_in-absent : (x : Variable) (v : Val) (ls : List Local) → place_in ls x ≡ length ls → set_in x v ls ≡ ls
set_in-absent x v [] at = refl
set_in-absent x v (m ∷ ls) at =
    set_in-absent_by (same_variable m.name x) (place_in ls x) (length ls) m (record m { value = v }) ls (set_in x v ls) (set_in-absent x v ls) at

-- writes keep the number of variables, and their names and types at each place
length-set_in_by : (b : Bool) (m w : Local) (ls others : List Local) → length others ≡ length ls →
    length (if b then w ∷ ls else m ∷ others) ≡ suc (length ls)
length-set_in_by true m w ls others h = refl
length-set_in_by false m w ls others h = ap suc h

pub length-set_in : (x : Variable) (v : Val) (ls : List Local) → length (set_in x v ls) ≡ length ls
length-set_in x v [] = refl
length-set_in x v (m ∷ ls) = length-set_in_by (same_variable m.name x) m (record m { value = v }) ls (set_in x v ls) (length-set_in x v ls)

pub length-cleared : (xs : List Variable) (ls : List Local) → length (cleared xs ls) ≡ length ls
length-cleared [] ls = refl
length-cleared (x ∷ xs) ls = length-cleared xs (set_in x Nil ls) ∙ length-set_in x Nil ls

place_in-set_in_by : (b : Bool) (m : Local) (v : Val) (ls others : List Local) (y : Variable) → place_in others y ≡ place_in ls y →
    place_in (if b then record m { value = v } ∷ ls else m ∷ others) y ≡ place_in (m ∷ ls) y
place_in-set_in_by true m v ls others y h = refl
place_in-set_in_by false m v ls others y h = ap (λ k. if same_variable m.name y then 0 else suc k) h

pub place_in-set_in : (x : Variable) (v : Val) (ls : List Local) (y : Variable) → place_in (set_in x v ls) y ≡ place_in ls y
place_in-set_in x v [] y = refl
place_in-set_in x v (m ∷ ls) y = place_in-set_in_by (same_variable m.name x) m v ls (set_in x v ls) y (place_in-set_in x v ls y)

pub place_in-cleared : (xs : List Variable) (ls : List Local) (y : Variable) → place_in (cleared xs ls) y ≡ place_in ls y
place_in-cleared [] ls y = refl
place_in-cleared (x ∷ xs) ls y = place_in-cleared xs (set_in x Nil ls) y ∙ place_in-set_in x Nil ls y
