-- Classes that aren't there.
use Rattle.std.proofs.Common.{◌≡◌, refl, ap, ℕ, suc, Bool, true, false, if◌then◌else◌, bytes_eq, List, [], ◌∷◌, length}
use Rattle.std.proofs.Common.{Option, None, Some, option_map}
use Rattle.rg_tree.specs.Tree.{Name, Class}
use Rattle.rg_rules.specs.Types.{class_number, class_named}
use Rattle.rg_names.specs.TreeAnswers.{class_place}

none-of : {A B : Type 0} (o : Option A) (f : A → B) → option_map f o ≡ None → o ≡ None
none-of None f h = refl
none-of (Some a) f h = cc

number_by : (b : Bool) (c : Class) (rest : Option Class) (n k : ℕ) → (if b then Some c else rest) ≡ None → (rest ≡ None → n ≡ k)
    → (if b then 0 else suc n) ≡ suc k
number_by true c rest n k h e = cc
number_by false c rest n k h e = ap suc (e h)

class_number-none : (classes : List Class) (x : Name) → class_named classes x ≡ None → class_number classes x ≡ length classes
class_number-none [] x h = refl
class_number-none (c ∷ cs) x h = number_by (bytes_eq c.name x) c (class_named cs x) (class_number cs x) (length cs) h (class_number-none cs x)

-- a class that isn't there has the number of classes
pub class_number-unnamed : (classes : List Class) (x : Name) → class_place classes x ≡ None → class_number classes x ≡ length classes
class_number-unnamed classes x h = class_number-none classes x (none-of (class_named classes x) _ h)
