-- Classes that aren't there.
use Rattle.std.proofs.Common.{◌≡◌, ℕ, suc, Bool, true, false, if◌then◌else◌, cond, List, [], ◌∷◌, length, find, Option, Some, None, option_map}
use Rattle.std.proofs.Common.{bytes_eq, refl, arith}
use Rattle.rg_tree.specs.Tree.{Name, Class}
use Rattle.rg_rules.specs.Types.{class_number, class_named}
use Rattle.rg_names.specs.TreeAnswers.{class_place}

option_map-none : (o : Option Class) (n : ℕ) → None ≡ option_map (λ c. n) o → o ≡ None
option_map-none None n e = refl
option_map-none (Some c) n e = cc

-- a class that isn't there has the number of classes
class_number-none : (cs : List Class) (x : Name) → class_named cs x ≡ None → class_number cs x ≡ length cs
class_number-none [] x none = refl
class_number-none (c ∷ cs) x none = by (bytes_eq c.name x) none (class_number-none cs x)
  where
    by : (b : Bool) → cond b (Some c) (find (λ k. bytes_eq k.name x) cs) ≡ None → (class_named cs x ≡ None → class_number cs x ≡ length cs) →
        (if b then 0 else suc (class_number cs x)) ≡ length (c ∷ cs)
    by true none rest = cc
    by false none rest = let r = rest none in omega arith

pub class_number-unplaced : (cs : List Class) (x : Name) → None ≡ class_place cs x → class_number cs x ≡ length cs
class_number-unplaced cs x none = class_number-none cs x (option_map-none (class_named cs x) (class_number cs x) none)
