-- Classes and methods that are there, and those that aren't.
use Rattle.std.proofs.Common.{◌≡◌, refl, ap, ◌∙◌, ℕ, zero, suc, ◌+◌, Bool, true, false, if◌then◌else◌, bytes_eq, List, [], ◌∷◌, length}
use Rattle.std.proofs.Common.{filter_map, Option, None, Some, option_map, arith}
use Rattle.rg_tree.specs.Tree.{Name, Method, Class}
use Rattle.rg_rules.specs.Types.{class_number, class_named, method_member, methods_of, method_named, method_result}
use Rattle.rg_names.specs.TreeAnswers.{class_place}
use Rattle.rg_names.specs.MethodNumbers.{first_place, methods_before, method_number as place_of_method}
use Rattle.rg_tree.specs.Rows.Tables.{Tables, name_at}
use Rattle.rg_tree.specs.Rows.RowTrees.{classes_of}
use Rattle.rg_names.specs.declared.entry.Sig.{Sig}
use Rattle.rg_names.specs.TreeAnswers.{MethodAnswer}
use Rattle.rg_code.specs.Lowering.{method_place, method_number, number_called}
use Rattle.rg_code.proofs.Method.{methods_among-is}
use Rattle.rg_lower.specs.Inner.Emitted.{CalleeIs}

none-of : {A B : Type 0} (o : Option A) (f : A → B) → option_map f o ≡ None → o ≡ None
none-of None f h = refl
none-of (Some a) f h = cc

some-of : {A B : Type 0} (o : Option A) (f : A → B) (b : B) → option_map f o ≡ Some b → (a : A) × (o ≡ Some a) × (f a ≡ b)
some-of None f b h = cc
some-of (Some a) f b h = (a, refl, cc)

number_by : (b : Bool) (c : Class) (rest : Option Class) (n k : ℕ) → (if b then Some c else rest) ≡ None → (rest ≡ None → n ≡ k)
    → (if b then 0 else suc n) ≡ suc k
number_by true c rest n k h e = cc
number_by false c rest n k h e = ap suc (e h)

class_number-none : (classes : List Class) (x : Name) → class_named classes x ≡ None → class_number classes x ≡ length classes
class_number-none [] x h = refl
class_number-none (c ∷ cs) x h = number_by (bytes_eq c.name x) c (class_named cs x) (class_number cs x) (length cs) h (class_number-none cs x)

-- a class that isn't there has the number of classes
pub class_number-unnamed : (classes : List Class) (x : Name) → class_place classes x ≡ None → class_number classes x ≡ length classes
class_number-unnamed classes x h = class_number-none classes x (none-of (class_named classes x) _ h)

place_by : (b : Bool) (rest : Option ℕ) (n k : ℕ) → (if b then Some 0 else option_map suc rest) ≡ Some k → ((j : ℕ) → rest ≡ Some j → n ≡ j)
    → (if b then 0 else suc n) ≡ k
place_by true rest n k h e = cc
place_by false rest n k h e = let s = some-of rest suc k h in ap suc (e s.0 s.1) ∙ s.2

method_place-first : (ms : List Method) (x : Name) (k : ℕ) → first_place (λ (m : Method). bytes_eq m.name x) ms ≡ Some k → method_place ms x ≡ k
method_place-first [] x k h = cc
method_place-first (m ∷ ms) x k h =
    place_by (bytes_eq m.name x) (first_place (λ (m : Method). bytes_eq m.name x) ms) (method_place ms x) k h (λ j e. method_place-first ms x j e)

-- the number of a method that is there
number-first : (classes : List Class) (c : ℕ) (x : Name) (k : ℕ) → first_place (λ (m : Method). bytes_eq m.name x) (methods_of classes c) ≡ Some k
    → method_number classes c x ≡ methods_before classes c + k
number-first [] c x k h = cc
number-first (d ∷ ds) zero x k h =
    let z : 0 + k ≡ k = omega arith in
    rw (methods_among-is d.members, z) (method_place-first (filter_map method_member d.members) x k h)
number-first (d ∷ ds) (suc c) x k h = let e = number-first ds c x k h in rw (methods_among-is d.members, e) (omega arith)

pub method_number-there : (classes : List Class) (c : ℕ) (x : Name) (n : ℕ) → place_of_method classes c x ≡ Some n → method_number classes c x ≡ n
method_number-there classes c x n h =
    let s = some-of (first_place (λ (m : Method). bytes_eq m.name x) (methods_of classes c)) (λ place. methods_before classes c + place) n h in
    number-first classes c x s.0 s.1 ∙ s.2

-- a method that is there is called by its number
number_called-there : (classes : List Class) (c : ℕ) (x : Name) (m : Method) → method_named classes c x ≡ Some m →
    number_called classes c x ≡ method_number classes c x
number_called-there classes c x m h = ap (λ (o : Option Method). elim o [ None ↦ 0 | Some k ↦ method_number classes c x ]) h

-- what the class table answers is what a call needs
pub callee-tree : (t : Tables) (class name : ℕ) (answer : Option Sig) → MethodAnswer t class name answer →
    CalleeIs (classes_of t) class (name_at t name) answer
callee-tree t class name None h = h.named
callee-tree t class name (Some s) h = (
  number_called-there (classes_of t) class (name_at t name) h.method h.named
      ∙ method_number-there (classes_of t) class (name_at t name) s.number h.number,
  ap (λ (o : Option Method). elim o [ None ↦ None | Some m ↦ method_result (classes_of t) m ]) h.named ∙ h.result,
)
