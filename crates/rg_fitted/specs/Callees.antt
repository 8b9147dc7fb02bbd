-- The methods of a program as calls need them, in the order of its code (docs/architecture.md, "Modules").
use Rattle.std.specs.Prelude.{ℕ, suc, ◌+◌, List, [], ◌∷◌, ◌++◌, length}
use Rattle.rg_tree.specs.Tree.{Method, Class}
use Rattle.rg_rules.specs.Types.{method_result}
use Rattle.rg_code.specs.Lowering.{methods_among}
use Rattle.rg_verify_expressions.specs.declared.callee.Callee.{Callee}

-- the methods of a class in order, of which the first has this number through the program and this place in its class
abbrev pub class_callees : List Class → (number place : ℕ) → List Method → List Callee
class_callees classes n p [] = []
class_callees classes n p (m ∷ ms) =
    record { number = n; place = p; result = method_result classes m } ∷ class_callees classes (suc n) (suc p) ms

-- those of classes in order, of which the first method has this number
abbrev pub callees_from : List Class → (number : ℕ) → List Class → List Callee
callees_from classes n [] = []
callees_from classes n (k ∷ ks) =
    let own = methods_among k.members in class_callees classes n 0 own ++ callees_from classes (n + length own) ks

-- those of a program
abbrev pub callees : List Class → List Callee
callees classes = callees_from classes 0 classes
