-- The numbers of methods through a program (docs/language.md, "Headers").
use Rattle.std.specs.Prelude.{ℕ, zero, suc, ◌+◌, Bool as Truth, if◌then◌else◌, bytes_eq, List, [], ◌∷◌, length, filter_map}
use Rattle.std.specs.Prelude.{option_map, Option, Some, None}
use Rattle.rg_tree.specs.Tree.{Name, Class}
use Rattle.rg_rules.specs.Types.{method_member, methods_of}

-- the methods of the classes before the class of a number
abbrev pub methods_before : List Class → ℕ → ℕ
methods_before [] c = 0
methods_before (k ∷ ks) zero = 0
methods_before (k ∷ ks) (suc c) = length (filter_map method_member k.members) + methods_before ks c

-- the place of the first that passes, from 0
abbrev pub first_place : {A : Type 0} → (A → Truth) → List A → Option ℕ
first_place test [] = None
first_place test (a ∷ rest) = if test a then Some 0 else option_map suc (first_place test rest)

-- the number of the method of a name in a class: methods are counted through the program in source order, from 0
abbrev pub method_number : List Class → ℕ → Name → Option ℕ
method_number classes c x = option_map (λ place. methods_before classes c + place) (first_place (λ m. bytes_eq m.name x) (methods_of classes c))
