-- A program with numbers for names (docs/architecture.md, "Modules"). Class k is `ck`; its members are its fields `f0`, `f1`, .. and then its
-- methods `m0`, `m1`, .., each in order; and the variable of slot k is `vk`. Bodies are the blocks with numbers of rg_numbered, given the names of
-- rg_verify_expressions. All else, and each line, is as it was.
use Rattle.std.specs.Prelude.{ℕ, suc, Bool as Truth, true, false, List, [], ◌∷◌, ◌++◌, length, filter_map, option_map}
use Rattle.rg_tree.specs.Tree.{Ty as Written, Block, Param, Field, Method, Member, field, method, Class, Tree}
use Rattle.rg_rules.specs.Types.{type_of, field_member, method_member}
use Rattle.rg_code.specs.Lowering.{Scope, method_scope}
use Rattle.rg_verify_expressions.specs.Naming.{variable_name, field_name, class_name, method_name, written}
use Rattle.rg_verify_expressions.specs.Found.{block_named}
use Rattle.rg_numbered.specs.Numbered.{numbered_block}

-- a type
abbrev pub renamed_type : List Class → Written → Written
renamed_type classes t = written (type_of classes t)

-- a block, behind the variables of a scope
abbrev pub renamed_block : List Class → Scope → (in_method : Truth) → Block → Block
renamed_block classes scope in_method b = block_named in_method (length scope) (numbered_block classes scope b)

-- parameters, the first of which comes into a slot
abbrev pub renamed_params : List Class → (slot : ℕ) → List Param → List Param
renamed_params classes s [] = []
renamed_params classes s (p ∷ ps) =
    record { name = variable_name s; ty = renamed_type classes p.ty } ∷ renamed_params classes (suc s) ps

-- method k of the class of a number
abbrev pub renamed_method : List Class → (class k : ℕ) → Method → Method
renamed_method classes c k m = record {
  receiver = m.receiver;
  name = method_name k;
  params = renamed_params classes 1 m.params;
  result = option_map (renamed_type classes) m.result;
  body = renamed_block classes (method_scope classes c m) true m.body;
  line = m.line;
}

-- field k of a class
abbrev pub renamed_field : List Class → (k : ℕ) → Field → Field
renamed_field classes k f = record { name = field_name k; ty = renamed_type classes f.ty; line = f.line }

-- things in order, the first of which has this number
abbrev pub renamed_from : {A B : Type 0} → (each : ℕ → A → B) → (k : ℕ) → List A → List B
renamed_from each k [] = []
renamed_from each k (x ∷ xs) = each k x ∷ renamed_from each (suc k) xs

-- the members of the class of a number: fields first
abbrev pub renamed_members : List Class → (class : ℕ) → List Member → List Member
renamed_members classes c ms =
    renamed_from (λ k f. field (renamed_field classes k f)) 0 (filter_map field_member ms)
    ++ renamed_from (λ k m. method (renamed_method classes c k m)) 0 (filter_map method_member ms)

-- the class of a number
abbrev pub renamed_class : List Class → (class : ℕ) → Class → Class
renamed_class classes c d = record {
  name = class_name c;
  is_tmp = d.is_tmp;
  element = option_map (renamed_type classes) d.element;
  members = renamed_members classes c d.members;
  line = d.line;
}

-- the classes of a program
abbrev pub renamed_classes : List Class → List Class
renamed_classes classes = renamed_from (renamed_class classes) 0 classes

-- a program
abbrev pub renamed : Tree → Tree
renamed t = record {
  classes = renamed_classes t.classes;
  manager = t.manager;
  body = renamed_block t.classes [] false t.body;
  line = t.line;
}
