-- Programs whose names are those of a module (docs/architecture.md, "Modules"): class k is `ck`, the fields of a class are `f0`, `f1`, .. and its
-- methods `m0`, `m1`, .., each in order, and the variable of slot k is `vk`.
use Rattle.std.specs.Prelude.{◌≡◌, ℕ, suc, ◌+◌, List, [], ◌∷◌, length, filter_map}
use Rattle.std.specs.List.{AllByRecursion}
use Rattle.rg_tree.specs.Tree.{Name, stmt, StmtKind, declare, assign, assign_element, call, swap, branch, while, enter, print, collect, return}
use Rattle.rg_tree.specs.Tree.{Else, no_else, otherwise, Block, empty, then as next, Param, Field, Method, Class, Tree}
use Rattle.rg_rules.specs.Types.{field_member, method_member}
use Rattle.rg_verify_expressions.specs.Naming.{variable_name, field_name, class_name, method_name}

-- things in order have the names of their numbers, of which the first one has this number
abbrev pub AreNamed : {A : Type 0} → (A → Name) → (name : ℕ → Name) → (k : ℕ) → List A → Type 0
AreNamed of name k [] = Unit {0}
AreNamed of name k (x ∷ xs) = (of x ≡ name k) × AreNamed of name (suc k) xs

-- the number of variables behind a statement in front of which there are so many
abbrev pub slots_behind : (slots : ℕ) → StmtKind → ℕ
slots_behind n (declare x t r) = n + 1
slots_behind n (assign p r) = n
slots_behind n (assign_element q e r) = n
slots_behind n (call c) = n
slots_behind n (swap y p) = n
slots_behind n (branch e b other) = n
slots_behind n (while e b) = n
slots_behind n (enter p z b giving) = n
slots_behind n (print e) = n
slots_behind n collect = n
slots_behind n (return e) = n

-- Behind so many variables, each that is declared has the name of its slot

abbrev mutual
  -- by a statement
  pub HasSlotNames : (slots : ℕ) → StmtKind → Type 0
  HasSlotNames n (declare x t r) = x ≡ variable_name n
  HasSlotNames n (assign p r) = Unit {0}
  HasSlotNames n (assign_element q e r) = Unit {0}
  HasSlotNames n (call c) = Unit {0}
  HasSlotNames n (swap y p) = Unit {0}
  HasSlotNames n (branch e b other) = HaveSlotNames n b × HasElseSlotNames n other
  HasSlotNames n (while e b) = HaveSlotNames n b
  HasSlotNames n (enter p z b giving) = (z ≡ variable_name n) × HaveSlotNames (n + 1) b
  HasSlotNames n (print e) = Unit {0}
  HasSlotNames n collect = Unit {0}
  HasSlotNames n (return e) = Unit {0}

  -- by what stands behind the first block of an `if`
  pub HasElseSlotNames : (slots : ℕ) → Else → Type 0
  HasElseSlotNames n no_else = Unit {0}
  HasElseSlotNames n (otherwise b) = HaveSlotNames n b

  -- by the statements of a block
  pub HaveSlotNames : (slots : ℕ) → Block → Type 0
  HaveSlotNames n empty = Unit {0}
  HaveSlotNames n (next (stmt line k) b) = HasSlotNames n k × HaveSlotNames (slots_behind n k) b

-- the parameters of a method and what its body declares; slot 0 has `self`
pub record HasVariableNames (m : Method) : Type 0 where
  pub params : AreNamed (λ (p : Param). p.name) variable_name 1 m.params
  pub body : HaveSlotNames (suc (length m.params)) m.body

-- the fields and the methods of a class
pub record HasMemberNames (c : Class) : Type 0 where
  pub fields : AreNamed (λ (f : Field). f.name) field_name 0 (filter_map field_member c.members)
  pub methods : AreNamed (λ (m : Method). m.name) method_name 0 (filter_map method_member c.members)
  pub bodies : AllByRecursion HasVariableNames (filter_map method_member c.members)

-- a program
pub record HasModuleNames (t : Tree) : Type 0 where
  pub classes : AreNamed (λ (c : Class). c.name) class_name 0 t.classes
  pub members : AllByRecursion HasMemberNames t.classes
  pub main : HaveSlotNames 0 t.body
