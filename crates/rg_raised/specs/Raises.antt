-- Which programs raise a module (docs/architecture.md, "Modules"): accepted ones within the limits, whose module it is, with numbers for names.
use Rattle.std.specs.Prelude.{◌≡◌, ℕ, suc, List, [], ◌∷◌, length, Option, Some, None}
use Rattle.rg_tree.specs.Tree.{Ty, stmt, StmtKind, declare, assign, assign_element, call, swap, branch, while, enter, print, collect, return}
use Rattle.rg_tree.specs.Tree.{Else, no_else, otherwise, Block, empty, then as next, Param, Method, Member, field, method, Class, Tree}
use Rattle.rg_rules.specs.Acceptance.{Accepted}
use Rattle.rg_limits.specs.Limits.{IsWithinLimits}
use Rattle.rg_module.specs.Parts.{Parts}
use Rattle.rg_build.specs.ModuleOf.{module_of}
use Rattle.rg_verify_expressions.specs.Naming.{class_name, field_name, method_name, variable_name}

-- Names. The variable of slot k is `vk`; slot 0 of a method has `self`.

-- how many variables there are behind a statement
abbrev pub slots_after : (slots : ℕ) → StmtKind → ℕ
slots_after n (declare x t r) = suc n
slots_after n (assign p r) = n
slots_after n (assign_element q e r) = n
slots_after n (call c) = n
slots_after n (swap y p) = n
slots_after n (branch e b other) = n
slots_after n (while e b) = n
slots_after n (enter p z b giving) = n
slots_after n (print e) = n
slots_after n collect = n
slots_after n (return e) = n

abbrev mutual
  -- the names that a statement declares, in front of which there are so many variables
  pub IsKindNumbered : (slots : ℕ) → StmtKind → Type 0
  IsKindNumbered n (declare x t r) = x ≡ variable_name n
  IsKindNumbered n (assign p r) = Unit {0}
  IsKindNumbered n (assign_element q e r) = Unit {0}
  IsKindNumbered n (call c) = Unit {0}
  IsKindNumbered n (swap y p) = Unit {0}
  IsKindNumbered n (branch e b other) = IsBlockNumbered n b × IsElseNumbered n other
  IsKindNumbered n (while e b) = IsBlockNumbered n b
  IsKindNumbered n (enter p z b giving) = (z ≡ variable_name n) × IsBlockNumbered (suc n) b
  IsKindNumbered n (print e) = Unit {0}
  IsKindNumbered n collect = Unit {0}
  IsKindNumbered n (return e) = Unit {0}

  -- those of what stands behind the first block of an `if`
  pub IsElseNumbered : (slots : ℕ) → Else → Type 0
  IsElseNumbered n no_else = Unit {0}
  IsElseNumbered n (otherwise b) = IsBlockNumbered n b

  -- those of a block, whose own variables end with it
  pub IsBlockNumbered : (slots : ℕ) → Block → Type 0
  IsBlockNumbered n empty = Unit {0}
  IsBlockNumbered n (next (stmt line k) b) = IsKindNumbered n k × IsBlockNumbered (slots_after n k) b

-- parameters, the first of which comes into a slot
abbrev pub AreParamsNumbered : (slot : ℕ) → List Param → Type 0
AreParamsNumbered s [] = Unit {0}
AreParamsNumbered s (p ∷ ps) = (p.name ≡ variable_name s) × AreParamsNumbered (suc s) ps

-- method k of a class, which is `mk`
pub record IsMethodNumbered (k : ℕ) (m : Method) : Type 0 where
  pub name : m.name ≡ method_name k
  pub params : AreParamsNumbered 1 m.params
  pub body : IsBlockNumbered (suc (length m.params)) m.body

-- methods alone, the first of which has this number
abbrev pub AreMethodsNumbered : (k : ℕ) → List Member → Type 0
AreMethodsNumbered k [] = Unit {0}
AreMethodsNumbered k (field f ∷ ms) = ⊥
AreMethodsNumbered k (method m ∷ ms) = IsMethodNumbered k m × AreMethodsNumbered (suc k) ms

-- fields first, `fk` from this number on, and then methods
abbrev pub AreMembersNumbered : (k : ℕ) → List Member → Type 0
AreMembersNumbered k [] = Unit {0}
AreMembersNumbered k (field f ∷ ms) = (f.name ≡ field_name k) × AreMembersNumbered (suc k) ms
AreMembersNumbered k (method m ∷ ms) = AreMethodsNumbered 0 (method m ∷ ms)

-- the members of a class, of which an array class has none
abbrev pub AreMembers : (element : Option Ty) → List Member → Type 0
AreMembers None ms = AreMembersNumbered 0 ms
AreMembers (Some t) ms = ms ≡ []

-- classes, the first of which has this number
abbrev pub AreClassesNumbered : (k : ℕ) → List Class → Type 0
AreClassesNumbered k [] = Unit {0}
AreClassesNumbered k (c ∷ cs) = (c.name ≡ class_name k) × AreMembers c.element c.members × AreClassesNumbered (suc k) cs

-- a program with numbers for names
pub record IsNumbered (t : Tree) : Type 0 where
  pub classes : AreClassesNumbered 0 t.classes
  pub body : IsBlockNumbered 0 t.body

-- The programs that raise a module.
pub record Raises (m : Parts) (t : Tree) : Type 0 where
  pub accepted : Accepted t
  pub within : IsWithinLimits t
  pub its_module : module_of t ≡ m
  pub numbered : IsNumbered t
