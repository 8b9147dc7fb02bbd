-- A program with numbers for names has the names of a module.
use Rattle.std.proofs.Common.{◌≡◌, refl, sym, subst, ℕ, suc, ◌+◌, List, [], ◌∷◌, length, filter_map, Option, Some, None, arith}
use Rattle.std.specs.List.{AllByRecursion}
use Rattle.rg_tree.specs.Tree.{Ty, stmt, StmtKind, declare, assign, assign_element, call, swap, branch, while, enter, print, collect, return}
use Rattle.rg_tree.specs.Tree.{Else, no_else, otherwise, Block, empty, then as next, Param, Field, Method, Member, field, method, Class, Tree}
use Rattle.rg_rules.specs.Types.{field_member, method_member}
use Rattle.rg_verify_expressions.specs.Naming.{variable_name, field_name, class_name, method_name}
use Rattle.rg_raised.specs.Raises.{slots_after, IsKindNumbered, IsElseNumbered, IsBlockNumbered, AreParamsNumbered, IsMethodNumbered}
use Rattle.rg_raised.specs.Raises.{AreMethodsNumbered, AreMembersNumbered, AreMembers, AreClassesNumbered, IsNumbered}
use Rattle.rg_numbered.specs.ModuleNames.{AreNamed, slots_behind, HasSlotNames, HasElseSlotNames, HaveSlotNames, HasVariableNames, HasMemberNames}
use Rattle.rg_numbered.specs.ModuleNames.{HasModuleNames}

-- Variables

one-more : (n : ℕ) → suc n ≡ n + 1
one-more n = omega arith

same-behind : (n : ℕ) (k : StmtKind) → slots_after n k ≡ slots_behind n k
same-behind n (declare x t r) = one-more n
same-behind n (assign p r) = refl
same-behind n (assign_element q e r) = refl
same-behind n (call c) = refl
same-behind n (swap y p) = refl
same-behind n (branch e b other) = refl
same-behind n (while e b) = refl
same-behind n (enter p z b giving) = refl
same-behind n (print e) = refl
same-behind n collect = refl
same-behind n (return e) = refl

mutual
  kind-names : (n : ℕ) (k : StmtKind) → IsKindNumbered n k → HasSlotNames n k
  kind-names n (declare x t r) h = h
  kind-names n (assign p r) h = tt
  kind-names n (assign_element q e r) h = tt
  kind-names n (call c) h = tt
  kind-names n (swap y p) h = tt
  kind-names n (branch e b other) h = (block-names n b h.0, else-names n other h.1)
  kind-names n (while e b) h = block-names n b h
  kind-names n (enter p z b giving) h = (h.0, subst (λ (s : ℕ). HaveSlotNames s b) (one-more n) (block-names (suc n) b h.1))
  kind-names n (print e) h = tt
  kind-names n collect h = tt
  kind-names n (return e) h = tt

  else-names : (n : ℕ) (o : Else) → IsElseNumbered n o → HasElseSlotNames n o
  else-names n no_else h = tt
  else-names n (otherwise b) h = block-names n b h

  block-names : (n : ℕ) (b : Block) → IsBlockNumbered n b → HaveSlotNames n b
  block-names n empty h = tt
  block-names n (next (stmt line k) b) h =
      (kind-names n k h.0, subst (λ (s : ℕ). HaveSlotNames s b) (same-behind n k) (block-names (slots_after n k) b h.1))

-- Methods

param-names : (s : ℕ) (ps : List Param) → AreParamsNumbered s ps → AreNamed (λ (p : Param). p.name) variable_name s ps
param-names s [] h = tt
param-names s (p ∷ ps) h = (h.0, param-names (suc s) ps h.1)

variable-names : (k : ℕ) (m : Method) → IsMethodNumbered k m → HasVariableNames m
variable-names k m h = record { params = param-names 1 m.params h.params; body = block-names (suc (length m.params)) m.body h.body }

-- Members

methods-only : (j k : ℕ) (ms : List Member) → AreMethodsNumbered j ms → AreNamed (λ (f : Field). f.name) field_name k (filter_map field_member ms)
methods-only j k [] h = tt
methods-only j k (field f ∷ ms) h = absurd h
methods-only j k (method m ∷ ms) h = methods-only (suc j) k ms h.1

field-names : (k : ℕ) (ms : List Member) → AreMembersNumbered k ms → AreNamed (λ (f : Field). f.name) field_name k (filter_map field_member ms)
field-names k [] h = tt
field-names k (field f ∷ ms) h = (h.0, field-names (suc k) ms h.1)
field-names k (method m ∷ ms) h = methods-only 0 k (method m ∷ ms) h

-- the methods behind fields
abbrev MethodNames : (j : ℕ) → List Member → Type 0
MethodNames j ms =
    AreNamed (λ (m : Method). m.name) method_name j (filter_map method_member ms) × AllByRecursion HasVariableNames (filter_map method_member ms)

method-names : (j : ℕ) (ms : List Member) → AreMethodsNumbered j ms → MethodNames j ms
method-names j [] h = (tt, tt)
method-names j (field f ∷ ms) h = absurd h
method-names j (method m ∷ ms) h =
    let rest = method-names (suc j) ms h.1 in
    ((h.0.name, rest.0), (variable-names j m h.0, rest.1))

behind-fields : (k : ℕ) (ms : List Member) → AreMembersNumbered k ms → MethodNames 0 ms
behind-fields k [] h = (tt, tt)
behind-fields k (field f ∷ ms) h = behind-fields (suc k) ms h.1
behind-fields k (method m ∷ ms) h = method-names 0 (method m ∷ ms) h

-- Classes

member-names_by : (c : Class) (e : Option Ty) → AreMembers e c.members → HasMemberNames c
member-names_by c None h =
    let methods = behind-fields 0 c.members h in
    record { fields = field-names 0 c.members h; methods = methods.0; bodies = methods.1 }
member-names_by c (Some t) h = record {
  fields = subst (λ (ms : List Member). AreNamed (λ (f : Field). f.name) field_name 0 (filter_map field_member ms)) (sym h) tt;
  methods = subst (λ (ms : List Member). AreNamed (λ (m : Method). m.name) method_name 0 (filter_map method_member ms)) (sym h) tt;
  bodies = subst (λ (ms : List Member). AllByRecursion HasVariableNames (filter_map method_member ms)) (sym h) tt;
}

class-names : (k : ℕ) (cs : List Class) → AreClassesNumbered k cs → AreNamed (λ (c : Class). c.name) class_name k cs
class-names k [] h = tt
class-names k (c ∷ cs) h = (h.0, class-names (suc k) cs h.2)

member-names : (k : ℕ) (cs : List Class) → AreClassesNumbered k cs → AllByRecursion HasMemberNames cs
member-names k [] h = tt
member-names k (c ∷ cs) h = (member-names_by c c.element h.1, member-names (suc k) cs h.2)

pub module-names : (t : Tree) → IsNumbered t → HasModuleNames t
module-names t h = record {
  classes = class-names 0 t.classes h.classes;
  members = member-names 0 t.classes h.classes;
  main = block-names 0 t.body h.body;
}
