-- Classes as they are written, from the tables of a module (docs/architecture.md, "Modules"): class k is `ck`, and has the fields `f0`, `f1`, ..
-- first and then the methods `m0`, `m1`, .. of the module that are of this class. The variable of slot k is `vk`.
use Rattle.std.specs.Prelude.{ℕ, suc, ◌==◌, if◌then◌else◌, List, [], ◌∷◌, ◌++◌, drop, Option, Some, None, option_map}
use Rattle.rg_base.specs.declared.ty.Ty.{Ty}
use Rattle.rg_tree.specs.Tree.{Block, Param, Method, Member, field, method, Class}
use Rattle.rg_spell.specs.declared.rows.Shape.{Shape}
use Rattle.rg_spell.specs.declared.rows.Head.{Head}
use Rattle.rg_verify_expressions.specs.Naming.{class_name, field_name, method_name, variable_name, written}

-- the line of what has no mark in the code: of a class and a field
abbrev pub no_line : ℕ
no_line = 0

-- the body of a method: its statements, and the line of the mark at its end, or no line where no mark stands there
pub record Bodied : Type 0 where
  pub block : Block
  pub line : ℕ

-- `f7: T;`
abbrev pub field_written : (k : ℕ) → Ty → Member
field_written k t = field (record { name = field_name k; ty = written t; line = no_line })

-- `v7: T`
abbrev pub param_written : (slot : ℕ) → Ty → Param
param_written s t = record { name = variable_name s; ty = written t }

-- what is written of types in order, of which the first one has this number
abbrev pub numbered : {A : Type 0} → (ℕ → Ty → A) → (k : ℕ) → List Ty → List A
numbered each k [] = []
numbered each k (t ∷ ts) = each k t ∷ numbered each (suc k) ts

-- `def mut m7(v1: T): R { .. }`; slot 0 has `self`
abbrev pub method_written : (k : ℕ) → Head → Bodied → Method
method_written k h b = record {
  receiver = h.cap;
  name = method_name k;
  params = numbered param_written 1 h.params;
  result = option_map written h.result;
  body = b.block;
  line = b.line;
}

-- the methods of a class that come next, the first of which has this number in it
abbrev pub methods_written : (class k : ℕ) → List Head → List Bodied → List Member
methods_written c k [] bs = []
methods_written c k (h ∷ hs) [] = []
methods_written c k (h ∷ hs) (b ∷ bs) = if h.class == c then method (method_written k h b) ∷ methods_written c (suc k) hs bs else []

-- how many methods of a class come next
abbrev pub run : (class : ℕ) → List Head → ℕ
run c [] = 0
run c (h ∷ hs) = if h.class == c then suc (run c hs) else 0

-- the members of a class: fields first; an array class has none
abbrev pub members_written : (element : Option Ty) → (fields : List Ty) → (methods : List Member) → List Member
members_written None fields methods = numbered field_written 0 fields ++ methods
members_written (Some t) fields methods = []

-- `class c7 { .. }`, or `class c7 [T];`
abbrev pub class_written : (k : ℕ) → Shape → (methods : List Member) → Class
class_written k s methods = record {
  name = class_name k;
  is_tmp = s.is_tmp;
  element = option_map written s.element;
  members = members_written s.element s.fields methods;
  line = no_line;
}

-- classes in order, the first of which has this number, with the methods that are left for them
abbrev pub classes_written : (k : ℕ) → List Shape → List Head → List Bodied → List Class
classes_written k [] hs bs = []
classes_written k (s ∷ ss) hs bs =
    class_written k s (methods_written k 0 hs bs) ∷ classes_written (suc k) ss (drop (run k hs) hs) (drop (run k hs) bs)
