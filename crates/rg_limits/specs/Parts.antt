-- How many classes, fields, methods and parameters a program has (docs/language.md, "Limits").
use Rattle.std.specs.Prelude.{◌≤◌, length, filter_map}
use Rattle.std.specs.List.{AllByRecursion}
use Rattle.rg_base.specs.declared.limits.TheConstants.{CLASSES, CLASS_FIELDS, CLASS_METHODS, PARAMETERS}
use Rattle.rg_tree.specs.Tree.{Method, Class, Tree}
use Rattle.rg_rules.specs.Types.{field_member, method_member}

-- a class has no more fields and methods than it may, and its methods no more parameters
pub record HasFewMembers (c : Class) : Type 0 where
  pub fields : length (filter_map field_member c.members) ≤ CLASS_FIELDS
  pub methods : length (filter_map method_member c.members) ≤ CLASS_METHODS
  pub params : AllByRecursion (λ (m : Method). length m.params ≤ PARAMETERS) (filter_map method_member c.members)

-- a program has no more classes than it may, and its classes are such
pub record HasFewParts (t : Tree) : Type 0 where
  pub classes : length t.classes ≤ CLASSES
  pub members : AllByRecursion HasFewMembers t.classes
