-- What the answers of a class table say of the tree of its program (docs/language.md, "Headers"). A name's number stands for its bytes.
use Rattle.std.specs.Prelude.{◌≡◌, ℕ, ◌<◌, ⊤, List, length, map}
use Rattle.std.specs.Prelude.{option_map, All, IfSome, Option, Some, None, Ok}
use Rattle.rg_base.specs.declared.ty.Ty.{Ty}
use Rattle.rg_base.specs.declared.ty.Ty.TheVariants.{Int, Bool, Ref}
use Rattle.rg_tree.specs.Tree.{Name, Method, Class}
use Rattle.rg_tree.specs.Rows.Tables.{Tables, name_at, numbers_in}
use Rattle.rg_tree.specs.Rows.RowTrees.{param_at, program_of}
use Rattle.rg_tree.specs.Rows.RowsExist.{IsSpanBelow}
use Rattle.rg_rules.specs.Types.{class_number, class_named, fields_of, type_of, good_type, field_place, field_type}
use Rattle.rg_rules.specs.Types.{method_named, method_result}
use Rattle.rg_names.specs.declared.entry.FieldAt.{FieldAt}
use Rattle.rg_names.specs.declared.entry.Sig.{Sig}
use Rattle.rg_names.specs.MethodNumbers.{method_number}

-- the number of a class of a name, if there is one
abbrev pub class_place : List Class → Name → Option ℕ
class_place classes x = option_map (λ c. class_number classes x) (class_named classes x)

-- the type's class is there
abbrev pub IsKnown : List Class → Ty → Type 0
IsKnown classes Int = ⊤
IsKnown classes Bool = ⊤
IsKnown classes (Ref cap class) = class < length classes

-- the field of a name in a class: its place among the fields, and its type, whose class is there
pub record FieldIs (program : Tables) (class name : ℕ) (f : FieldAt) : Type 0 where
  pub place : field_place (fields_of (program_of program).classes class) (name_at program name) ≡ Some f.index
  pub ty : field_type (program_of program).classes class (name_at program name) ≡ Some f.ty
  pub known : IsKnown (program_of program).classes f.ty

-- no field has that name
pub record NoField (program : Tables) (class name : ℕ) : Type 0 where
  pub place : field_place (fields_of (program_of program).classes class) (name_at program name) ≡ None
  pub ty : field_type (program_of program).classes class (name_at program name) ≡ None

-- the answer for a field
abbrev pub FieldAnswer : Tables → (class name : ℕ) → Option FieldAt → Type 0
FieldAnswer program class name None = NoField program class name
FieldAnswer program class name (Some f) = FieldIs program class name f

-- the method of a name in a class
pub record MethodIs (program : Tables) (class name : ℕ) (s : Sig) : Type 0 where
  pub method : Method
  pub named : method_named (program_of program).classes class (name_at program name) ≡ Some method
  pub number : method_number (program_of program).classes class (name_at program name) ≡ Some s.number
  pub cap : method.receiver ≡ s.cap
  pub rows : IsSpanBelow program (length program.params) s.params
  pub params : map (param_at program) (numbers_in program s.params) ≡ method.params
  pub result : method_result (program_of program).classes method ≡ s.result
  pub known : IfSome s.result (IsKnown (program_of program).classes)

-- the parameter of a number is there, and its type is good
pub record IsGoodParam (program : Tables) (param : ℕ) : Type 0 where
  pub within : param < length program.params
  pub good : good_type (program_of program).classes (param_at program param).ty
      ≡ Ok (type_of (program_of program).classes (param_at program param).ty)

-- each parameter of a method
abbrev pub HasGoodParams : Tables → Sig → Type 0
HasGoodParams program s = All (IsGoodParam program) (numbers_in program s.params)

-- no method has that name
pub record NoMethod (program : Tables) (class name : ℕ) : Type 0 where
  pub named : method_named (program_of program).classes class (name_at program name) ≡ None
  pub number : method_number (program_of program).classes class (name_at program name) ≡ None

-- the answer for a method
abbrev pub MethodAnswer : Tables → (class name : ℕ) → Option Sig → Type 0
MethodAnswer program class name None = NoMethod program class name
MethodAnswer program class name (Some s) = MethodIs program class name s
