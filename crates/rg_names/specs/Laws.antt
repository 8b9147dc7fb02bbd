-- What headers without a fault say of classes and their members (docs/language.md, "Headers"), and that they say nothing less.
use Rattle.std.specs.Prelude.{◌≡◌, ⊤, IsTrue, not, List, [], All, map, IfSome, Some, Ok}
use Rattle.rg_base.specs.declared.words.Cap.{Cap}
use Rattle.rg_tree.specs.Tree.{Name, Ty as Written, int, bool, ref, Param, Field, Method, Member, field, method, Class}
use Rattle.rg_tree.specs.Rows.Tables.{Tables, AreDistinct}
use Rattle.rg_tree.specs.Rows.RowTrees.{program_of}
use Rattle.rg_rules.specs.Types.{class_named, suits_class}
use Rattle.rg_rules.specs.Headers.{suits_field_type, is_iso_written, suits_receiver, judge_headers}
use Rattle.rg_names.specs.Table.{Table}
use Rattle.rg_names.specs.TableOf.{IsTableOf}

-- a reference's class is there, and its capability goes with that class
pub record IsGoodReference (classes : List Class) (cap : Cap) (x : Name) : Type 0 where
  pub class : Class
  pub named : class_named classes x ≡ Some class
  pub suits : IsTrue (suits_class cap class.is_tmp)

-- a type that is written
abbrev pub IsGoodType : List Class → Written → Type 0
IsGoodType classes int = ⊤
IsGoodType classes bool = ⊤
IsGoodType classes (ref cap x) = IsGoodReference classes cap x

-- a field: its type is good, and may stand in its class
pub record IsGoodField (classes : List Class) (c : Class) (f : Field) : Type 0 where
  pub ty : IsGoodType classes f.ty
  pub suits : IsTrue (suits_field_type f.ty c.is_tmp)

-- a method: its receiver may stand in its class, no two parameters have one name, and all types are good
pub record IsGoodMethod (classes : List Class) (c : Class) (m : Method) : Type 0 where
  pub receiver : IsTrue (suits_receiver m.receiver c.is_tmp)
  pub names : AreDistinct (map (λ (p : Param). p.name) m.params)
  pub params : All (λ (p : Param). IsGoodType classes p.ty) m.params
  pub result : IfSome m.result (IsGoodType classes)

-- a member of a class
abbrev pub IsGoodMember : List Class → Class → Member → Type 0
IsGoodMember classes c (field f) = IsGoodField classes c f
IsGoodMember classes c (method m) = IsGoodMethod classes c m

-- the type of the elements of an array class, which may stand in it and isn't `iso`; the class has no members
pub record IsGoodElement (classes : List Class) (c : Class) (t : Written) : Type 0 where
  pub ty : IsGoodType classes t
  pub suits : IsTrue (suits_field_type t c.is_tmp)
  pub shared : IsTrue (not (is_iso_written t))
  pub alone : c.members ≡ []

-- the name of a member
abbrev pub member_name : Member → Name
member_name (field f) = f.name
member_name (method m) = m.name

-- a class: no two members have one name, and each is good, or the type of its elements is
pub record IsGoodClass (classes : List Class) (c : Class) : Type 0 where
  pub names : AreDistinct (map member_name c.members)
  pub members : All (IsGoodMember classes c) c.members
  pub element : IfSome c.element (IsGoodElement classes c)

-- the classes of a program: no two have one name, and each is good
pub record GoodHeaders (classes : List Class) : Type 0 where
  pub names : AreDistinct (map (λ (c : Class). c.name) classes)
  pub each : All (IsGoodClass classes) classes

-- a program that has a class table has good headers
abbrev pub TablesAreOfGoodHeaders : Type 0
TablesAreOfGoodHeaders = (program : Tables) (table : Table) → IsTableOf program table → GoodHeaders (program_of program).classes

-- good headers have no fault
abbrev pub GoodHeadersPass : Type 0
GoodHeadersPass = (classes : List Class) → GoodHeaders classes → judge_headers classes ≡ Ok tt
