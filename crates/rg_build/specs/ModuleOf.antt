-- The module of a program (docs/architecture.md, "Modules").
use Rattle.std.specs.Prelude.{ℕ, suc, Bool as Truth, true, false, List, [], ◌∷◌, ◌++◌, map, option_map, Some}
use Rattle.rg_base.specs.declared.ty.Ty.{Ty}
use Rattle.rg_tree.specs.Tree.{Method, Member, field, method, Class, Tree}
use Rattle.rg_rules.specs.Types.{type_of, param_types, method_result}
use Rattle.rg_code.specs.declared.op.Op.{Op}
use Rattle.rg_code.specs.Lowering.{lowered}
use Rattle.rg_code.specs.Places.{is_mark}
use Rattle.rg_spell.specs.declared.rows.Shape.{Shape}
use Rattle.rg_spell.specs.declared.rows.Head.{Head}
use Rattle.rg_module.specs.Parts.{Parts}
use Rattle.rg_build.specs.Maps.{maps_of}

-- the types of the fields among members, in order
abbrev pub field_types : List Class → List Member → List Ty
field_types classes [] = []
field_types classes (field f ∷ ms) = type_of classes f.ty ∷ field_types classes ms
field_types classes (method m ∷ ms) = field_types classes ms

-- a class as a module has it
abbrev pub shape_of : List Class → Class → Shape
shape_of classes c = record { is_tmp = c.is_tmp; fields = field_types classes c.members; element = option_map (type_of classes) c.element }

-- the classes of a program
abbrev pub shapes_of : List Class → List Shape
shapes_of classes = map (shape_of classes) classes

-- a method of the class of a number
abbrev pub head_of : List Class → ℕ → Method → Head
head_of classes c m = record { class = c; cap = m.receiver; params = param_types classes m; result = method_result classes m }

-- the methods among the members of the class of a number
abbrev pub member_heads : List Class → ℕ → List Member → List Head
member_heads classes c [] = []
member_heads classes c (field f ∷ ms) = member_heads classes c ms
member_heads classes c (method m ∷ ms) = head_of classes c m ∷ member_heads classes c ms

-- the methods of classes in order, the first of which has the number
abbrev pub class_heads : List Class → ℕ → List Class → List Head
class_heads classes c [] = []
class_heads classes c (k ∷ ks) = member_heads classes c k.members ++ class_heads classes (suc c) ks

-- the methods of a program
abbrev pub heads_of : List Class → List Head
heads_of classes = class_heads classes 0 classes

-- the map of an instruction, with the maps of the marks from it on: the first one if it is a mark, else none
abbrev pub map_here : (mark : Truth) → List (List Ty) → List Ty
map_here false maps = []
map_here true [] = []
map_here true (m ∷ ms) = m

-- the maps of the marks behind it
abbrev pub maps_behind : (mark : Truth) → List (List Ty) → List (List Ty)
maps_behind false maps = maps
maps_behind true [] = []
maps_behind true (m ∷ ms) = ms

-- a map for each instruction: the marks have these in order, and all others have none
abbrev pub laid : List Op → List (List Ty) → List (List Ty)
laid [] maps = []
laid (o ∷ os) maps = map_here (is_mark (Some o)) maps ∷ laid os (maps_behind (is_mark (Some o)) maps)

-- the module of a program: main's manager, its classes, the heads of its methods, its code, and the maps of its marks
abbrev pub module_of : Tree → Parts
module_of t = record {
  manager = t.manager;
  classes = shapes_of t.classes;
  methods = heads_of t.classes;
  code = lowered t;
  maps = laid (lowered t).ops (maps_of t);
}
