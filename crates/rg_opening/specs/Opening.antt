-- The state in which a behaviour begins (docs/architecture.md, "How a behaviour begins").
use Rattle.std.specs.Prelude.{ℕ, ◌+◌, List, [], ◌∷◌, ◌++◌, length, map, None}
use Rattle.rg_base.specs.declared.words.Cap.TheVariants.{Mut}
use Rattle.rg_base.specs.declared.words.Manager.{Manager}
use Rattle.rg_base.specs.declared.words.Manager.TheVariants.{Arena}
use Rattle.rg_base.specs.declared.ty.Ty.TheVariants.{Ref}
use Rattle.rg_base.specs.declared.object.Label.TheVariants.{Region}
use Rattle.rg_base.specs.declared.object.Seen.{Seen}
use Rattle.rg_base.specs.declared.value.Val.{Val}
use Rattle.rg_base.specs.declared.value.Val.TheVariants.{Nil, Int, Bool, Obj}
use Rattle.rg_tree.specs.Tree.{Method}
use Rattle.rg_rules.specs.Items.{EndAt, Back, items_of}
use Rattle.rg_rules.specs.State.{Drops, State}
use Rattle.rg_cown.specs.declared.cargo.CargoCell.{CargoCell}
use Rattle.rg_cown.specs.Cargo.{label_from}
use Rattle.rg_opening.specs.declared.given.Given.{Given}
use Rattle.rg_opening.specs.declared.given.Given.TheVariants.{Start, Held}

-- a value of a content, where so many objects stand in front of those of the content
abbrev pub value_from : (objects : ℕ) → Val → Val
value_from n Nil = Nil
value_from n (Int z) = Int z
value_from n (Bool b) = Bool b
value_from n (Obj a) = Obj (n + a)

-- an object of a content, where so many objects and regions stand in front of those of the content
abbrev pub object_from : (objects regions : ℕ) → CargoCell → Seen
object_from n r c = record { class = c.class; fields = map (value_from n) c.fields; label = label_from r c.label }

-- the values of fields that begin so: each content is led to by the address of its first object, and so many objects stand in front
abbrev pub field_values : (objects : ℕ) → List Given → List Val
field_values n [] = []
field_values n (Start v ∷ gs) = v ∷ field_values n gs
field_values n (Held c ∷ gs) = Obj n ∷ field_values (n + length c.cells) gs

-- the objects of all contents in order, behind so many objects and regions
abbrev pub content_objects : (objects regions : ℕ) → List Given → List Seen
content_objects n r [] = []
content_objects n r (Start v ∷ gs) = content_objects n r gs
content_objects n r (Held c ∷ gs) = map (object_from n r) c.cells ++ content_objects (n + length c.cells) (r + length c.managers) gs

-- the managers of the regions of all contents in order
abbrev pub content_managers : List Given → List Manager
content_managers [] = []
content_managers (Start v ∷ gs) = content_managers gs
content_managers (Held c ∷ gs) = c.managers ++ content_managers gs

-- A method begins on a new object of a class, whose fields begin so. The object is the first one and lies in region 0, which is an arena and
-- open; behind it stand the contents. Main's frame, which has no variable, waits at main's end. There is no input.
abbrev pub opening_of : (class : ℕ) → Method → List Given → State
opening_of class m given = record {
  store = record { class = class; fields = field_values 1 given; label = Region 0 } ∷ content_objects 1 1 given;
  frames = record { locals = record { name = None; ty = Ref Mut class; value = Obj 0 } ∷ []; target = Drops }
      ∷ record { locals = []; target = Drops } ∷ [];
  windows = record { number = 0; region = 0; owner = None; base_frame = 0; base_place = 0 } ∷ [];
  managers = Arena ∷ content_managers given;
  windows_made = 1;
  items = items_of m.body (Back ∷ EndAt 0 ∷ []);
  input = [];
  output = [];
}
