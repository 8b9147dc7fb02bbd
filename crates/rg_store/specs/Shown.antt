-- What the rows of a store stand for: the objects of a state (docs/language.md, "Steps").
use Rattle.std.specs.Prelude.{ℕ, ◌<◌, List, length, map, All, Option, option_and_then, replicate, slice_get}
use Rattle.rg_base.specs.declared.object.Label.{Label}
use Rattle.rg_base.specs.declared.object.Seen.{Seen}
use Rattle.rg_base.specs.declared.value.Val.{Val}
use Rattle.rg_tree.specs.Tree.{Ty as Written, Class}
use Rattle.rg_tree.specs.Rows.Tables.{Tables}
use Rattle.rg_tree.specs.Rows.RowTrees.{classes_of}
use Rattle.rg_rules.specs.RightSides.{opening_value, opening_element}
use Rattle.rg_rules.specs.Types.{fields_of}
use Rattle.rg_store.specs.declared.objects.ObjectRow.{ObjectRow}

-- an object
abbrev pub seen_of : ObjectRow → Seen
seen_of o = record { class = o.class; fields = o.fields.items; label = o.label }

-- the objects
abbrev pub store_of : List ObjectRow → List Seen
store_of os = map seen_of os

-- each object's class is one of the program's
abbrev pub AreOfClasses : Tables → List ObjectRow → Type 0
AreOfClasses t os = All (λ o. o.class < length (classes_of t)) os

-- an object of its class, its fields and its label
abbrev pub object_of : (class : ℕ) → List Val → Label → Seen
object_of class fields label = record { class = class; fields = fields; label = label }

-- a new object of a class
abbrev pub opened_as : List Class → (class : ℕ) → Label → Seen
opened_as classes class label = object_of class (map (λ f. opening_value f.ty) (fields_of classes class)) label

-- the type of the elements of the class of a number, as it is written
abbrev pub element_written : List Class → (class : ℕ) → Option Written
element_written classes class = option_and_then (λ (c : Class). c.element) (slice_get classes class)

-- a new array of a class, of so many elements
abbrev pub array_as : List Class → (class size : ℕ) → Label → Seen
array_as classes class size label = object_of class (replicate size (opening_element (element_written classes class))) label
