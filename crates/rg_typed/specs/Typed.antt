-- Which contents fit a program (docs/architecture.md, "Cargo").
use Rattle.std.specs.Prelude.{◌≡◌, ℕ, ◌==◌, ◌&&◌, not, nat_le, Bool as Truth, true, false, List, [], ◌∷◌, length, filter_map, slice_get}
use Rattle.std.specs.Prelude.{Option, Some, None}
use Rattle.std.specs.List.{list_all}
use Rattle.rg_base.specs.declared.limits.TheConstants.{ARRAY_SIZE}
use Rattle.rg_base.specs.declared.words.Cap.{Cap}
use Rattle.rg_base.specs.declared.words.Cap.TheVariants.{Mut, Tmp, Paused, Imm, Iso}
use Rattle.rg_base.specs.declared.ty.Ty.{Ty}
use Rattle.rg_base.specs.declared.ty.Ty.TheVariants.{Int, Bool, Ref}
use Rattle.rg_base.specs.declared.object.Label.{Label}
use Rattle.rg_base.specs.declared.object.Label.TheVariants.{Region, Temp, Frozen}
use Rattle.rg_base.specs.declared.value.Val.{Val}
use Rattle.rg_base.specs.declared.value.Val.TheVariants.{Nil, Int as IntVal, Bool as BoolVal, Obj}
use Rattle.rg_tree.specs.Tree.{Ty as Written, Field, Class, Tree}
use Rattle.rg_rules.specs.Types.{type_of, field_member}
use Rattle.rg_rules.specs.Headers.{is_iso_written}
use Rattle.rg_cown.specs.declared.cargo.CargoCell.{CargoCell}
use Rattle.rg_cown.specs.Cargo.{CargoList, is_frozen, is_in}

-- whether a label is that of a region other than this one
abbrev pub is_outside : (region : ℕ) → Label → Truth
is_outside r (Region q) = not (q == r)
is_outside r (Temp n) = false
is_outside r Frozen = false

-- Whether a field of a capability may lead there, in an object of a region. An `iso` field leads into another region, and no other field does.
abbrev pub region_field_fits : (region : ℕ) → Cap → Label → Truth
region_field_fits r Mut l = is_in r (Some l)
region_field_fits r Tmp l = false
region_field_fits r Paused l = false
region_field_fits r Imm l = is_frozen (Some l)
region_field_fits r Iso l = is_outside r l

-- the same in an object with a label: one that is frozen leads to frozen ones, whatever the capability; no content has temporaries
abbrev pub field_fits : (own : Label) → Cap → Label → Truth
field_fits (Region r) cap l = region_field_fits r cap l
field_fits (Temp n) cap l = false
field_fits Frozen cap l = is_frozen (Some l)

-- whether there is an object of the class, to which a field of that capability may lead
abbrev pub object_fits : (own : Label) → Cap → (class : ℕ) → Option CargoCell → Truth
object_fits own cap class None = false
object_fits own cap class (Some c) = c.class == class && field_fits own cap c.label

-- whether a value meets a field's type, in an object with a label
abbrev pub value_fits : List CargoCell → (own : Label) → Ty → Val → Truth
value_fits cells own Int Nil = false
value_fits cells own Int (IntVal z) = true
value_fits cells own Int (BoolVal b) = false
value_fits cells own Int (Obj a) = false
value_fits cells own Bool Nil = false
value_fits cells own Bool (IntVal z) = false
value_fits cells own Bool (BoolVal b) = true
value_fits cells own Bool (Obj a) = false
value_fits cells own (Ref cap class) Nil = true
value_fits cells own (Ref cap class) (IntVal z) = false
value_fits cells own (Ref cap class) (BoolVal b) = false
value_fits cells own (Ref cap class) (Obj a) = object_fits own cap class (slice_get cells a)

-- whether there are as many values as fields, and each meets its type
abbrev pub fields_fit : List Class → List CargoCell → (own : Label) → List Field → List Val → Truth
fields_fit classes cells own [] [] = true
fields_fit classes cells own [] (v ∷ vs) = false
fields_fit classes cells own (f ∷ fs) [] = false
fields_fit classes cells own (f ∷ fs) (v ∷ vs) = value_fits cells own (type_of classes f.ty) v && fields_fit classes cells own fs vs

-- Whether the values are those of an object of a class: one for each field; or the elements of an array, no more than there may be, none of
-- them `iso`, and each of the element's type.
abbrev pub values_fit : List Class → List CargoCell → (own : Label) → Class → (element : Option Written) → List Val → Truth
values_fit classes cells own c None vs = fields_fit classes cells own (filter_map field_member c.members) vs
values_fit classes cells own c (Some t) vs =
    not (is_iso_written t) && nat_le (length vs) ARRAY_SIZE && list_all (value_fits cells own (type_of classes t)) vs

-- whether an object fits, if its class is there: that is an ordinary class, and the values are those of an object of it
abbrev pub object_of_class : List Class → List CargoCell → (class : Option Class) → CargoCell → Truth
object_of_class classes cells None c = false
object_of_class classes cells (Some k) c = not k.is_tmp && values_fit classes cells c.label k k.element c.fields

-- whether a label is that of a window's temporaries
abbrev pub is_temp : Label → Truth
is_temp (Region r) = false
is_temp (Temp n) = true
is_temp Frozen = false

-- whether an object fits a program
abbrev pub cell_fits : List Class → List CargoCell → CargoCell → Truth
cell_fits classes cells c = not (is_temp c.label) && object_of_class classes cells (slice_get classes c.class) c

abbrev pub is_typed : List Class → CargoList → Truth
is_typed classes c = list_all (cell_fits classes c.cells) c.cells

-- A content fits a program. Each object is of an ordinary class and has the fields of its class, or elements, each with a value of its type:
-- a number, a truth value, or nil or a reference to an object of the type's class. A `mut` field leads to an object of its own region, an `imm`
-- field to a frozen object, and each field of a frozen object to frozen ones. Of unfrozen objects, the fields that lead from one region into
-- another are exactly the `iso` fields that aren't nil.
abbrev pub TypedCargo : Tree → CargoList → Type 0
TypedCargo t c = is_typed t.classes c ≡ true
