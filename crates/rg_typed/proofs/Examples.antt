-- Contents against a program, computed: one that fits, and each rule broken alone.
use Rattle.std.proofs.Common.{◌≡◌, refl, pos, [], ◌∷◌, true, false, List}
use Rattle.rg_base.specs.declared.words.Cap.TheVariants as cap
use Rattle.rg_base.specs.declared.words.Manager.TheVariants as manager
use Rattle.rg_base.specs.declared.object.Label.{Label}
use Rattle.rg_base.specs.declared.object.Label.TheVariants.{Region, Temp, Frozen}
use Rattle.rg_base.specs.declared.value.Val.{Val}
use Rattle.rg_base.specs.declared.value.Val.TheVariants.{Nil, Int, Bool, Obj}
use Rattle.rg_tree.specs.Tree.{int, bool, Tree}
use Rattle.rg_rules.proofs.Sources.{to, field_named, class_named, array_class, program}
use Rattle.rg_cown.specs.declared.cargo.CargoCell.{CargoCell}
use Rattle.rg_cown.specs.Cargo.{CargoList, SoundCargo}
use Rattle.rg_typed.specs.Typed.{is_typed, TypedCargo}

-- class A { v: int; b: bool; m: mut A; s: iso A; i: imm A; r: mut Row; }
-- class Row [mut A];
-- tmp class T { v: int; }
-- class Own [iso A];
abbrev classes : Tree
classes = program
    (class_named "A" false
    (field_named "v" int ∷ field_named "b" bool ∷ field_named "m" (to cap.Mut "A") ∷ field_named "s" (to cap.Iso "A")
    ∷ field_named "i" (to cap.Imm "A") ∷ field_named "r" (to cap.Mut "Row") ∷ [])
    ∷ array_class "Row" false (to cap.Mut "A")
    ∷ class_named "T" true (field_named "v" int ∷ [])
    ∷ array_class "Own" false (to cap.Iso "A") ∷ [])
    manager.Arena []

-- an A
abbrev an_a : Label → (v b m s i r : Val) → CargoCell
an_a l v b m s i r = record { class = 0; label = l; fields = v ∷ b ∷ m ∷ s ∷ i ∷ r ∷ [] }

-- a content of two regions and a frozen object, with that bridge, second object of region 0, frozen object and array
abbrev content : (bridge second frozen row : CargoCell) → CargoList
content bridge second frozen row = record {
  cells = bridge ∷ second ∷ an_a (Region 1) (Int (pos 0)) (Bool false) (Obj 2) Nil (Obj 3) Nil ∷ frozen ∷ row ∷ [];
  managers = manager.Trace ∷ manager.Count ∷ [];
}

abbrev bridge : CargoCell
bridge = an_a (Region 0) (Int (pos 7)) (Bool true) (Obj 1) (Obj 2) (Obj 3) (Obj 4)

abbrev second : CargoCell
second = an_a (Region 0) (Int (pos 0)) (Bool false) Nil Nil Nil Nil

abbrev frozen : CargoCell
frozen = an_a Frozen (Int (pos 0)) (Bool false) (Obj 3) (Obj 3) (Obj 3) Nil

abbrev elements : List Val → CargoCell
elements vs = record { class = 1; label = Region 0; fields = vs }

abbrev row : CargoCell
row = elements (Obj 0 ∷ Nil ∷ Obj 1 ∷ [])

fits : SoundCargo (content bridge second frozen row) × TypedCargo classes (content bridge second frozen row)
fits = (refl, refl)

-- with another bridge, second object, frozen object or array
abbrev with_bridge : CargoCell → CargoList
with_bridge c = content c second frozen row

abbrev with_second : CargoCell → CargoList
with_second c = content bridge c frozen row

abbrev with_frozen : CargoCell → CargoList
with_frozen c = content bridge second c row

abbrev with_row : CargoCell → CargoList
with_row c = content bridge second frozen c

-- a content is no part of what fits
abbrev Unfit : CargoList → Type 0
Unfit c = is_typed classes.classes c ≡ false

-- values of another kind than the field's
nil_for_a_number : Unfit (with_bridge (an_a (Region 0) Nil (Bool true) (Obj 1) (Obj 2) (Obj 3) (Obj 4)))
nil_for_a_number = refl

truth_for_a_number : Unfit (with_bridge (an_a (Region 0) (Bool true) (Bool true) (Obj 1) (Obj 2) (Obj 3) (Obj 4)))
truth_for_a_number = refl

reference_for_a_number : Unfit (with_bridge (an_a (Region 0) (Obj 1) (Bool true) (Obj 1) (Obj 2) (Obj 3) (Obj 4)))
reference_for_a_number = refl

number_for_a_truth : Unfit (with_bridge (an_a (Region 0) (Int (pos 7)) (Int (pos 1)) (Obj 1) (Obj 2) (Obj 3) (Obj 4)))
number_for_a_truth = refl

number_for_a_reference : Unfit (with_bridge (an_a (Region 0) (Int (pos 7)) (Bool true) (Int (pos 1)) (Obj 2) (Obj 3) (Obj 4)))
number_for_a_reference = refl

-- a `mut` field that leads into another region, or to a frozen object
mut_into_another_region : Unfit (with_second (an_a (Region 0) (Int (pos 0)) (Bool false) (Obj 2) Nil Nil Nil))
mut_into_another_region = refl

mut_to_a_frozen_object : Unfit (with_second (an_a (Region 0) (Int (pos 0)) (Bool false) (Obj 3) Nil Nil Nil))
mut_to_a_frozen_object = refl

-- an `iso` field that leads into its own region, or to a frozen object
iso_into_its_own_region : Unfit (with_second (an_a (Region 0) (Int (pos 0)) (Bool false) Nil (Obj 0) Nil Nil))
iso_into_its_own_region = refl

iso_to_a_frozen_object : Unfit (with_second (an_a (Region 0) (Int (pos 0)) (Bool false) Nil (Obj 3) Nil Nil))
iso_to_a_frozen_object = refl

-- an `imm` field that leads to an object that isn't frozen
imm_into_its_own_region : Unfit (with_second (an_a (Region 0) (Int (pos 0)) (Bool false) Nil Nil (Obj 0) Nil))
imm_into_its_own_region = refl

imm_into_another_region : Unfit (with_second (an_a (Region 0) (Int (pos 0)) (Bool false) Nil Nil (Obj 2) Nil))
imm_into_another_region = refl

-- a field of a frozen object that leads to one that isn't frozen
frozen_into_a_region : Unfit (with_frozen (an_a Frozen (Int (pos 0)) (Bool false) (Obj 0) Nil Nil Nil))
frozen_into_a_region = refl

frozen_owns : Unfit (with_frozen (an_a Frozen (Int (pos 0)) (Bool false) Nil (Obj 2) Nil Nil))
frozen_owns = refl

-- an object of another class, also where it is frozen, and one that isn't there
another_class : Unfit (with_second (an_a (Region 0) (Int (pos 0)) (Bool false) (Obj 4) Nil Nil Nil))
another_class = refl

another_class_frozen : Unfit (with_frozen (an_a Frozen (Int (pos 0)) (Bool false) Nil Nil Nil (Obj 3)))
another_class_frozen = refl

no_object : Unfit (with_second (an_a (Region 0) (Int (pos 0)) (Bool false) (Obj 5) Nil Nil Nil))
no_object = refl

-- a value less, and one more
one_value_less : Unfit (with_second (record second { fields = Int (pos 0) ∷ Bool false ∷ Nil ∷ Nil ∷ Nil ∷ [] }))
one_value_less = refl

one_value_more : Unfit (with_second (record second { fields = Int (pos 0) ∷ Bool false ∷ Nil ∷ Nil ∷ Nil ∷ Nil ∷ Nil ∷ [] }))
one_value_more = refl

-- a class that isn't there, a tmp class, and a temporary of an ordinary one
no_class : Unfit (with_second (record second { class = 4 }))
no_class = refl

tmp_class : Unfit (with_second (record { class = 2; label = Region 0; fields = Int (pos 0) ∷ [] }))
tmp_class = refl

tmp_class_of_the_bridge : Unfit (record { cells = record { class = 2; label = Region 0; fields = Int (pos 0) ∷ [] } ∷ []; managers = manager.Arena ∷ [] })
tmp_class_of_the_bridge = refl

temporary : Unfit (with_second (an_a (Temp 0) (Int (pos 0)) (Bool false) Nil Nil Nil Nil))
temporary = refl

-- elements: a number, one that leads into another region, and one of another class
element_of_another_kind : Unfit (with_row (elements (Obj 0 ∷ Int (pos 1) ∷ [])))
element_of_another_kind = refl

element_into_another_region : Unfit (with_row (elements (Obj 2 ∷ [])))
element_into_another_region = refl

element_of_another_class : Unfit (with_row (elements (Obj 4 ∷ [])))
element_of_another_class = refl

-- no elements are enough
no_elements : TypedCargo classes (with_row (elements []))
no_elements = refl

-- an array of `iso` elements owns nothing, and isn't there
iso_elements : Unfit (with_row (record { class = 3; label = Region 0; fields = [] }))
iso_elements = refl
