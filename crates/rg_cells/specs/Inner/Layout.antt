-- The layout of a place: kinds and numbers in place of words, and fields beside (docs/architecture.md, "Cells").
use Rattle.std.specs.Prelude.{ℕ, ◌==◌, not, Bool, true, false, if◌then◌else◌, List, [], ◌∷◌, Option, Some, None, slice_index_or}
use Rattle.std.specs.Int.{cast_signed, w64}
use Rattle.rg_base.specs.declared.value.Word.{Word}
use Rattle.rg_base.specs.declared.value.Word.TheVariants as word
use Rattle.rg_base.specs.declared.object.Label.{Label}
use Rattle.rg_base.specs.declared.object.Label.TheVariants as label
use Rattle.rg_cells.specs.declared.cell.State.{State}
use Rattle.rg_cells.specs.declared.cell.State.TheVariants as state
use Rattle.rg_cells.specs.declared.cell.Kind.{Kind}
use Rattle.rg_cells.specs.declared.cell.Kind.TheVariants as kind

-- what a field of that kind and number holds
abbrev pub word_of : Kind → ℕ → Word
word_of kind.Nil n = word.Nil
word_of kind.Int n = word.Int (cast_signed w64 n)
word_of kind.Bool n = word.Bool (not (n == 0))
word_of kind.Slot n = word.Slot n
word_of kind.Absent n = word.Nil
word_of kind.Beside n = word.Nil

-- no kind but one says that there is no field
abbrev pub is_there : Kind → Bool
is_there kind.Nil = true
is_there kind.Int = true
is_there kind.Bool = true
is_there kind.Slot = true
is_there kind.Absent = false
is_there kind.Beside = true

-- the fields in the cell itself, up to the first that isn't there
abbrev pub few_of : List Kind → List ℕ → List Word
few_of [] ns = []
few_of (k ∷ ks) [] = []
few_of (k ∷ ks) (n ∷ ns) = if is_there k then word_of k n ∷ few_of ks ns else []

-- a place is free
abbrev pub is_free : State → Bool
is_free state.Free = true
is_free state.Region = false
is_free state.Temp = false
is_free state.Frozen = false
is_free state.LinkedFree = true
is_free state.LinkedRegion = false
is_free state.LinkedTemp = false
is_free state.LinkedFrozen = false

-- a place has a link
abbrev pub is_linked : State → Bool
is_linked state.Free = false
is_linked state.Region = false
is_linked state.Temp = false
is_linked state.Frozen = false
is_linked state.LinkedFree = true
is_linked state.LinkedRegion = true
is_linked state.LinkedTemp = true
is_linked state.LinkedFrozen = true

-- to what a cell of that state and number belongs
abbrev pub label_in : State → ℕ → Label
label_in state.Free n = label.Frozen
label_in state.Region n = label.Region n
label_in state.Temp n = label.Temp n
label_in state.Frozen n = label.Frozen
label_in state.LinkedFree n = label.Frozen
label_in state.LinkedRegion n = label.Region n
label_in state.LinkedTemp n = label.Temp n
label_in state.LinkedFrozen n = label.Frozen

-- the number in a label
abbrev pub number_in_label : Label → ℕ
number_in_label (label.Region n) = n
number_in_label (label.Temp n) = n
number_in_label label.Frozen = 0

-- the kind of a word
abbrev pub kind_in : Word → Kind
kind_in word.Nil = kind.Nil
kind_in (word.Int z) = kind.Int
kind_in (word.Bool b) = kind.Bool
kind_in (word.Slot s) = kind.Slot

-- all fields stand beside the cells
abbrev pub is_beside : Kind → Bool
is_beside kind.Nil = false
is_beside kind.Int = false
is_beside kind.Bool = false
is_beside kind.Slot = false
is_beside kind.Absent = false
is_beside kind.Beside = true

-- how many fields stand in a cell with fields of these kinds
abbrev pub many_of : (a b c : Kind) → ℕ
many_of a b c = if is_there a then (if is_there b then (if is_there c then 3 else 2) else 1) else 0

-- which list beside the cells has the fields, where they don't stand in the cell itself
abbrev pub index_in : List Kind → List ℕ → Option ℕ
index_in ks ns = if is_beside (slice_index_or ks 0 kind.Nil) then Some (slice_index_or ns 0 0) else None
