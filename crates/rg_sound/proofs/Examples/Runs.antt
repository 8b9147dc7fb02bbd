-- All states of a real run fit, computed; and false states are refused, each by the part that is meant.
use Rattle.std.proofs.Common.{◌≡◌, refl, ℕ, List, [], ◌∷◌, Some, None, Option, slice_get, slice_set}
use Rattle.rg_base.specs.declared.object.Label.{Label}
use Rattle.rg_base.specs.declared.object.Label.TheVariants as label
use Rattle.rg_base.specs.declared.object.Place.{Place}
use Rattle.rg_base.specs.declared.object.Place.TheVariants as place
use Rattle.rg_base.specs.declared.object.Seen.{Seen}
use Rattle.rg_base.specs.declared.value.Val.{Val}
use Rattle.rg_base.specs.declared.value.Val.TheVariants as val
use Rattle.rg_rules.specs.Acceptance.{first_fault}
use Rattle.rg_rules.specs.Items.{EndAt}
use Rattle.rg_rules.specs.State.{Frame, Window, State, active}
use Rattle.rg_rules.specs.Regions.{region_at}
use Rattle.rg_rules.specs.Owners.{live}
use Rattle.rg_rules.specs.Runs.{Done, plain_from, plain, opening}
use Rattle.rg_sound.specs.LocalRoots.{bridge}
use Rattle.rg_sound.proofs.Examples.Programs.{all_kinds}
use Rattle.rg_sound.proofs.Examples.Twin.{looked_at, fails}

pub accepted : first_fault all_kinds ≡ None
accepted = refl

-- all 41 states of the run fit
each : looked_at all_kinds 40 (opening all_kinds []) ≡ (41, 0)
each = refl

ends : (plain all_kinds [] 60).ending ≡ Done
unfolding plain_from
ends = refl

-- the state after so many steps
abbrev pub at : ℕ → State
at k = (plain all_kinds [] k).state

-- False states

-- the first two windows with each other's bases
abbrev bases_swapped : List Window → List Window
bases_swapped [] = []
bases_swapped (w ∷ []) = w ∷ []
bases_swapped (w ∷ v ∷ ws) = record w { base_place = v.base_place } ∷ record v { base_place = w.base_place } ∷ ws

bases-cross : fails all_kinds (record (at 15) { windows = bases_swapped (at 15).windows }) ≡ 1 ∷ 2 ∷ []
unfolding plain_from
bases-cross = refl

-- the topmost window with another owner
abbrev owned_by : Option Place → List Window → List Window
owned_by o [] = []
owned_by o (w ∷ ws) = record w { owner = o } ∷ ws

another_owner : fails all_kinds (record (at 8) { windows = owned_by (Some (place.Var 0 2)) (at 8).windows }) ≡ 1 ∷ 4 ∷ []
unfolding plain_from
another_owner = refl

-- a variable with another value
abbrev pub with_value : ℕ → Val → List Frame → List Frame
with_value i v [] = []
with_value i v (f ∷ fs) = elim (slice_get f.locals i) [
  | None ↦ f ∷ fs
  | Some l ↦
      record f { locals = slice_set f.locals i (record l { value = v }) } ∷ fs
]

-- after `swap y, a.down` the variable has the old reference still
two_owners : fails all_kinds (record (at 4) { frames = with_value 2 (val.Obj 2) (at 4).frames }) ≡ 5 ∷ []
unfolding plain_from
two_owners = refl

-- a `mut` variable leads into another region
other_region : fails all_kinds (record (at 4) { frames = with_value 0 (val.Obj 1) (at 4).frames }) ≡ 2 ∷ []
unfolding plain_from
other_region = refl

-- an entered variable that is assigned to has lost its window's region
lent_assigned : fails all_kinds (record (at 9) { frames = with_value 1 val.Nil (at 9).frames }) ≡ 4 ∷ []
unfolding plain_from
lent_assigned = refl

-- a region that was frozen without those beneath it
abbrev pub label_at : ℕ → Label → List Seen → List Seen
label_at a l store = elim (slice_get store a) [ None ↦ store | Some o ↦ slice_set store a (record o { label = l }) ]

frozen_alone : fails all_kinds (record (at 35) { store = label_at 4 (label.Region 3) (at 35).store }) ≡ 3 ∷ []
unfolding plain_from
frozen_alone = refl

-- an item too many
item_left : fails all_kinds (record (at 40) { items = EndAt 0 ∷ [] }) ≡ 1 ∷ []
unfolding plain_from
item_left = refl

items_wrong : fails all_kinds (record (at 4) { items = EndAt 0 ∷ (at 4).items }) ≡ 1 ∷ []
unfolding plain_from
items_wrong = refl

-- main's body is done, and a variable is left
variable_left : fails all_kinds (record (at 39) { items = [] }) ≡ 1 ∷ []
unfolding plain_from
variable_left = refl

-- a window's number was not given
number_not_given : fails all_kinds (record (at 9) { windows_made = 1 }) ≡ 6 ∷ []
unfolding plain_from
number_not_given = refl

-- Live regions

-- region 2 hangs beneath region 0, and a variable owns region 1
lives-first : live all_kinds.classes (at 4) ≡ 0 ∷ 1 ∷ 2 ∷ []
unfolding plain_from
lives-first = refl

-- two regions are frozen, and what a temporary of an ended window owned isn't live
lives-later : live all_kinds.classes (at 35) ≡ 0 ∷ 2 ∷ []
unfolding plain_from
lives-later = refl

-- The bridge

-- where windows are open the owner reference of the topmost one leads to the bridge
bridge-inner : bridge all_kinds.classes (at 15) ≡ Some 4
unfolding plain_from
bridge-inner = refl

-- it is of the active region, which is region 3
bridge-active : region_at (at 15).store 4 ≡ Some (active (at 15).windows)
unfolding plain_from
bridge-active = refl

-- the first region has no bridge
bridge-first : bridge all_kinds.classes (at 4) ≡ None
unfolding plain_from
bridge-first = refl
