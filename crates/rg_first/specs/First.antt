-- The object of a behaviour in the states of its run (docs/architecture.md, "How a behaviour begins").
use Rattle.std.specs.Prelude.{◌≡◌, ℕ, List, length, Some, slice_get}
use Rattle.rg_base.specs.declared.object.Label.TheVariants.{Region}
use Rattle.rg_base.specs.declared.object.Seen.{Seen}
use Rattle.rg_tree.specs.Tree.{Class, Tree}
use Rattle.rg_rules.specs.Types.{fields_of}
use Rattle.rg_rules.specs.State.{State}
use Rattle.rg_sound.specs.Fit.{Fit}

-- the first object of the store is of a class, with as many values as the class has fields, and lies in region 0
pub record IsFirst (classes : List Class) (class : ℕ) (s : State) : Type 0 where
  pub object : Seen
  pub there : slice_get s.store 0 ≡ Some object
  pub class_is : object.class ≡ class
  pub label_is : object.label ≡ Region 0
  pub many : length object.fields ≡ length (fields_of classes class)

-- a state of a behaviour of a class: it fits the program, and the behaviour's object is the first one
pub record IsOfBehaviour (t : Tree) (class : ℕ) (s : State) : Type 0 where
  pub fit : Fit t s
  pub first : IsFirst t.classes class s
