-- What cowns have at rest, and with what a behaviour begins (docs/architecture.md, "Schedules").
use Rattle.std.specs.Prelude.{◌≡◌, ℕ, List, Some, slice_get, slice_index_or}
use Rattle.rg_base.specs.declared.words.Cap.TheVariants.{Iso}
use Rattle.rg_base.specs.declared.ty.Ty.TheVariants.{Ref}
use Rattle.rg_tree.specs.Tree.{Method, Tree}
use Rattle.rg_code.specs.Lowering.{method_number}
use Rattle.rg_cown.specs.Cargo.{CargoList}
use Rattle.rg_opening.specs.declared.given.Given.{Given}
use Rattle.rg_opening.specs.Beginning.{MayOwn, MayBegin}
use Rattle.rg_plan.specs.declared.cown.Cown.{Cown}
use Rattle.rg_plan.specs.declared.cown.Start.TheVariants.{Image}
use Rattle.rg_plan.specs.Plans.{Turn as Behaviour}
use Rattle.rg_sched_atomic.specs.Contents.{Content, Empty, Held}
use Rattle.rg_sched_atomic.specs.Behaviours.{all_methods}

-- the content of each image is one that a field `iso C` may own, where the line says `load C ..`
abbrev pub ImagesMayBeOwned : Tree → List Cown → (images : List CargoList) → Type 0
ImagesMayBeOwned t cowns images = (n : ℕ) (c : Cown) (name : List ℕ) (x : CargoList) → slice_get cowns n ≡ Some c → c.start ≡ Image name
    → slice_get images n ≡ Some x → MayOwn t (Ref Iso c.class) x

-- what each cown has at rest is a content that a field `iso C` may own, where C is the cown's class
abbrev pub RestMayBeOwned : Tree → List Cown → List Content → Type 0
RestMayBeOwned t cowns contents = (n : ℕ) (c : Cown) (x : CargoList) → slice_get cowns n ≡ Some c → slice_index_or contents n Empty ≡ Held x
    → MayOwn t (Ref Iso c.class) x

-- a behaviour may begin so, with the method of its number, which is that of a name in its class
pub record IsReady (t : Tree) (b : Behaviour) (given : List Given) : Type 0 where
  pub method : Method
  pub method_is : slice_get (all_methods t.classes) b.method ≡ Some method
  pub may : MayBegin t b.class method given
  pub number : method_number t.classes b.class may.name ≡ b.method
