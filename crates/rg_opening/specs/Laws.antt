-- The laws of what a behaviour begins with, and of what it gives back (docs/architecture.md, "How a behaviour begins").
use Rattle.std.specs.Prelude.{◌≡◌, ℕ, List, Some, slice_get}
use Rattle.rg_base.specs.declared.words.Cap.TheVariants.{Iso}
use Rattle.rg_base.specs.declared.ty.Ty.TheVariants.{Ref}
use Rattle.rg_base.specs.declared.object.Label.TheVariants.{Region}
use Rattle.rg_base.specs.declared.object.Seen.{Seen}
use Rattle.rg_base.specs.declared.value.Val.TheVariants.{Obj}
use Rattle.rg_tree.specs.Tree.{Field, Method, Tree}
use Rattle.rg_rules.specs.Acceptance.{Accepted}
use Rattle.rg_rules.specs.State.{State}
use Rattle.rg_rules.specs.Types.{type_of, fields_of}
use Rattle.rg_sound.specs.Fit.{Fit}
use Rattle.rg_cown.specs.Contents.{cargo_of}
use Rattle.rg_opening.specs.declared.given.Given.{Given}
use Rattle.rg_opening.specs.Opening.{opening_of}
use Rattle.rg_opening.specs.Beginning.{MayOwn, MayBegin}

-- the state in which a behaviour of an accepted program begins fits the program
abbrev pub OpeningFits : Type 0
OpeningFits = (t : Tree) (class : ℕ) (m : Method) (given : List Given) → Accepted t → MayBegin t class m given
    → Fit t (opening_of class m given)

-- Of a state that fits, what an `iso` field of an object of a region leads to is a content that a field of this type may own: so what goes back
-- to a cown may be given to the next behaviour.
abbrev pub ContentGoesBack : Type 0
ContentGoesBack = (t : Tree) (s : State) (a k b class r : ℕ) (o : Seen) (f : Field) → Fit t s → slice_get s.store a ≡ Some o
    → o.label ≡ Region r → slice_get (fields_of t.classes o.class) k ≡ Some f → type_of t.classes f.ty ≡ Ref Iso class
    → slice_get o.fields k ≡ Some (Obj b) → MayOwn t (type_of t.classes f.ty) (cargo_of s.store s.managers b)
