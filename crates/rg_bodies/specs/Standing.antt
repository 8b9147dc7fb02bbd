-- Bodies that have a code, by what they are and the code alone, however they are found (docs/architecture.md, "Modules").
use Rattle.std.specs.Prelude.{◌≡◌, ℕ, ◌+◌, ◌≤◌, true, List, [], ◌∷◌, ◌++◌, length, Option, Some, None}
use Rattle.std.specs.List.{AllByRecursion}
use Rattle.rg_base.specs.declared.ty.Ty.{Ty}
use Rattle.rg_code.specs.declared.op.Op.{Op}
use Rattle.rg_code.specs.declared.op.Op.TheVariants as i
use Rattle.rg_spell.specs.declared.rows.Head.{Head}
use Rattle.rg_verify_expressions.specs.Statements.{block_ops}
use Rattle.rg_verify_expressions.specs.Blocks.{Given}
use Rattle.rg_verify_expressions.specs.Standing.{block_depth, IsBlockFit, returns}
use Rattle.rg_classes.specs.Written.{no_line}
use Rattle.rg_bodies.specs.declared.ending.Ending.{Ending}
use Rattle.rg_bodies.specs.declared.ending.Ending.TheVariants as ending
use Rattle.rg_bodies.specs.Bodies.{RaisedBody, Bodies, types_in_front, ending_by, bodies_told}

-- Code

-- what stands behind the block of a body
abbrev pub end_ops : Ending → (line : ℕ) → List Op
end_ops ending.Main line = i.Mark line ∷ i.End 0 ∷ i.Halt ∷ []
end_ops ending.Plain line = i.Mark line ∷ i.RetVoid ∷ []
end_ops ending.Giving line = []

-- the code of a body, behind variables of these types
abbrev pub body_ops : (types : List Ty) → Ending → (at : ℕ) → RaisedBody → List Op
body_ops types e at b = block_ops types at b.block ++ end_ops e b.line

-- that of main's
abbrev pub main_ops : RaisedBody → List Op
main_ops b = body_ops [] ending.Main 0 b

-- that of a method's
abbrev pub method_ops : Head → (at : ℕ) → RaisedBody → List Op
method_ops h at b = body_ops (types_in_front h) (ending_by h.result) at b

-- the code of the bodies of methods, one behind another, the first at an address
abbrev pub methods_ops : List Head → (at : ℕ) → List RaisedBody → List Op
methods_ops [] at bs = []
methods_ops (h ∷ hs) at [] = []
methods_ops (h ∷ hs) at (b ∷ bs) = method_ops h at b ++ methods_ops hs (at + length (method_ops h at b)) bs

-- that of all bodies
abbrev pub bodies_ops : List Head → Bodies → List Op
bodies_ops hs x = main_ops x.main ++ methods_ops hs (length (main_ops x.main)) x.methods

-- What code doesn't tell

-- the block of a body that gives a result ends by a `return`; such a body has no mark at its end, and so no line
abbrev pub IsEndFit : Ending → RaisedBody → Type 0
IsEndFit ending.Main b = Unit {0}
IsEndFit ending.Plain b = Unit {0}
IsEndFit ending.Giving b = (returns b.block ≡ true) × (b.line ≡ no_line)

-- a body at an address
pub record IsBodyFit (g : Given) (types : List Ty) (e : Ending) (at : ℕ) (b : RaisedBody) : Type 0 where
  pub block : IsBlockFit g types at b.block
  pub end : IsEndFit e b

-- one body for each method, the first at an address
abbrev pub AreMethodsFit : Given → List Head → (at : ℕ) → List RaisedBody → Type 0
AreMethodsFit g [] at [] = Unit {0}
AreMethodsFit g [] at (b ∷ bs) = ⊥
AreMethodsFit g (h ∷ hs) at [] = ⊥
AreMethodsFit g (h ∷ hs) at (b ∷ bs) =
    IsBodyFit g (types_in_front h) (ending_by h.result) at b × AreMethodsFit g hs (at + length (method_ops h at b)) bs

-- The bodies of a module: their code is the whole code of the module.
pub record BodiesStand (g : Given) (hs : List Head) (x : Bodies) : Type 0 where
  pub code : g.ops ≡ bodies_ops hs x
  pub main : IsBodyFit g [] ending.Main 0 x.main
  pub methods : AreMethodsFit g hs (length (main_ops x.main)) x.methods

-- Depth

abbrev pub IsWithin : (depth : ℕ) → RaisedBody → Type 0
IsWithin d b = block_depth b.block ≤ d

-- blocks stand so deep at most in bodies
pub record AreWithin (d : ℕ) (x : Bodies) : Type 0 where
  pub main : IsWithin d x.main
  pub methods : AllByRecursion (IsWithin d) x.methods

-- What is told. Bodies: they have the code, are no deeper than may be, and no others that are no deeper have it. Or nothing: no bodies that are
-- no deeper have it.
abbrev pub TellsBodies : Given → (depth : ℕ) → List Head → Option Bodies → Type 0
TellsBodies g d hs None = (x : Bodies) → BodiesStand g hs x → AreWithin d x → ⊥
TellsBodies g d hs (Some x) =
    BodiesStand g hs x × AreWithin d x × ((y : Bodies) → BodiesStand g hs y → AreWithin d y → y ≡ x)

abbrev pub BodiesAreTold : Type 0
BodiesAreTold = (g : Given) (depth : ℕ) (hs : List Head) → TellsBodies g depth hs (bodies_told g depth hs)

-- bodies that have the code are told
abbrev pub StandingBodiesAreTold : Type 0
StandingBodiesAreTold =
    (g : Given) (depth : ℕ) (hs : List Head) (x : Bodies) → AreWithin depth x → BodiesStand g hs x → bodies_told g depth hs ≡ Some x

-- so at most one list of bodies has it
abbrev pub BodiesStandOnce : Type 0
BodiesStandOnce = (g : Given) (hs : List Head) (x y : Bodies) → BodiesStand g hs x → BodiesStand g hs y → x ≡ y
