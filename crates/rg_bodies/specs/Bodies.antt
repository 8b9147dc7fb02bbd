-- Bodies raised from the code of a module (docs/architecture.md, "Modules"). Main's stands first, those of the methods behind it in order of
-- their numbers, each from where the one in front of it ends; where the last one ends, the code ends.
use Rattle.std.specs.Prelude.{ℕ, suc, ◌==◌, List, [], ◌∷◌, length, Option, Some, None}
use Rattle.rg_base.specs.declared.ty.Ty.{Ty}
use Rattle.rg_base.specs.declared.ty.Ty.TheVariants as ty
use Rattle.rg_code.specs.declared.op.Op.{Op}
use Rattle.rg_code.specs.declared.op.Op.TheVariants as i
use Rattle.rg_spell.specs.declared.rows.Head.{Head}
use Rattle.rg_verify_expressions.specs.Signs.{mark_of, end_of}
use Rattle.rg_verify_expressions.specs.Statements.{Block}
use Rattle.rg_verify_expressions.specs.Blocks.{◌>>=◌, ◌>>◌, test, Given, Told, sign, block_told}
use Rattle.rg_verify_expressions.specs.Standing.{returns}
use Rattle.rg_classes.specs.Written.{no_line}
use Rattle.rg_bodies.specs.declared.ending.Ending.{Ending}
use Rattle.rg_bodies.specs.declared.ending.Ending.TheVariants as ending

-- a body: its block, and the line of the mark at its end, or no line where no mark stands there
pub record RaisedBody : Type 0 where
  pub block : Block
  pub line : ℕ

-- the bodies of main and of the methods, in order of their numbers
pub record Bodies : Type 0 where
  pub main : RaisedBody
  pub methods : List RaisedBody

-- the types of the variables in front of a method's body: the receiver, and then the parameters
abbrev pub types_in_front : Head → List Ty
types_in_front h = ty.Ref h.cap h.class ∷ h.params

-- how the body of a method ends, by its result
abbrev pub ending_by : (result : Option Ty) → Ending
ending_by None = ending.Plain
ending_by (Some t) = ending.Giving

-- the end of a run
abbrev pub halt_of : Op → Option (Unit {0})
halt_of i.Halt = Some tt
halt_of o = None

-- the end of a call without a result
abbrev pub return_void_of : Op → Option (Unit {0})
return_void_of i.RetVoid = Some tt
return_void_of o = None

-- the end of main: the line of its mark, and the address behind it
abbrev pub main_end : (ops : List Op) → (at : ℕ) → Told ℕ
main_end ops at = do
  line ← sign mark_of ops at
  slot ← sign end_of ops (suc at)
  test (slot == 0)
  sign halt_of ops (suc (suc at))
  Some (line, suc (suc (suc at)))

-- so that of a method without a result
abbrev pub plain_end : (ops : List Op) → (at : ℕ) → Told ℕ
plain_end ops at = do
  line ← sign mark_of ops at
  sign return_void_of ops (suc at)
  Some (line, suc (suc at))

-- the end of a body behind its block; that of a method with a result has to end by a `return`, and nothing stands behind it
abbrev pub end_told : (ops : List Op) → Ending → Block → (at : ℕ) → Told ℕ
end_told ops ending.Main b at = main_end ops at
end_told ops ending.Plain b at = plain_end ops at
end_told ops ending.Giving b at = do
  test (returns b)
  Some (no_line, at)

-- the body that begins at an address, behind variables of these types; blocks stand in it so deep at most
abbrev pub body_told : Given → (depth : ℕ) → (types : List Ty) → Ending → (at : ℕ) → Told RaisedBody
body_told g d types e at = do
  b ← block_told g d types at
  end ← end_told g.ops e b.0 b.1
  Some (record { block = b.0; line = end.0 }, end.1)

-- the body of a method
abbrev pub method_told : Given → (depth : ℕ) → Head → (at : ℕ) → Told RaisedBody
method_told g d h at = body_told g d (types_in_front h) (ending_by h.result) at

-- the bodies of methods, from an address on, up to the end of the code
abbrev pub methods_told : Given → (depth : ℕ) → List Head → (at : ℕ) → Option (List RaisedBody)
methods_told g d [] at = do
  test (at == length g.ops)
  Some []
methods_told g d (h ∷ hs) at = do
  b ← method_told g d h at
  bs ← methods_told g d hs b.1
  Some (b.0 ∷ bs)

-- all bodies of a module, from its code and the heads of its methods
abbrev pub bodies_told : Given → (depth : ℕ) → List Head → Option Bodies
bodies_told g d hs = do
  main ← body_told g d [] ending.Main 0
  methods ← methods_told g d hs main.1
  Some (record { main = main.0; methods = methods })
