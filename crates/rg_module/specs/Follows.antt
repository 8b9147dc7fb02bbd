-- What of a module's code follows from the rest: how classes open, where methods begin, and the numbers of slots
-- (docs/architecture.md, "Modules").
use Rattle.std.specs.Prelude.{ℕ, suc, ◌+◌, pos, Bool as Truth, false, true, if◌then◌else◌, List, [], ◌∷◌, map, length, drop, Option, Some, None}
use Rattle.rg_base.specs.declared.ty.Ty.{Ty}
use Rattle.rg_base.specs.declared.ty.Ty.TheVariants as ty
use Rattle.rg_base.specs.declared.value.Word.{Word}
use Rattle.rg_base.specs.declared.value.Word.TheVariants as word
use Rattle.rg_code.specs.declared.op.Op.{Op}
use Rattle.rg_code.specs.declared.op.Op.TheVariants as i
use Rattle.rg_code.specs.declared.code.Entry.{Entry}
use Rattle.rg_code.specs.Code.{Code}
use Rattle.rg_code.specs.Lowering.{slots_of}
use Rattle.rg_spell.specs.declared.rows.Shape.{Shape}
use Rattle.rg_spell.specs.declared.rows.Head.{Head}

-- the word with which a field of a type starts
abbrev pub start : Ty → Word
start ty.Int = word.Int (pos 0)
start ty.Bool = word.Bool false
start (ty.Ref cap c) = word.Nil

-- the words with which the fields of a class start, or the one with which each element of an array class does
abbrev pub opening_of : (fields : List Ty) → (element : Option Ty) → List Word
opening_of fields None = map start fields
opening_of fields (Some t) = start t ∷ []

abbrev pub opening : Shape → List Word
opening s = opening_of s.fields s.element

-- whether a body ends with an instruction
abbrev pub ends_body : Op → Truth
ends_body i.Ret = true
ends_body i.RetVoid = true
ends_body i.Halt = true
ends_body o = false

-- the body in front of instructions: up to and with the first one that ends it, or all of them
abbrev pub body : List Op → List Op
body [] = []
body (o ∷ os) = o ∷ (if ends_body o then [] else body os)

-- a method at an address, whose body is in front of the instructions
abbrev pub entry : (at : ℕ) → Head → List Op → Entry
entry at h ops = record { at = at; given = suc (length h.params); slots = slots_of (suc (length h.params)) (body ops) }

-- the methods of these heads, one body after the other, the first at an address
abbrev pub entries : (at : ℕ) → List Head → List Op → List Entry
entries at [] ops = []
entries at (h ∷ hs) ops = entry at h ops ∷ entries (at + length (body ops)) hs (drop (length (body ops)) ops)

-- the code of classes, methods and instructions, of which the first body is main's
abbrev pub code_for : List Shape → List Head → List Op → Code
code_for classes methods ops = record {
  ops = ops;
  openings = map opening classes;
  entries = entries (length (body ops)) methods (drop (length (body ops)) ops);
  main_slots = slots_of 0 (body ops);
}
