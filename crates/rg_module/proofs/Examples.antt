-- Modules and their bytes, computed.
use Rattle.std.proofs.Common.{◌≡◌, ℕ, pos, negsuc, true, false, List, [], ◌∷◌, length, Some, None, slice_get, refl}
use Rattle.rg_base.specs.declared.words.Cap.TheVariants as cap
use Rattle.rg_base.specs.declared.words.Manager.TheVariants as managers
use Rattle.rg_base.specs.declared.ty.Ty.TheVariants as ty
use Rattle.rg_base.specs.declared.value.Word.TheVariants as word
use Rattle.rg_code.specs.declared.op.Op.{Op}
use Rattle.rg_code.specs.declared.op.Op.TheVariants as i
use Rattle.rg_spell.specs.declared.rows.Shape.{Shape}
use Rattle.rg_spell.specs.declared.rows.Head.{Head}
use Rattle.std.specs.List.{flat_map}
use Rattle.rg_spell.specs.Spelling.{op_bytes}
use Rattle.rg_module.specs.Parts.{Parts}
use Rattle.rg_module.specs.Follows.{code_for}
use Rattle.rg_module.specs.Spelling.{spelling}

-- `main arena { print 7; }`, on one line

abbrev seven_ops : List Op
seven_ops = i.Mark 1 ∷ i.Int (pos 7) ∷ i.Print ∷ i.Mark 1 ∷ i.End 0 ∷ i.Halt ∷ []

abbrev seven : Parts
seven = record { manager = managers.Arena; classes = []; methods = []; code = code_for [] [] seven_ops; maps = [] ∷ [] ∷ [] ∷ [] ∷ [] ∷ [] ∷ [] }

-- its bytes: what stands at the front, the manager, three counts with what they count, and the instructions
abbrev seven_bytes : List ℕ
seven_bytes =
    82 ∷ 71 ∷ 77 ∷ 49 ∷ 0 ∷ 0 ∷ 0 ∷ 0 ∷ 0 ∷ 0 ∷ 0 ∷ 0 ∷ 0 ∷ 0 ∷ 0 ∷ 0 ∷ 6
    ∷ 0 ∷ 0 ∷ 0 ∷ 0 ∷ 0 ∷ 0 ∷ 0 ∷ 0 ∷ 1 ∷ 0 ∷ 0 ∷ 0 ∷ 0
    ∷ 1 ∷ 0 ∷ 0 ∷ 0 ∷ 0 ∷ 0 ∷ 0 ∷ 0 ∷ 7
    ∷ 46
    ∷ 0 ∷ 0 ∷ 0 ∷ 0 ∷ 0 ∷ 0 ∷ 0 ∷ 0 ∷ 1 ∷ 0 ∷ 0 ∷ 0 ∷ 0
    ∷ 45 ∷ 0 ∷ 0 ∷ 0 ∷ 0
    ∷ 50 ∷ []

seven-spells : spelling seven ≡ seven_bytes
seven-spells = refl

-- they are 59, and `print` is the one at 39
seven-length : (length seven_bytes ≡ 59) × (slice_get seven_bytes 39 ≡ Some 46)
seven-length = (refl, refl)

-- A class, an array class, a method of one parameter with a result; main's body and the method's

abbrev rich_ops : List Op
rich_ops =
    i.Mark 4 ∷ i.NewIso 0 managers.Trace ∷ i.Store 0 ∷ i.Mark 4 ∷ i.End 0 ∷ i.Halt
    ∷ i.Mark 2 ∷ i.Int (negsuc 1) ∷ i.Bool true ∷ i.Pop ∷ i.Swap 3 1 ∷ i.JumpFalse 2 ∷ i.Ret ∷ []

abbrev rich_classes : List Shape
rich_classes =
    record { is_tmp = false; fields = ty.Int ∷ ty.Bool ∷ ty.Ref cap.Iso 0 ∷ []; element = None }
    ∷ record { is_tmp = true; fields = []; element = Some (ty.Ref cap.Paused 0) } ∷ []

abbrev rich_heads : List Head
rich_heads = record { class = 0; cap = cap.Mut; params = ty.Int ∷ []; result = Some ty.Int } ∷ []

abbrev rich : Parts
rich = record {
  manager = managers.Trace;
  classes = rich_classes;
  methods = rich_heads;
  code = code_for rich_classes rich_heads rich_ops;
  maps = [] ∷ [] ∷ [] ∷ (ty.Ref cap.Iso 0 ∷ []) ∷ [] ∷ [] ∷ (ty.Ref cap.Mut 0 ∷ ty.Int ∷ []) ∷ [] ∷ [] ∷ [] ∷ [] ∷ [] ∷ [] ∷ [];
}

-- what follows: how the classes open, where the method begins, and the slots of both bodies
rich-follows : (rich.code.openings ≡ (word.Int (pos 0) ∷ word.Bool false ∷ word.Nil ∷ []) ∷ (word.Nil ∷ []) ∷ [])
    × (rich.code.entries ≡ record { at = 6; given = 2; slots = 4 } ∷ []) × (rich.code.main_slots ≡ 1)
rich-follows = (refl, refl, refl)

abbrev rich_bytes : List ℕ
rich_bytes =
    82 ∷ 71 ∷ 77 ∷ 49 ∷ 2
    ∷ 0 ∷ 0 ∷ 0 ∷ 2
    ∷ 0 ∷ 0 ∷ 0 ∷ 0 ∷ 0 ∷ 3 ∷ 0 ∷ 1 ∷ 6 ∷ 0 ∷ 0 ∷ 0 ∷ 0
    ∷ 1 ∷ 1 ∷ 4 ∷ 0 ∷ 0 ∷ 0 ∷ 0
    ∷ 0 ∷ 0 ∷ 0 ∷ 1
    ∷ 0 ∷ 0 ∷ 0 ∷ 0 ∷ 2 ∷ 0 ∷ 0 ∷ 0 ∷ 1 ∷ 0 ∷ 1 ∷ 0
    ∷ 0 ∷ 0 ∷ 0 ∷ 13
    ∷ 0 ∷ 0 ∷ 0 ∷ 0 ∷ 0 ∷ 0 ∷ 0 ∷ 0 ∷ 4 ∷ 0 ∷ 0 ∷ 0 ∷ 0
    ∷ 30 ∷ 0 ∷ 0 ∷ 0 ∷ 0 ∷ 2
    ∷ 6 ∷ 0 ∷ 0 ∷ 0 ∷ 0
    ∷ 0 ∷ 0 ∷ 0 ∷ 0 ∷ 0 ∷ 0 ∷ 0 ∷ 0 ∷ 4 ∷ 0 ∷ 0 ∷ 0 ∷ 1 ∷ 6 ∷ 0 ∷ 0 ∷ 0 ∷ 0
    ∷ 45 ∷ 0 ∷ 0 ∷ 0 ∷ 0
    ∷ 50
    ∷ 0 ∷ 0 ∷ 0 ∷ 0 ∷ 0 ∷ 0 ∷ 0 ∷ 0 ∷ 2 ∷ 0 ∷ 0 ∷ 0 ∷ 2 ∷ 2 ∷ 0 ∷ 0 ∷ 0 ∷ 0 ∷ 0
    ∷ 1 ∷ 255 ∷ 255 ∷ 255 ∷ 255 ∷ 255 ∷ 255 ∷ 255 ∷ 254
    ∷ 2 ∷ 1
    ∷ 48
    ∷ 33 ∷ 0 ∷ 0 ∷ 0 ∷ 3 ∷ 0 ∷ 0 ∷ 0 ∷ 1
    ∷ 24 ∷ 0 ∷ 0 ∷ 0 ∷ 2
    ∷ 40 ∷ []

rich-spells : spelling rich ≡ rich_bytes
rich-spells = refl

-- The instructions of arrays, and the one that gives a window's bridge

abbrev array_ops : List Op
array_ops =
    i.NewArray 1 ∷ i.NewTmpArray 2 ∷ i.NewIsoArray 3 managers.Count ∷ i.Size ∷ i.Bound ∷ i.Element ∷ i.PutElement ∷ i.LeaveGiving 4 256 ∷ []

array-bytes : flat_map op_bytes array_ops
    ≡ 51 ∷ 0 ∷ 0 ∷ 0 ∷ 1
    ∷ 52 ∷ 0 ∷ 0 ∷ 0 ∷ 2
    ∷ 53 ∷ 0 ∷ 0 ∷ 0 ∷ 3 ∷ 1
    ∷ 54 ∷ 55 ∷ 56 ∷ 57
    ∷ 58 ∷ 0 ∷ 0 ∷ 0 ∷ 4 ∷ 0 ∷ 0 ∷ 1 ∷ 0 ∷ []
array-bytes = refl
