-- The instructions of statements (docs/architecture.md, "Modules").
use Rattle.std.specs.Prelude.{ℕ, Bool as Truth, true, false, Option, Some, None}
use Rattle.rg_code.specs.declared.op.Op.{Op}
use Rattle.rg_code.specs.declared.op.Op.TheVariants as i
use Rattle.rg_verify_expressions.specs.declared.signs.Making.{Making}
use Rattle.rg_verify_expressions.specs.declared.signs.Making.TheVariants as making
use Rattle.rg_verify_expressions.specs.declared.signs.Target.{Target}
use Rattle.rg_verify_expressions.specs.declared.signs.Target.TheVariants as target
use Rattle.rg_verify_expressions.specs.declared.signs.Close.{Close}
use Rattle.rg_verify_expressions.specs.declared.signs.Close.TheVariants as close
use Rattle.rg_verify_expressions.specs.declared.signs.Open.{Open}
use Rattle.rg_verify_expressions.specs.declared.signs.Open.TheVariants as opens
use Rattle.rg_verify_expressions.specs.declared.signs.Walk.{Walk}
use Rattle.rg_verify_expressions.specs.declared.signs.Walk.TheVariants as walk
use Rattle.rg_verify_expressions.specs.declared.signs.Behind.{Behind}
use Rattle.rg_verify_expressions.specs.declared.signs.Behind.TheVariants as behind
use Rattle.rg_verify_expressions.specs.declared.signs.Leave.{Leave}

-- a right side of one instruction
abbrev pub making_of : Op → Option Making
making_of (i.New c) = Some (making.New c)
making_of (i.NewTmp c) = Some (making.NewTmp c)
making_of (i.NewIso c m) = Some (making.NewIso c m)
making_of (i.Freeze s) = Some (making.Freeze s)
making_of (i.Merge s) = Some (making.Merge s)
making_of i.Read = Some making.Read
making_of i.More = Some making.More
making_of o = None

-- how a value goes into a slot
abbrev pub target_of : Op → Option Target
target_of (i.Store s) = Some (target.Store s)
target_of (i.Own s) = Some (target.Own s)
target_of o = None

-- what stands behind a whole expression
abbrev pub close_of : Op → Option Close
close_of i.Print = Some close.Print
close_of i.Ret = Some close.Return
close_of (i.JumpFalse t) = Some (close.Test t)
close_of o = None

-- what a statement without expressions begins with
abbrev pub open_of : Op → Option Open
open_of i.Collect = Some opens.Collect
open_of (i.Enter s z) = Some (opens.Enter s z)
open_of o = None

-- what stands behind an expression that isn't a value as a whole
abbrev pub walk_of : Op → Option Walk
walk_of (i.EnterField k z) = Some (walk.Enter k z)
walk_of (i.NewArray c) = Some (walk.New c)
walk_of (i.NewTmpArray c) = Some (walk.NewTmp c)
walk_of (i.NewIsoArray c m) = Some (walk.NewIso c m)
walk_of o = None

-- what stands behind an object that was tested, and further expressions
abbrev pub behind_of : Op → Option Behind
behind_of i.Room = Some behind.Room
behind_of (i.Swap s k) = Some (behind.Swap s k)
behind_of o = None

-- the line of a mark
abbrev pub mark_of : Op → Option ℕ
mark_of (i.Mark line) = Some line
mark_of o = None

-- the slot that is cleared
abbrev pub clear_of : Op → Option ℕ
clear_of (i.Clear s) = Some s
clear_of o = None

-- the method that is called
abbrev pub call_of : Op → Option ℕ
call_of (i.Call m) = Some m
call_of o = None

-- the field that is written
abbrev pub put_of : Op → Option ℕ
put_of (i.Put k) = Some k
put_of o = None

-- an element is written
abbrev pub put_element_of : Op → Option (Unit {0})
put_element_of i.PutElement = Some tt
put_element_of o = None

-- where a jump leads
abbrev pub jump_of : Op → Option ℕ
jump_of (i.Jump t) = Some t
jump_of o = None

-- the slot from which on a block's end takes slots away
abbrev pub end_of : Op → Option ℕ
end_of (i.End s) = Some s
end_of o = None

-- how a window is left
abbrev pub leave_of : Op → Option Leave
leave_of (i.Leave s) = Some (record { slot = s; given = None })
leave_of (i.LeaveGiving w s) = Some (record { slot = s; given = Some w })
leave_of o = None

-- whether a result that nobody takes is released
abbrev pub left_of : Op → Option Truth
left_of i.Pop = Some false
left_of i.Drop = Some true
left_of o = None

-- what asks a pacer
abbrev pub pace_of : Op → Option (Unit {0})
pace_of i.Pace = Some tt
pace_of o = None

-- what ends a block, behind a mark
abbrev pub closing_of : Op → Option (Unit {0})
closing_of (i.End s) = Some tt
closing_of (i.Leave s) = Some tt
closing_of (i.LeaveGiving w s) = Some tt
closing_of i.RetVoid = Some tt
closing_of o = None
