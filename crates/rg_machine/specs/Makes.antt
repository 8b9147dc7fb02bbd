-- Which instructions make an object, and what that leaves of the slots (docs/architecture.md, "The machine").
use Rattle.std.specs.Prelude.{◌≡◌, Bool as Truth, true, false}
use Rattle.rg_code.specs.declared.op.Op.{Op}
use Rattle.rg_code.specs.declared.op.Op.TheVariants as i
use Rattle.rg_heap.specs.Parts.{Parts}
use Rattle.rg_stack.specs.Refusals.{Manner, Ends, Clears, Settles, Takes, Computes, Prepares, Calls, Chooses, Passes}
use Rattle.rg_machine.specs.declared.next.Next.{Next}
use Rattle.rg_machine.specs.declared.next.Next.TheVariants as next
use Rattle.rg_machine.specs.High.{NoneMade, OneMade}

-- whether an instruction makes an object
abbrev pub making : Op → Truth
making (i.New c) = true
making (i.NewTmp c) = true
making (i.NewIso c m) = true
making (i.NewArray c) = true
making (i.NewTmpArray c) = true
making (i.NewIsoArray c m) = true
making o = false

-- what is left of the heap by an instruction of a manner that wasn't refused, and makes an object or doesn't: one that works on the stack
-- alone leaves all
abbrev pub Made : Manner → (makes : Truth) → (old new : Parts) → Type 0
Made m true old new = OneMade old new
Made Ends false old new = NoneMade old new
Made Clears false old new = NoneMade old new
Made Settles false old new = NoneMade old new
Made Takes false old new = NoneMade old new
Made Computes false old new = new ≡ old
Made Prepares false old new = new ≡ old
Made Calls false old new = NoneMade old new
Made (Chooses t) false old new = new ≡ old
Made (Passes t) false old new = new ≡ old

-- what it did to the heap; a want of memory may have made a slot more
abbrev pub Making : Manner → (makes : Truth) → (old new : Parts) → Next → Type 0
Making m makes old new next.Memory = Unit {0}
Making m makes old new next.Lost = Unit {0}
Making m makes old new (next.Trap k) = NoneMade old new
Making m makes old new result = Made m makes old new
