-- A walk of the machine that frees, in which each instruction is given what it needs, is its walk, unless it is stuck; and so is one in which
-- each passes a further test.
use Rattle.std.proofs.Common.{ℕ, true, false, Bool as Truth, if◌then◌else◌, inl, inr, List, refl, ◌∙◌}
use Rattle.rg_base.specs.declared.value.Val.{Val}
use Rattle.rg_code.specs.declared.op.Op.{Op}
use Rattle.rg_code.specs.declared.op.Op.TheVariants as i
use Rattle.rg_code.specs.Code.{Code}
use Rattle.rg_stack.specs.Machine.{Machine}
use Rattle.rg_stack.specs.Effects.{Walked, Stuck, Go, Act, walk_by}
use Rattle.rg_stack.specs.Tops.{Work}
use Rattle.rg_stack.specs.Needs.{needs}
use Rattle.rg_stack.proofs.Callers.Less.{Less, LessFrom, LessAct, SameOrLost, by-need, walk-less-by, step-less-by}
use Rattle.rg_stack.proofs.Callers.Given.{act-less}
use Rattle.rg_held.specs.Frees.{given_up, freed, forgotten, behind, free_act, free_walk, free_step, free_given_act, free_given_walk, free_given_step}

behind-less : (o : Op) (go all : Go) → LessFrom go all → LessFrom (behind o go) (behind o all)
behind-less (i.Freeze s) go all h = λ skip stack w. h skip stack (forgotten w)
behind-less (i.Merge s) go all h = λ skip stack w. h skip stack (forgotten w)
behind-less o go all h = h

free-less : LessAct free_act free_act
free-less code at o go all stack w h =
    act-less code at o (behind o go) (behind o all) stack (freed (given_up o stack w.machine) w) (behind-less o go all h)

given-less : LessAct free_given_act free_act
given-less code at o go all stack w h = by-need (needs code o stack w.machine) _ _ (free-less code at o go all stack w h)

pub walk-less : (code : Code) (os : List Op) (at : ℕ) → LessFrom (free_given_walk code os at) (free_walk code os at)
walk-less = walk-less-by free_given_act free_act given-less

-- a step in which each instruction is given what it needs is lost, or it is the step
pub step-less : (code : Code) (w : Work) → SameOrLost (free_given_step code w) (free_step code w)
step-less = step-less-by free_given_act free_act given-less

-- a test of an instruction, with the stack and the machine in front of it
abbrev pub Test : Type 0
Test = Op → List Val → Machine → Truth

-- an instruction that is given what it needs, where it passes a test
abbrev pub tested_act : Test → Act
tested_act test code at o go stack w =
    if needs code o stack w.machine then (if test o stack w.machine then free_act code at o go stack w else Stuck) else Stuck

abbrev pub tested_walk : Test → Code → List Op → (at : ℕ) → Go
tested_walk test = walk_by (tested_act test)

by-tests : (n t : Truth) (x y : Walked) → Less x y → Less (if n then (if t then x else Stuck) else Stuck) (if n then y else Stuck)
by-tests true true x y h = h
by-tests true false x y h = inl refl
by-tests false t x y h = inl refl

-- it is the walk without the test, unless it is stuck
pub tested-given : (test : Test) (code : Code) (os : List Op) (at : ℕ) → LessFrom (tested_walk test code os at) (free_given_walk code os at)
tested-given test = walk-less-by (tested_act test) free_given_act
    (λ code at o go all stack w h. by-tests (needs code o stack w.machine) (test o stack w.machine) _ _ (free-less code at o go all stack w h))

less-less : (x y z : Walked) → Less x y → Less y z → Less x z
less-less x y z (inl stuck) h = inl stuck
less-less x y z (inr same) (inl stuck) = inl (same ∙ stuck)
less-less x y z (inr same) (inr also) = inr (same ∙ also)

-- and so it is the walk
pub tested-less : (test : Test) (code : Code) (os : List Op) (at : ℕ) → LessFrom (tested_walk test code os at) (free_walk code os at)
tested-less test code os at skip stack w = less-less _ _ _ (tested-given test code os at skip stack w) (walk-less code os at skip stack w)
