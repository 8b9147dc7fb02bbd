-- The laws: what an instruction, a walk, a step and a run of the machine that frees do beside those over the growing store (docs/architecture.md,
-- "The stack machine").
use Rattle.std.specs.Prelude.{◌≡◌, ℕ, ◌+◌, ◌-◌, Bool as Truth, true, false, ◌||◌, not, List, [], drop, None}
use Rattle.rg_base.specs.declared.value.Val.{Val}
use Rattle.rg_tree.specs.Tree.{Tree}
use Rattle.rg_rules.specs.Acceptance.{Accepted}
use Rattle.rg_rules.specs.State.{State}
use Rattle.rg_sound.specs.Fit.{Fit}
use Rattle.rg_code.specs.declared.op.Op.{Op}
use Rattle.rg_code.specs.Code.{Code}
use Rattle.rg_code.specs.Lowering.{Lowers}
use Rattle.rg_stack.specs.Effects.{Go, act}
use Rattle.rg_stack.specs.Tops.{Work}
use Rattle.rg_stack.specs.Runs.{Lost, step, coded}
use Rattle.rg_stack.specs.Simulates.{Holds}
use Rattle.rg_stack.specs.Left.{SomeLeft}
use Rattle.rg_stack.specs.Needs.{needs}
use Rattle.rg_stack.specs.Refusals.{Manner, Ends, Clears, Settles, Takes, Computes, Prepares, Calls, Chooses, Passes, manner, calm, orderly}
use Rattle.rg_stack.specs.Given.{given_walk}
use Rattle.rg_held.specs.Frees.{free_act, free_walk, free_step, free_given_step, free_coded}
use Rattle.rg_held.specs.Ends.{Match, SameEnd, SameStep, SameRun}
use Rattle.rg_held.specs.Freed.{StepFrees}
use Rattle.rg_held.specs.Shown.{ShowsHeld}

-- the values that count as owners: all on the stack, behind what takes an owner reference from its place, and else none
abbrev pub owners_of : (taken : Truth) → List Val → List Val
owners_of true stack = stack
owners_of false stack = []

-- whether an instruction of a manner may stand behind what takes an owner reference from its place
abbrev pub may_follow : Manner → Truth
may_follow Ends = true
may_follow Clears = true
may_follow Settles = true
may_follow Takes = true
may_follow Computes = false
may_follow Prepares = false
may_follow Calls = true
may_follow (Chooses t) = true
may_follow (Passes t) = false

-- whether an owner reference may be taken from its place behind it
abbrev pub taken_behind : Manner → (taken : Truth) → Truth
taken_behind Ends taken = true
taken_behind Clears taken = true
taken_behind Settles taken = true
taken_behind Takes taken = true
taken_behind Computes taken = false
taken_behind Prepares taken = false
taken_behind Calls taken = true
taken_behind (Chooses t) taken = taken
taken_behind (Passes t) taken = false

-- how many instructions one of a manner may skip
abbrev pub skipped : (at : ℕ) → Manner → ℕ
skipped at Ends = 0
skipped at Clears = 0
skipped at Settles = 0
skipped at Takes = 0
skipped at Computes = 0
skipped at Prepares = 0
skipped at Calls = 0
skipped at (Chooses t) = t - (at + 1)
skipped at (Passes t) = t - (at + 1)

-- whether a walk goes on behind an instruction of a manner
abbrev pub goes_on : Manner → Truth
goes_on Ends = false
goes_on Clears = true
goes_on Settles = true
goes_on Takes = true
goes_on Computes = true
goes_on Prepares = true
goes_on Calls = false
goes_on (Chooses t) = true
goes_on (Passes t) = true

-- walks that end in the same way behind so many instructions, wherever the two machines match
abbrev pub GoesTo : (skip : ℕ) → (taken : Truth) → Go → Go → Type 0
GoesTo skip taken also go = (stack : List Val) (u w : Work) → Match (owners_of taken stack) u w stack
    → SameEnd (also skip stack u) (go skip stack w)

-- the same behind none
abbrev pub GoesOn : (taken : Truth) → Go → Go → Type 0
GoesOn taken also go = GoesTo 0 taken also go

-- what an instruction needs over the growing store, it has in the machine that frees too
abbrev pub NeedsSame : Type 0
NeedsSame = (code : Code) (o : Op) (owners stack : List Val) (u w : Work) → Match owners u w stack → needs code o stack w.machine ≡ true
    → needs code o stack u.machine ≡ true

-- an instruction that is given what it needs does the same, where the two machines match, and they match behind it
abbrev pub ActSame : Op → Type 0
ActSame o = (code : Code) (at : ℕ) (also go : Go) (taken : Truth) (stack : List Val) (u w : Work) → (may_follow (manner o) || not taken) ≡ true
    → needs code o stack w.machine ≡ true → Match (owners_of taken stack) u w stack
    → (goes_on (manner o) ≡ true → GoesOn (taken_behind (manner o) taken) also go)
    → (goes_on (manner o) ≡ true → GoesTo (skipped at (manner o)) (taken_behind (manner o) taken) also go)
    → SameEnd (free_act code at o also stack u) (act code at o go stack w)

-- so does each instruction
abbrev pub InstructionsSame : Type 0
InstructionsSame = (o : Op) → ActSame o

-- the instructions from an address on are in order, where an owner reference may have been taken from its place or not
abbrev pub InOrder : (code : List Op) → (at : ℕ) → (room taken : Truth) → List Op → Type 0
InOrder code at room true os = calm code room os ≡ true
InOrder code at room false os = orderly code at room os ≡ true

-- so a walk in which each instruction is given what it needs, and in which nothing is refused behind a change, ends in the same way
abbrev pub WalksSame : Type 0
WalksSame = (code : Code) (at : ℕ) (room taken : Truth) (stack : List Val) (u w : Work) → InOrder code.ops at room taken (drop at code.ops)
    → Match (owners_of taken stack) u w stack
    → SameEnd (free_walk code (drop at code.ops) at 0 stack u) (given_walk code (drop at code.ops) at 0 stack w)

-- so a step of an accepted program from a state that fits, where the two machines match: both go on, both end, or both trap, at the same
-- line, and they match behind it
abbrev pub StepsSame : Type 0
StepsSame = (t : Tree) (code : Code) (u w : Work) (p : State) → Accepted t → Lowers t code → Fit t p → Holds t.classes code w p
    → w.printed ≡ None → SomeLeft p.items → Match [] u w [] → SameStep (free_step code u) (step code w)

-- in such a step each instruction is given what it needs, in the machine that frees too
abbrev pub FreeGivenSame : Type 0
FreeGivenSame = (t : Tree) (code : Code) (u w : Work) (p : State) → Accepted t → Lowers t code → Fit t p → Holds t.classes code w p
    → w.printed ≡ None → SomeLeft p.items → Match [] u w []
    → (free_given_step code u ≡ free_step code u) × (free_given_step code u ≡ Lost → ⊥)

-- and so each run of an accepted program does
abbrev pub RunsSame : Type 0
RunsSame = (t : Tree) (code : Code) (input : List ℕ) (n : ℕ) → Accepted t → Lowers t code
    → SameRun (free_coded t code input n) (coded t code input n)

-- what a step frees, where the machine shows what is held of a state that fits, are temporaries of windows that end in it, and regions that
-- go in it, whatever it reads
abbrev pub StepsFree : Type 0
StepsFree = (t : Tree) (code : Code) (w : Work) (p : State) → Accepted t → Lowers t code → Fit t p → ShowsHeld t.classes code w.machine p
    → w.printed ≡ None → SomeLeft p.items → StepFrees w.machine (free_step code w)
