-- Of two walks one does less where it is stuck, or does the same. Where instructions do, walks and steps do.
use Rattle.std.proofs.Common.{◌≡◌, ◌⊎◌, inl, inr, ℕ, zero, suc, ◌+◌, true, false, Bool as Truth, if◌then◌else◌, List, [], ◌∷◌, drop}
use Rattle.std.proofs.Common.{refl, ap, subst}
use Rattle.rg_base.specs.declared.value.Val.{Val}
use Rattle.rg_code.specs.declared.op.Op.{Op}
use Rattle.rg_code.specs.declared.op.Op.TheVariants as i
use Rattle.rg_code.specs.Code.{Code}
use Rattle.rg_stack.specs.Effects.{Walked, Stops, Returns, Traps, Stuck, Go, Act, walk_by}
use Rattle.rg_stack.specs.Tops.{Work}
use Rattle.rg_stack.specs.Runs.{Stepped, Lost, landed, finished_by, step_from_by, step_by}

-- the first is stuck, or both are the same
abbrev pub Less : Walked → Walked → Type 0
Less x y = (x ≡ Stuck) ⊎ (x ≡ y)

-- and so are walks from each stack and machine
abbrev pub LessFrom : Go → Go → Type 0
LessFrom go all = (skip : ℕ) (stack : List Val) (w : Work) → Less (go skip stack w) (all skip stack w)

-- and so is what each instruction does, where the walks that go on from it are
abbrev pub LessAct : Act → Act → Type 0
LessAct each other = (code : Code) (at : ℕ) (o : Op) (go all : Go) (stack : List Val) (w : Work) → LessFrom go all
    → Less (each code at o go stack w) (other code at o all stack w)

-- a step is lost, or both are the same
abbrev pub SameOrLost : Stepped → Stepped → Type 0
SameOrLost x y = (x ≡ Lost) ⊎ (x ≡ y)

-- where an instruction lacks what it needs, its walk is stuck
pub by-need : (t : Truth) (x y : Walked) → Less x y → Less (if t then x else Stuck) y
by-need true x y h = h
by-need false x y h = inl refl

module _ (each other : Act) (less : LessAct each other) (code : Code) where
  pub walk-less-by : (os : List Op) (at : ℕ) → LessFrom (walk_by each code os at) (walk_by other code os at)
  walk-less-by [] at skip stack w = inl refl
  walk-less-by (o ∷ os) at zero stack w =
      less code at o (walk_by each code os (at + 1)) (walk_by other code os (at + 1)) stack w (walk-less-by os (at + 1))
  walk-less-by (o ∷ os) at (suc k) stack w = walk-less-by os (at + 1) k stack w

  landed-less : (x y : Walked) → Less x y → SameOrLost (landed code x) (landed code y)
  landed-less x y (inl stuck) = inl (ap (landed code) stuck)
  landed-less x y (inr same) = inr (ap (landed code) same)

  finished-same : (line : ℕ) (x : Walked) → SameOrLost (finished_by each code line x) (finished_by other code line x)
  finished-same line (Stops at w) = inr refl
  finished-same line (Returns back stack w) = landed-less _ _ (walk-less-by (drop back code.ops) back 0 stack w)
  finished-same line (Traps t) = inr refl
  finished-same line Stuck = inl refl

  finished-less : (line : ℕ) (x y : Walked) → Less x y → SameOrLost (finished_by each code line x) (finished_by other code line y)
  finished-less line x y (inl stuck) = inl (ap (finished_by each code line) stuck)
  finished-less line x y (inr same) =
      subst (λ z. SameOrLost (finished_by each code line x) (finished_by other code line z)) same (finished-same line x)

  from-less : (w : Work) (os : List Op) → SameOrLost (step_from_by each code w os) (step_from_by other code w os)
  from-less w [] = inl refl
  from-less w (i.Mark line ∷ os) = finished-less line _ _ (walk-less-by os (w.machine.at + 1) 0 [] w)
  from-less w (o ∷ os) = inl refl

  pub step-less-by : (w : Work) → SameOrLost (step_by each code w) (step_by other code w)
  step-less-by w = from-less w (drop w.machine.at code.ops)
