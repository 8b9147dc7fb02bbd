-- What holds of the machine in front of each instruction, and what then holds where its walk ends: said of any two such facts.
use Rattle.std.proofs.Common.{◌≡◌, ℕ, zero, suc, ◌+◌, true, false, Bool as Truth, if◌then◌else◌, List, [], ◌∷◌, Result, Ok, Err, refl, length, Option, Some, None}
use Rattle.std.specs.Prelude.{nat_lt}
use Rattle.rg_base.specs.Input.{NextNumber, found, malformed, at_end}
use Rattle.rg_base.specs.declared.outcome.Trap.{Trap}
use Rattle.rg_base.specs.declared.outcome.Trap.TheVariants as trap
use Rattle.rg_base.specs.declared.value.Val.{Val}
use Rattle.rg_tree.specs.declared.rows.BinOp.{BinOp}
use Rattle.rg_rules.specs.Values.{Computed, operate}
use Rattle.rg_code.specs.declared.code.Entry.{Entry}
use Rattle.rg_code.specs.declared.op.Op.{Op}
use Rattle.rg_code.specs.Code.{Code}
use Rattle.rg_stack.specs.Machine.{Frame, Machine, top_slots, place_of, slots_below}
use Rattle.rg_stack.specs.Effects.{Walked, Stops, Returns, Traps, Stuck, Go, Act, walk_by, on_top, on_two, pushed, next_taken, opens_at}
use Rattle.rg_stack.specs.Tops.{Work}
use Rattle.rg_stack.specs.Effects.{begins_by, called, returned}

-- a walk that is stuck or traps needs nothing, and the input may be read
pub record Kept (Now : Work → Type 0) (Ending : Walked → Type 0) : Type 0 where
  pub stuck : Ending Stuck
  pub traps : (t : Trap) → Ending (Traps t)
  pub read : (w : Work) (rest : List ℕ) → Now w → Now (record w { input = rest })

-- what holds of what a walk works on holds where it ends
abbrev pub Ending : (Now : Work → Type 0) → Walked → Type 0
Ending Now (Stops at w) = Now w
Ending Now (Returns back stack w) = Now w
Ending Now (Traps t) = Unit {0}
Ending Now Stuck = Unit {0}

-- how a walk goes on
abbrev pub Onward : (Now : Work → Type 0) (Ending : Walked → Type 0) → Go → Type 0
Onward Now Ending go = (skip : ℕ) (stack : List Val) (w : Work) → Now w → Ending (go skip stack w)

module _ {Now : Work → Type 0} {Ending : Walked → Type 0} (k : Kept Now Ending) where
  pub on-top : (stack : List Val) (go : Val → List Val → Walked) → ((v : Val) (rest : List Val) → Ending (go v rest)) → Ending (on_top stack go)
  on-top [] go h = k.stuck
  on-top (v ∷ rest) go h = h v rest

  pub on-object : {A : Type 0} (r : Result A Trap) (go : A → Walked) → ((o : A) → r ≡ Ok o → Ending (go o))
      → Ending (elim r [ Ok o ↦ go o | Err t ↦ Traps t ])
  on-object (Ok o) go h = h o refl
  on-object (Err t) go h = k.traps t

  pub on-test : (t : Truth) (x y : Walked) → Ending x → Ending y → Ending (if t then x else y)
  on-test true x y h other = h
  on-test false x y h other = other

  pub on-pushed : (c : Computed) (go : Go) (stack : List Val) (w : Work) → Onward Now Ending go → Now w → Ending (pushed c go stack w)
  on-pushed (Ok v) go stack w h now = h 0 (v ∷ stack) w now
  on-pushed (Err t) go stack w h now = k.traps t

  pub on-two : (o : BinOp) (go : Go) (stack : List Val) (w : Work) → Onward Now Ending go → Now w → Ending (on_two o go stack w)
  on-two o go [] w h now = k.stuck
  on-two o go (y ∷ []) w h now = k.stuck
  on-two o go (y ∷ x ∷ stack) w h now = on-pushed (operate o x y) go stack w h now

  pub on-number : (n : NextNumber) (go : Go) (stack : List Val) (w : Work) → Onward Now Ending go → Now w → Ending (next_taken n go stack w)
  on-number (found z rest) go stack w h now = h 0 _ _ (k.read w rest now)
  on-number malformed go stack w h now = k.traps trap.Input
  on-number at_end go stack w h now = k.traps trap.End

  pub on-opened : (m : Machine) (z : ℕ) (x : Walked) → Ending x → Ending (opens_at m z x)
  on-opened m z x h =
      let inner = begins_by m.windows (place_of m.frames z) in
      on-test (nat_lt z (length (top_slots m.frames))) (if inner then x else Stuck) Stuck (on-test inner x Stuck h k.stuck) k.stuck

  -- where each instruction keeps it, a walk does
  pub on-walk : (each : Act) (code : Code)
      → ((at : ℕ) (o : Op) (go : Go) (stack : List Val) (w : Work) → Onward Now Ending go → Now w → Ending (each code at o go stack w))
      → (os : List Op) (at : ℕ) → Onward Now Ending (walk_by each code os at)
  on-walk each code h [] at skip stack w now = k.stuck
  on-walk each code h (o ∷ os) at zero stack w now = h at o (walk_by each code os (at + 1)) stack w (on-walk each code h os (at + 1)) now
  on-walk each code h (o ∷ os) at (suc n) stack w now = on-walk each code h os (at + 1) n stack w now

-- what speaks of neither the input nor frames
module _ (Now : Work → Type 0) (read : (w : Work) (rest : List ℕ) → Now w → Now (record w { input = rest }))
    (framed : (w : Work) (fs : List Frame) → Now w → Now (record w { machine = record w.machine { frames = fs } })) where
  pub ending-kept : Kept Now (Ending Now)
  ending-kept = record { stuck = tt; traps = λ t. tt; read = read }

  pub on-called : (at : ℕ) (e : Option Entry) (stack : List Val) (w : Work) → Now w → Ending Now (called at e stack w)
  on-called at None stack w now = tt
  on-called at (Some e) stack w now = framed w _ now

  pub on-returned : (w : Work) (fs : List Frame) (stack : List Val) → Now w → Ending Now (returned w fs stack)
  on-returned w [] stack now = tt
  on-returned w (f ∷ []) stack now = tt
  on-returned w (f ∷ g ∷ fs) stack now =
      on-test ending-kept (begins_by w.machine.windows (slots_below (g ∷ fs))) _ Stuck (framed w (g ∷ fs) now) tt
