-- What walks leave that may be refused: where frames go back, and what is left of the input.
use Rattle.std.proofs.Common.{◌≡◌, ◌⊎◌, inl, inr, ℕ, ◌+◌, List, [], ◌∷◌, Bool as Truth, true, false, true≢false, drop}
use Rattle.std.proofs.Common.{sym, ap, subst, ◌∙◌, arith}
use Rattle.rg_base.specs.declared.value.Val.{Val}
use Rattle.rg_code.specs.declared.op.Op.{Op}
use Rattle.rg_stack.specs.Machine.{Frame, Machine}
use Rattle.rg_stack.specs.Refusals.{Manner, Ends, Clears, Settles, Takes, Computes, Prepares, Calls, Chooses, Passes}
use Rattle.rg_stack.specs.Refusals.{calm}
use Rattle.rg_stack.specs.Refusals.{orderly, CalmBehind, Orderly}
use Rattle.rg_stack.specs.Reads.{reads}
use Rattle.rg_machine.specs.Core.{Core, below_top, started, with_top}
use Rattle.rg_machine.specs.Keeps.{Asks, GoesBack, GoesOn, GoesTo, SameBacks, WantsRoom, backs}
use Rattle.rg_step.specs.Inner.Refusals.{asks_at, Stands}
use Rattle.rg_step.specs.Inner.Refusals.{Asking, Unread, StillLeft}
use Rattle.rg_step.proofs.Walking.Stands.{to-on}

-- instructions that go on leave where frames go back
pub on-backs : (m : Manner) (old new : Machine) → GoesOn m old new → SameBacks old new
on-backs Ends old new g = absurd g
on-backs Clears old new g = g
on-backs Settles old new g = g
on-backs Takes old new g = g
on-backs Computes old new g = ap (λ (x : Machine). backs x.frames) g
on-backs Prepares old new g = absurd g
on-backs Calls old new g = absurd g
on-backs (Chooses t) old new g = ap (λ (x : Machine). backs x.frames) g
on-backs (Passes t) old new g = ap (λ (x : Machine). backs x.frames) g

pub to-backs : (m : Manner) (to : ℕ) (old new : Machine) → GoesTo m to old new → SameBacks old new
to-backs m to old new g = on-backs m old new (to-on [] old true 0 old new m to g)

pub asks-backs : (m : Manner) (old new : Machine) → Asks m old new → SameBacks old new
asks-backs Ends old new g = absurd g
asks-backs Clears old new g = absurd g
asks-backs Settles old new g = absurd g
asks-backs Takes old new g = ap (λ (x : Machine). backs x.frames) g
asks-backs Computes old new g = ap (λ (x : Machine). backs x.frames) g
asks-backs Prepares old new g = absurd g
asks-backs Calls old new g = absurd g
asks-backs (Chooses t) old new g = absurd g
asks-backs (Passes t) old new g = absurd g

pub room-backs : (m : Manner) (old new : Machine) → WantsRoom m old new → SameBacks old new
room-backs Ends old new g = absurd g
room-backs Clears old new g = absurd g
room-backs Settles old new g = absurd g
room-backs Takes old new g = absurd g
room-backs Computes old new g = absurd g
room-backs Prepares old new g = ap (λ (x : Machine). backs x.frames) g
room-backs Calls old new g = absurd g
room-backs (Chooses t) old new g = absurd g
room-backs (Passes t) old new g = absurd g

-- what is behind the topmost frame's end is calm
pub behind-calm : (code : List Op) (fs : List Frame) (t : ℕ) → CalmBehind code fs → GoesBack fs t → calm code false (drop t code) ≡ true
behind-calm code [] t h g = absurd g
behind-calm code (f ∷ []) t h g = absurd g
behind-calm code (f ∷ j ∷ fs) t h g = subst (λ n. calm code false (drop n code) ≡ true) g h

-- an answer of the input on top of the stack leaves the machine
pub stands-put : (code : List Op) (start : Machine) (asks : Truth) (at : ℕ) (old new : Core) (v : Val) → new ≡ with_top (below_top old) v
    → Asking code start asks at old.machine → Stands code start asks (at + 1) new.machine
stands-put code start asks at old new v put a = subst (λ (m : Machine). Stands code start asks (at + 1) m) (ap (λ (c : Core). c.machine) (sym put))
    a.stands

pub put-backs : (old new : Core) (v : Val) → new ≡ with_top (below_top old) v → SameBacks old.machine new.machine
put-backs old new v put = ap (λ (c : Core). backs c.machine.frames) put

-- a step begins, where nothing is refused behind a change
pub begun-at : (code : List Op) (c begun : Core) (at : ℕ) → at ≡ c.machine.at → begun ≡ started c → Orderly code c.machine
    → Stands code c.machine (asks_at code c.machine) (at + 1) begun.machine
begun-at code c begun at is same o = inl (record {
  same = ap (λ (b : Core). b.machine) same;
  ordered = subst (λ n. orderly code (n + 1) false (drop (n + 1) code) ≡ true) (sym is) o.here;
  asked = λ e. ap (λ n. reads (drop (n + 1) code)) is ∙ e;
})

pub unasked-at : (code : List Op) (c begun : Core) (at : ℕ) → at ≡ c.machine.at → begun ≡ started c → Orderly code c.machine
    → asks_at code c.machine ≡ false → Stands code c.machine false (at + 1) begun.machine
unasked-at code c begun at is same o none =
    subst (λ a. Stands code c.machine a (at + 1) begun.machine) none (begun-at code c begun at is same o)

-- behind the frame's end nothing is refused
pub returned-calm : (code : List Op) (c begun : Core) (back : ℕ) → begun ≡ started c → Orderly code c.machine → GoesBack begun.machine.frames back
    → calm code false (drop back code) ≡ true
returned-calm code c begun back same o g =
    behind-calm code c.machine.frames back o.behind (subst (λ (b : Core). GoesBack b.machine.frames back) same g)

pub returned-at : (code : List Op) (c begun : Core) (new : Machine) (back : ℕ) → begun ≡ started c → Orderly code c.machine
    → GoesBack begun.machine.frames back → (asks : Truth) → Stands code c.machine asks back new
returned-at code c begun new back same o g asks = inr (returned-calm code c begun back same o g)

-- no machine is all machines
pub no-machine : (new : Machine) → ((start : Machine) → new ≡ start) → ⊥
no-machine new h =
    let first : new.at ≡ 0 = ap (λ (m : Machine). m.at) (h (record new { at = 0 })) in
    let second : new.at ≡ 1 = ap (λ (m : Machine). m.at) (h (record new { at = 1 })) in
    absurd (omega (arith, first, second))

-- where nothing is refused, the input isn't asked
pub no-asking : (code : List Op) (at : ℕ) (m : Machine) → ((start : Machine) (asks : Truth) → Asking code start asks at m) → ⊥
no-asking code at m h = true≢false (sym (h m false).asked)

-- a number was read
pub unread-number : (code : List Op) (from at : ℕ) (old : Machine) (before after : List ℕ)
    → ((start : Machine) (asks : Truth) → Stands code start asks from old → calm code false (drop at code) ≡ true)
    → Unread code from old at before after
unread-number code from at old before after h start asks stands = inl (h start asks stands)

-- nothing was read, where not all from there on is calm
pub unread-left : (code : List Op) (from at : ℕ) (old : Machine) (before after : List ℕ) → Unread code from old at before after
    → (calm code false (drop at code) ≡ true → ⊥) → StillLeft code from old before after
unread-left code from at old before after unread never start asks stands = left (unread start asks stands)
  where
    left : (calm code false (drop at code) ≡ true) ⊎ (after ≡ before) → after ≡ before
    left (inl h) = absurd (never h)
    left (inr e) = e
