-- Slots of the topmost frame that are to be nil: what they own goes, one after another.
use Rattle.std.proofs.Common.{◌≡◌, ◌<◌, ◌≤◌, ℕ, zero, suc, ◌+◌, ◌-◌, true, List, [], ◌∷◌, ◌++◌, Some, None, length, take, replicate}
use Rattle.std.proofs.Common.{slice_get, slice_set, unwrap_or, refl, sym, ap, ◌∙◌, subst, arith}
use Rattle.rg_base.specs.declared.value.Val.{Val}
use Rattle.rg_base.specs.declared.value.Val.TheVariants.{Nil}
use Rattle.rg_base.specs.declared.value.Word.{Word}
use Rattle.rg_cells.specs.Table.{Serials}
use Rattle.rg_regions.specs.Grove.{Grove}
use Rattle.rg_frames.specs.Changes.{ended}
use Rattle.rg_stack.specs.Machine.{Frame, ended_slots, slot_at, top_slots, with_slots}
use Rattle.rg_stack.specs.Needs.{closed_into, owned_once}
use Rattle.rg_heap.specs.Reads.{LeadsIntoClosed}
use Rattle.rg_machine.specs.Core.{Core, with_machine}
use Rattle.rg_machine.specs.Effects.{AllLoose, emptied, ending, without}
use Rattle.rg_machine.specs.Keeps.{backs}
use Rattle.rg_machine.specs.Parts.{Parts, machine_in}
use Rattle.rg_machine.specs.Cores.{core_of}
use Rattle.rg_machine.specs.High.{NoneMade}
use Rattle.rg_machine.specs.Stands.{Stands}
use Rattle.rg_machine.proofs.Release.Effect.{closed-none, core-same, filter-none}
use Rattle.rg_machine.proofs.End.Slots.{ending-step, frames-less, slot-less}
use Rattle.rg_machine.proofs.Callers.High.{none-same, none-then}
use Rattle.rg_machine.proofs.End.Slot.{Bounded, bounded, slot-nil}
use Rattle.rg_machine.proofs.End.Nil.{backs-ending, ended-core, ending-ended, ending-live, ending-size, live-within, next-core}
use Rattle.rg_machine.proofs.End.Nil.{size-ended, slot-shown}
use Rattle.rg_machine.proofs.Write.Slot.{backs-slots}

-- One slot

emptied-size : (c : Core) (s : ℕ) → length (top_slots (emptied c s).machine.frames) ≡ length (top_slots c.machine.frames)
emptied-size c s = size-ended c.machine.frames s

emptied-more : (c : Core) (k : ℕ) → k < length (top_slots c.machine.frames) → slot-nil (emptied c (suc k)) k ≡ emptied c k
emptied-more c k lt = ap (λ fs. with_machine c (record c.machine { frames = fs })) (frames-less c.machine.frames k lt)

emptied-slot : (c : Core) (k : ℕ) → slot_at (emptied c (suc k)).machine k ≡ slot_at c.machine k
emptied-slot c k = ap (λ o. unwrap_or o Nil) (slot-less c.machine.frames k)

set-ended : (vs : List Val) (k : ℕ) → ended_slots k (slice_set vs k Nil) ≡ ended_slots k vs
set-ended [] k = refl
set-ended (v ∷ vs) zero = refl
set-ended (v ∷ vs) (suc k) =
    let us = slice_set vs k Nil in
    let e : suc (length us) - suc k ≡ length us - k = omega arith in
    let f : suc (length vs) - suc k ≡ length vs - k = omega arith in
    ap (λ n. v ∷ (take k us ++ replicate n Nil)) e
    ∙ ap (λ us. v ∷ us) (set-ended vs k)
    ∙ sym (ap (λ n. v ∷ (take k vs ++ replicate n Nil)) f)

-- one that is nil already is nil with those behind it
emptied-nil : (c : Core) (k : ℕ) → emptied (slot-nil c k) k ≡ emptied c k
emptied-nil c k = ap (λ fs. with_machine c (record c.machine { frames = fs })) (by c.machine.frames)
  where
    by : (fs : List Frame) → with_slots (ended_slots k (top_slots (with_slots (slice_set (top_slots fs) k Nil) fs)))
        (with_slots (slice_set (top_slots fs) k Nil) fs) ≡ with_slots (ended_slots k (top_slots fs)) fs
    by [] = refl
    by (f ∷ fs) = ap (λ vs. record f { slots = vs } ∷ fs) (set-ended f.slots k)

-- what it owns goes
pub slot-dropped : (c new : Core) (k : ℕ) → new ≡ next-core c k → emptied new k ≡ without (emptied c k) (slot_at c.machine k ∷ [])
slot-dropped c new k e = ap (λ d. emptied d k) e ∙ emptied-nil (without c (slot_at c.machine k ∷ [])) k

-- it owns nothing
pub slot-stays : (p : Parts) → Serials p.heap.cells.heap → Grove p.heap.cells p.heap.regions → Stands p.heap p.frames → (k : ℕ) (w : Word)
    → slice_get p.frames.slots (p.frames.first + k) ≡ Some w → (LeadsIntoClosed p.heap p.frames w → ⊥)
    → emptied (core_of p) k ≡ without (emptied (core_of p) k) (slot_at (machine_in p) k ∷ [])
slot-stays p q g s k w e out =
    let v = slot_at (machine_in p) k in
    let none = subst (λ v. closed_into (machine_in p) v ≡ None) (slot-shown p s k w e) (closed-none p w q g s out) in
    ap (λ c. emptied c k) (core-same p q g s (v ∷ []) (filter-none (closed_into (machine_in p)) v none))

-- All slots from one on

size-same : (c now : Core) (s : ℕ) → emptied now s ≡ ending c s → length (top_slots now.machine.frames) ≡ length (top_slots c.machine.frames)
size-same c now s e =
    sym (emptied-size now s) ∙ ap (λ (d : Core). length (top_slots d.machine.frames)) e ∙ ending-size c s

-- behind one slot more
ending-next : (c now new : Core) (left k : ℕ) → left ≡ suc k → Bounded c.machine → k < length (top_slots c.machine.frames)
    → emptied now left ≡ ending c left → emptied new k ≡ without (emptied now k) (slot_at now.machine k ∷ []) → emptied new k ≡ ending c k
ending-next c now new left k is b within e f =
    let here : emptied now (suc k) ≡ ending c (suc k) = subst (λ n. emptied now n ≡ ending c n) is e in
    let size = size-same c now (suc k) here in
    f ∙ ap (λ d. without d (slot_at now.machine k ∷ [])) (sym (emptied-more now k (omega (arith, within, size))))
    ∙ ap (λ v. without (slot-nil (emptied now (suc k)) k) (v ∷ [])) (sym (emptied-slot now k))
    ∙ ap (λ (d : Core). without (slot-nil d k) (slot_at d.machine k ∷ [])) here
    ∙ ending-step c k within b

-- What slots own from one on is to go, and has gone from another one on.
pub record Ending (old now : Parts) (s left : ℕ) : Type 0 where
  pub above : s ≤ left
  pub within : left ≤ length (top_slots (machine_in old).frames)
  pub ended : emptied (core_of now) left ≡ ending (core_of old) left
  pub once : owned_once (machine_in now) ≡ true
  pub stack : AllLoose (core_of now)
  pub words : now.words ≡ old.words
  pub made : NoneMade old.heap now.heap
  pub bound : Bounded (machine_in old)

pub ending-init : (p : Parts) → Serials p.heap.cells.heap → Grove p.heap.cells p.heap.regions → Stands p.heap p.frames → (s live : ℕ)
    → ended p.frames live ≡ p.frames → p.frames.first + live ≤ length p.frames.slots → s ≤ live → owned_once (machine_in p) ≡ true
    → AllLoose (core_of p) → Ending p p s live
ending-init p q g st s live e le up once all = record {
  above = up;
  within = live-within p st live le;
  ended = sym (ended-core p live) ∙ ap (λ v. core_of (record p { frames = v })) e ∙ ending-live p q g st live live e (omega arith);
  once = once;
  stack = all;
  words = refl;
  made = none-same p.heap p.heap refl;
  bound = bounded p q g st;
}

pub ending-there : (old now : Parts) (s left k : ℕ) → Ending old now s left → k < left → k < length (top_slots (machine_in now).frames)
ending-there old now s left k e lt =
    let size = size-same (core_of old) (core_of now) left e.ended in
    let within = e.within in
    omega (arith, lt, size, within)

pub ending-on : (old now new : Parts) (s left k : ℕ) → Ending old now s left → s ≤ k → left ≡ suc k
    → emptied (core_of new) k ≡ without (emptied (core_of now) k) (slot_at (machine_in now) k ∷ []) → owned_once (machine_in new) ≡ true
    → AllLoose (core_of new) → new.words ≡ now.words → NoneMade now.heap new.heap → Ending old new s k
ending-on old now new s left k e up is f once all words made =
    let within = e.within in
    record {
      above = up;
      within = omega (arith, within, is);
      ended = ending-next (core_of old) (core_of now) (core_of new) left k is e.bound (omega (arith, within, is)) e.ended f;
      once = once;
      stack = all;
      words = words ∙ e.words;
      made = none-then old.heap now.heap new.heap e.made made;
      bound = e.bound;
    }

pub ending-final : (old now : Parts) (s left : ℕ) → Ending old now s left → left ≤ s → emptied (core_of now) s ≡ ending (core_of old) s
ending-final old now s left e le =
    let up = e.above in
    let same : left ≡ s = omega (arith, le, up) in
    subst (λ n. emptied (core_of now) n ≡ ending (core_of old) n) same e.ended

-- there is nothing to end
pub emptied-live : (p : Parts) → Serials p.heap.cells.heap → Grove p.heap.cells p.heap.regions → Stands p.heap p.frames → (live k : ℕ)
    → ended p.frames live ≡ p.frames → live ≤ k → emptied (core_of p) k ≡ ending (core_of p) k
emptied-live p q g s live k e le = ap (λ c. emptied c k) (ending-live p q g s live k e le) ∙ ending-ended (core_of p) k

-- frames go back where they did
pub backs-emptied : (old new : Core) (s : ℕ) → emptied new s ≡ ending old s → backs new.machine.frames ≡ backs old.machine.frames
backs-emptied old new s e =
    sym (backs-slots (ended_slots s (top_slots new.machine.frames)) new.machine.frames) ∙ backs-ending old (emptied new s) s e
