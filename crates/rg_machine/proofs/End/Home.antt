-- Slots of the topmost frame that end one after another, from the last one that was written down: each that owns nothing is nil then.
use Rattle.std.proofs.Common.{◌≡◌, ◌≤◌, ℕ, zero, suc, ◌+◌, ◌-◌, List, [], ◌∷◌, ◌++◌, length, take, replicate, slice_set}
use Rattle.std.proofs.Common.{refl, sym, ap, ◌∙◌, subst, arith}
use Rattle.std.proofs.lemmas.List.{length-set}
use Rattle.rg_base.specs.declared.value.Word.{Word}
use Rattle.rg_base.specs.declared.value.Word.TheVariants.{Nil}
use Rattle.rg_cells.specs.Table.{Serials}
use Rattle.rg_regions.specs.Grove.{Grove}
use Rattle.rg_frames.specs.Stack.{Stack}
use Rattle.rg_frames.specs.Changes.{ended, with_slot}
use Rattle.rg_stack.specs.Machine.{slot_at, top_slots}
use Rattle.rg_machine.specs.Core.{Core}
use Rattle.rg_machine.specs.Effects.{ending, without}
use Rattle.rg_machine.specs.Inner.Ends.{MayEnd}
use Rattle.rg_machine.specs.Parts.{Parts, machine_in}
use Rattle.rg_machine.specs.Cores.{core_of}
use Rattle.rg_machine.specs.Stands.{Stands}
use Rattle.rg_machine.proofs.End.Slot.{Bounded, bounded, slot-nil}
use Rattle.rg_machine.proofs.End.Slots.{ending-step}
use Rattle.rg_machine.proofs.End.Nil.{ended-core, ending-live, ending-size, loose-next, next-core, once-next}
use Rattle.rg_machine.proofs.End.Emptied.{Ending, ending-init, ending-on, slot-dropped}
use Rattle.rg_machine.proofs.Callers.High.{none-same}

-- The slots that are nil

less-slots : (xs : List Word) (i : ℕ) → take (suc i) xs ++ replicate (length xs - suc i) Nil ≡ xs
    → take i (slice_set xs i Nil) ++ replicate (length (slice_set xs i Nil) - i) Nil ≡ slice_set xs i Nil
less-slots [] zero e = refl
less-slots [] (suc i) e = let n : 0 - suc i ≡ 0 = omega arith in ap (λ n. replicate n Nil) n
less-slots (x ∷ xs) zero e =
    let n : suc (length xs) - 1 ≡ length xs = omega arith in
    let m : suc (length xs) - 0 ≡ suc (length xs) = omega arith in
    let rest : replicate (length xs) Nil ≡ xs = tail x (replicate (length xs) Nil) xs (sym (ap (λ n. x ∷ replicate n Nil) n) ∙ e) in
    ap (λ n. replicate n Nil) m ∙ ap (λ ys. Nil ∷ ys) rest
  where
    tail : (x : Word) (xs ys : List Word) → x ∷ xs ≡ x ∷ ys → xs ≡ ys
    tail x xs ys e = cc (e)
less-slots (x ∷ xs) (suc i) e =
    let n : suc (length xs) - suc (suc i) ≡ length xs - suc i = omega arith in
    let ys = slice_set xs i Nil in
    let m : suc (length ys) - suc i ≡ length ys - i = omega arith in
    let rest : take (suc i) xs ++ replicate (length xs - suc i) Nil ≡ xs =
    tail x (take (suc i) xs ++ replicate (length xs - suc i) Nil) xs (sym (ap (λ n. x ∷ (take (suc i) xs ++ replicate n Nil)) n) ∙ e) in
    ap (λ n. x ∷ (take i ys ++ replicate n Nil)) m ∙ ap (λ zs. x ∷ zs) (less-slots xs i rest)
  where
    tail : (x : Word) (xs ys : List Word) → x ∷ xs ≡ x ∷ ys → xs ≡ ys
    tail x xs ys e = cc (e)

ended-less : (v : Stack) (k left : ℕ) → left ≡ suc k → ended v left ≡ v → ended (with_slot v k Nil) k ≡ with_slot v k Nil
ended-less v k left is e =
    let n : v.first + left ≡ suc (v.first + k) = omega (arith, is) in
    let slots : take (suc (v.first + k)) v.slots ++ replicate (length v.slots - suc (v.first + k)) Nil ≡ v.slots =
    subst (λ n. take n v.slots ++ replicate (length v.slots - n) Nil ≡ v.slots) n (ap (λ (u : Stack). u.slots) e) in
    ap (λ (xs : List Word). record v { slots = xs }) (less-slots v.slots (v.first + k) slots)

-- What slots own from one on is to go, and those from another one on have ended.
pub record Nearing (old now : Parts) (s left : ℕ) : Type 0 where
  pub goes : Ending old now s left
  pub nil : ended now.frames left ≡ now.frames
  pub within : now.frames.first + left ≤ length now.frames.slots

pub nearing-init : (p : Parts) → Serials p.heap.cells.heap → Grove p.heap.cells p.heap.regions → Stands p.heap p.frames → (s live : ℕ)
    → ended p.frames live ≡ p.frames → p.frames.first + live ≤ length p.frames.slots → s ≤ live → MayEnd p → Nearing p p s live
nearing-init p q g st s live e le up may = record {
  goes = ending-init p q g st s live e le up may.once may.stack;
  nil = e;
  within = le;
}

pub nearing-on : (old now new : Parts) (s left k : ℕ) → Nearing old now s left → s ≤ k → left ≡ suc k
    → core_of new ≡ next-core (core_of now) k → new.frames ≡ with_slot now.frames k Nil → new.words ≡ now.words → new.heap ≡ now.heap
    → Nearing old new s k
nearing-on old now new s left k n up is gone nil words heap =
    let within = n.within in
    let some : length (slice_set now.frames.slots (now.frames.first + k) Nil) ≡ length now.frames.slots =
    length-set now.frames.slots (now.frames.first + k) Nil in
    record {
      goes = ending-on old now new s left k n.goes up is (slot-dropped (core_of now) (core_of new) k gone)
          (once-next (core_of now) (core_of new) k gone n.goes.once) (loose-next (core_of now) (core_of new) k gone n.goes.stack) words
          (none-same now.heap new.heap heap);
      nil = subst (λ v. ended v k ≡ v) (sym nil) (ended-less now.frames k left is n.nil);
      within = subst (λ (v : Stack). v.first + k ≤ length v.slots) (sym nil) (omega (arith, within, some, is));
    }

-- the machine, as far as they have ended
nearing-core : (old now : Parts) (s left : ℕ) → Nearing old now s left → core_of now ≡ ending (core_of old) left
nearing-core old now s left n =
    sym (ap (λ v. core_of (record now { frames = v })) n.nil) ∙ ended-core now left ∙ n.goes.ended

-- all have ended
pub nearing-final : (old now : Parts) (s left : ℕ) → Nearing old now s left → left ≤ s → core_of now ≡ ending (core_of old) s
nearing-final old now s left n le =
    let up = n.goes.above in
    let same : left ≡ s = omega (arith, le, up) in
    nearing-core old now s left n ∙ ap (ending (core_of old)) same

pub nearing-nil : (old now : Parts) (s left : ℕ) → Nearing old now s left → left ≤ s
    → (ended now.frames s ≡ now.frames) × (now.frames.first + s ≤ length now.frames.slots)
nearing-nil old now s left n le =
    let up = n.goes.above in
    let same : left ≡ s = omega (arith, le, up) in
    rw (← same) (n.nil, n.within)

-- where slots end that had ended from a later one on, it is as if all ended at once
ending-later : (c d : Core) → Bounded c.machine → Bounded d.machine → (left j k : ℕ) → left ≡ k + j
    → left ≤ length (top_slots c.machine.frames) → left ≤ length (top_slots d.machine.frames) → ending d left ≡ ending c left
    → ending d k ≡ ending c k
ending-later c d b e left zero k is within there same =
    let here : left ≡ k = omega (arith, is) in
    subst (λ n. ending d n ≡ ending c n) here same
ending-later c d b e left (suc j) k is within there same =
    let up = ending-later c d b e left j (suc k) (omega (arith, is)) within there same in
    sym (ending-step d k (omega (arith, is, there)) e)
    ∙ ap (λ (x : Core). without (slot-nil x k) (slot_at x.machine k ∷ [])) up
    ∙ ending-step c k (omega (arith, is, within)) b

-- the rest ended as well
pub nearing-rest : (old now : Parts) (new : Core) (s left : ℕ) → Serials now.heap.cells.heap → Grove now.heap.cells now.heap.regions
    → Stands now.heap now.frames → Nearing old now s left → new ≡ ending (core_of now) s → new ≡ ending (core_of old) s
nearing-rest old now new s left q g st n e =
    let up = n.goes.above in
    let within = n.goes.within in
    let core = nearing-core old now s left n in
    let size : length (top_slots (machine_in now).frames) ≡ length (top_slots (machine_in old).frames) =
    ap (λ (c : Core). length (top_slots c.machine.frames)) core ∙ ending-size (core_of old) left in
    let gap : left ≡ s + (left - s) = omega (arith, up) in
    let same = sym (ending-live now q g st left left n.nil (omega arith)) ∙ core in
    e ∙ ending-later (core_of old) (core_of now) n.goes.bound (bounded now q g st) left (left - s) s gap within (omega (arith, within, size)) same
