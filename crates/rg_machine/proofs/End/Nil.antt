-- Slots of the topmost frame that are nil, and words that stood there.
use Rattle.std.proofs.Common.{◌≡◌, ◌<◌, ◌≤◌, inl, inr, ℕ, zero, suc, ◌+◌, ◌-◌, true, List, [], ◌∷◌, ◌++◌, None, Some}
use Rattle.std.proofs.Common.{length, take, drop, replicate, reverse, slice_get, slice_set, refl, sym, ap, ◌∙◌, subst, arith}
use Rattle.std.proofs.lemmas.Bool.{false≢true, cases_lt as order}
use Rattle.std.proofs.lemmas.List.{length-replicate}
use Rattle.std.proofs.lemmas.Option.{none-some}
use Rattle.rg_base.specs.declared.value.Val.{Val}
use Rattle.rg_base.specs.declared.value.Val.TheVariants as val
use Rattle.rg_base.specs.declared.value.Word.{Word}
use Rattle.rg_base.specs.declared.value.Word.TheVariants.{Nil, Slot}
use Rattle.rg_cells.specs.Table.{Serials}
use Rattle.rg_regions.specs.Grove.{Grove}
use Rattle.rg_frames.specs.Stack.{Stack}
use Rattle.rg_frames.specs.Changes.{InTop, ended, with_slot}
use Rattle.rg_stack.specs.Machine.{Frame, end_slots, ended_slots, put_slot, slot_at, top_slots, with_slots}
use Rattle.rg_stack.specs.Needs.{closed_into, owned_once}
use Rattle.rg_heap.specs.Reads.{LeadsIntoClosed}
use Rattle.rg_heap.specs.Parts.{Parts as HeapParts}
use Rattle.rg_view.specs.Lain.{Nested}
use Rattle.rg_view.specs.View.{frames_of}
use Rattle.rg_view.proofs.Callers.Frame.{end-past, ended-frames, slot-frames, slot-there, top-size}
use Rattle.rg_view.proofs.Callers.Need.{keyed}
use Rattle.rg_view.proofs.Callers.Open.{closed-not-open, window-open}
use Rattle.rg_code.specs.Code.{empty}
use Rattle.rg_code.specs.declared.op.Op.TheVariants as i
use Rattle.rg_held.specs.Frees.{free_act}
use Rattle.rg_machine.specs.declared.next.Next.TheVariants as next
use Rattle.rg_machine.specs.Core.{ActIs, Core, with_machine}
use Rattle.rg_machine.specs.Effects.{AllLoose, ending, without}
use Rattle.rg_machine.specs.Keeps.{backs}
use Rattle.rg_machine.specs.Parts.{Parts, machine_in, val_in}
use Rattle.rg_machine.specs.Cores.{core_of}
use Rattle.rg_machine.specs.Stands.{AllLead, Leads, Stands}
use Rattle.rg_machine.proofs.Release.Effect.{Asked, closed-none, core-same, filter-none}
use Rattle.rg_machine.proofs.End.Slots.{ended-more, ended-none, ending-none, nil-again}
use Rattle.rg_machine.proofs.Release.Fewer.{fewer-all, fewer-nil, fewer-once, fewer-without, once-nil}
use Rattle.rg_machine.proofs.End.Slot.{asked-slot, backs-slot, behind-slot, bounded, slot-nil}
use Rattle.rg_machine.proofs.Write.Slot.{backs-slots}
use Rattle.rg_machine.proofs.Call.Frames.{stands-nil, stands-restacked}

-- A word in a slot leads where one on the stack may
pub slot-leads : (p : Parts) → Serials p.heap.cells.heap → Grove p.heap.cells p.heap.regions → Stands p.heap p.frames → (j : ℕ) (w : Word)
    → slice_get p.frames.slots j ≡ Some w → Leads p.heap p.frames w
slot-leads p q g s j w e = record {
  held = λ x is. s.opened.slots j x (e ∙ ap Some is);
  bridge = λ x r is lies c. s.slots j x r (e ∙ ap Some is) lies (λ i u win has.
      absurd (false≢true (sym (closed-not-open p.heap.regions p.frames (keyed p.heap p.frames p.at q g s.opened) r c)
      ∙ window-open p.heap.regions p.frames (keyed p.heap p.frames p.at q g s.opened) r i u win has)));
}

-- what it shows
pub slot-shown : (p : Parts) → Stands p.heap p.frames → (k : ℕ) (w : Word) → slice_get p.frames.slots (p.frames.first + k) ≡ Some w
    → val_in p w ≡ slot_at (machine_in p) k
slot-shown p s k w e = sym (slot-there p.heap.cells.heap p.frames.slots p.frames.first k (reverse p.frames.frames) w s.lain e)

-- a slot of the topmost frame
pub in-top : (p : Parts) → Stands p.heap p.frames → (k : ℕ) → k < length (top_slots (machine_in p).frames) → InTop p.frames k
in-top p s k lt =
    let size = top-size p.heap.cells.heap p.frames.slots p.frames.first (reverse p.frames.frames) s.lain in omega (arith, lt, size)

-- Where slots are nil, all stands

none-nil : (n j x : ℕ) → slice_get (replicate n Nil) j ≡ Some (Slot x) → ⊥
none-nil zero j x e = none-some (Slot x) e
none-nil (suc n) zero x e = absurd cc
none-nil (suc n) (suc j) x e = none-nil n j x e

ended-back : (xs : List Word) (i n j x : ℕ) → slice_get (take i xs ++ replicate n Nil) j ≡ Some (Slot x) → slice_get xs j ≡ Some (Slot x)
ended-back xs zero n j x e = absurd (none-nil n j x e)
ended-back [] (suc i) n j x e = absurd (none-nil n j x e)
ended-back (y ∷ xs) (suc i) n zero x e = e
ended-back (y ∷ xs) (suc i) n (suc j) x e = ended-back xs i n j x e

pub ended-length : (xs : List Word) (i : ℕ) → length (take i xs ++ replicate (length xs - i) Nil) ≡ length xs
ended-length xs zero = length-replicate (length xs - 0) Nil ∙ omega arith
ended-length [] (suc i) = let e : 0 - suc i ≡ 0 = omega arith in ap (λ n. length (replicate n Nil)) e
ended-length (y ∷ xs) (suc i) =
    let e : suc (length xs) - suc i ≡ length xs - i = omega arith in
    ap (λ n. suc (length (take i xs ++ replicate n Nil))) e ∙ ap suc (ended-length xs i)

-- other slots, as many, in which references stood before
stands-slots : (p : HeapParts) (v : Stack) (slots : List Word) → length slots ≡ length v.slots
    → ((j x : ℕ) → slice_get slots j ≡ Some (Slot x) → slice_get v.slots j ≡ Some (Slot x)) → Stands p v → Stands p (record v { slots = slots })
stands-slots p v slots many back s =
    stands-restacked p v slots v.first v.frames v.frame_room v.slot_room s
    (let P : ℕ → Type 0 = λ n. Nested v.first n (reverse v.frames) in subst P (sym many) s.lain) s.some
    (λ j x e. s.opened.slots j x (back j x e)) (λ j x r e l b. s.slots j x r (back j x e) l b)

pub stands-ended : (p : HeapParts) (v : Stack) (k : ℕ) → Stands p v → Stands p (ended v k)
stands-ended p v k s =
    stands-slots p v (take (v.first + k) v.slots ++ replicate (length v.slots - (v.first + k)) Nil) (ended-length v.slots (v.first + k))
    (λ j x e. ended-back v.slots (v.first + k) (length v.slots - (v.first + k)) j x e) s

-- the machine in which a slot is nil
pub nil-core : (p : Parts) (k : ℕ) → core_of (record p { frames = with_slot p.frames k Nil }) ≡ slot-nil (core_of p) k
nil-core p k = ap (λ fs. with_machine (core_of p) (record (machine_in p) { frames = fs })) (slot-frames p.heap.cells.heap p.frames k Nil)

taken-all : (xs : List Word) (i : ℕ) → length xs ≤ i → take i xs ++ replicate (length xs - i) Nil ≡ xs
taken-all [] zero le = refl
taken-all [] (suc i) le = let e : 0 - suc i ≡ 0 = omega arith in ap (λ n. replicate n Nil) e
taken-all (y ∷ xs) zero le = absurd (omega (arith, le))
taken-all (y ∷ xs) (suc i) le =
    let e : suc (length xs) - suc i ≡ length xs - i = omega arith in
    ap (λ n. y ∷ (take i xs ++ replicate n Nil)) e ∙ ap (λ ys. y ∷ ys) (taken-all xs i (omega (arith, le)))

-- the machine in which slots are nil
pub ended-core : (p : Parts) (s : ℕ) → core_of (record p { frames = ended p.frames s }) ≡ with_machine (core_of p) (end_slots (machine_in p) s)
ended-core p s = ap (λ fs. with_machine (core_of p) (record (machine_in p) { frames = fs }))
    (elim (order (p.frames.first + s) (length p.frames.slots)) [
      | inl lt ↦ ended-frames p.heap.cells.heap p.frames s (omega (arith, lt))
      | inr le ↦
          ap (λ slots. frames_of p.heap.cells.heap (record p.frames { slots = slots })) (taken-all p.frames.slots (p.frames.first + s) le)
          ∙ end-past p.heap.cells.heap p.frames.slots p.frames.first s (reverse p.frames.frames) (omega (arith, le))
    ])

ended-twice : (vs : List Val) (s : ℕ) → ended_slots s (ended_slots s vs) ≡ ended_slots s vs
ended-twice vs zero = nil-again (length vs - 0) 0
ended-twice [] (suc s) = nil-again (0 - suc s) (suc s)
ended-twice (v ∷ vs) (suc s) =
    let e : suc (length vs) - suc s ≡ length vs - s = omega arith in
    let many = length (take s vs ++ replicate (length vs - s) val.Nil) in
    let f : suc many - suc s ≡ many - s = omega arith in
    ap (λ n. ended_slots (suc s) (v ∷ (take s vs ++ replicate n val.Nil))) e
    ∙ ap (λ n. v ∷ (take s (take s vs ++ replicate (length vs - s) val.Nil) ++ replicate n val.Nil)) f
    ∙ ap (λ us. v ∷ us) (ended-twice vs s)
    ∙ sym (ap (λ n. v ∷ (take s vs ++ replicate n val.Nil)) e)

-- slots that have ended are nil
pub ending-ended : (c : Core) (s : ℕ) → with_machine (ending c s) (end_slots (ending c s).machine s) ≡ ending c s
ending-ended c s = ap (λ fs. with_machine (ending c s) (record (ending c s).machine { frames = fs })) (by c.machine.frames)
  where
    by : (fs : List Frame) → with_slots (ended_slots s (top_slots (with_slots (ended_slots s (top_slots fs)) fs)))
        (with_slots (ended_slots s (top_slots fs)) fs) ≡ with_slots (ended_slots s (top_slots fs)) fs
    by [] = refl
    by (f ∷ fs) = ap (λ vs. record f { slots = vs } ∷ fs) (ended-twice f.slots s)

-- Slots end one after another

pub list-ended : (vs : List Val) (s : ℕ) → length (ended_slots s vs) ≡ length vs
list-ended vs zero = length-replicate (length vs - 0) val.Nil ∙ omega arith
list-ended [] (suc s) = let e : 0 - suc s ≡ 0 = omega arith in ap (λ n. length (replicate n val.Nil)) e
list-ended (v ∷ vs) (suc s) =
    let e : suc (length vs) - suc s ≡ length vs - s = omega arith in
    ap (λ n. suc (length (take s vs ++ replicate n val.Nil))) e ∙ ap suc (list-ended vs s)

-- the topmost frame has as many slots
pub size-ended : (fs : List Frame) (s : ℕ) → length (top_slots (with_slots (ended_slots s (top_slots fs)) fs)) ≡ length (top_slots fs)
size-ended [] s = refl
size-ended (f ∷ fs) s = list-ended f.slots s

pub ending-size : (c : Core) (s : ℕ) → length (top_slots (ending c s).machine.frames) ≡ length (top_slots c.machine.frames)
ending-size c s = size-ended c.machine.frames s

-- behind one slot more
abbrev pub next-core : Core → (k : ℕ) → Core
next-core c k = with_machine c (put_slot (without c (slot_at c.machine k ∷ [])).machine k val.Nil)

pub once-next : (now new : Core) (k : ℕ) → new ≡ next-core now k → owned_once now.machine ≡ true → owned_once new.machine ≡ true
once-next now new k f once =
    ap (λ (c : Core). owned_once c.machine) f
    ∙ once-nil (without now (slot_at now.machine k ∷ [])).machine k
    (fewer-once now.machine (without now (slot_at now.machine k ∷ [])).machine (fewer-without now (slot_at now.machine k ∷ [])) once)

pub loose-next : (now new : Core) (k : ℕ) → new ≡ next-core now k → AllLoose now → AllLoose new
loose-next now new k f all =
    subst AllLoose (sym f)
    (fewer-all (without now (slot_at now.machine k ∷ [])) (next-core now k) (fewer-nil (without now (slot_at now.machine k ∷ [])).machine k) refl
    (fewer-all now (without now (slot_at now.machine k ∷ [])) (fewer-without now (slot_at now.machine k ∷ [])) refl all))

-- Slots that are nil from one on

ended-top : (fs : List Frame) (s : ℕ) → with_slots (ended_slots s (top_slots fs)) fs ≡ fs → ended_slots s (top_slots fs) ≡ top_slots fs
ended-top [] s e = nil-again 0 s
ended-top (f ∷ fs) s e = ap top_slots e

pub live-nil : (p : Parts) (live : ℕ) → ended p.frames live ≡ p.frames
    → ended_slots live (top_slots (machine_in p).frames) ≡ top_slots (machine_in p).frames
live-nil p live e =
    ended-top (machine_in p).frames live
    (ap (λ (c : Core). c.machine.frames) (sym (ended-core p live) ∙ ap (λ v. core_of (record p { frames = v })) e))

-- there is nothing to end
pub ending-live : (p : Parts) → Serials p.heap.cells.heap → Grove p.heap.cells p.heap.regions → Stands p.heap p.frames → (live k : ℕ)
    → ended p.frames live ≡ p.frames → live ≤ k → core_of p ≡ ending (core_of p) k
ending-live p q g s live k e le =
    let vs = top_slots (machine_in p).frames in
    let nil = ended-more vs live k le (live-nil p live e) in
    ending-none (core_of p) k nil (core-same p q g s (drop k vs) (ended-none (machine_in p) vs k nil))

pub live-within : (p : Parts) → Stands p.heap p.frames → (live : ℕ) → p.frames.first + live ≤ length p.frames.slots
    → live ≤ length (top_slots (machine_in p).frames)
live-within p s live le =
    let size = top-size p.heap.cells.heap p.frames.slots p.frames.first (reverse p.frames.frames) s.lain in omega (arith, le, size)

-- frames go back where they did
pub backs-ending : (old new : Core) (s : ℕ) → new ≡ ending old s → backs new.machine.frames ≡ backs old.machine.frames
backs-ending old new s e =
    ap (λ (c : Core). backs c.machine.frames) e ∙ backs-slots (ended_slots s (top_slots old.machine.frames)) old.machine.frames

-- `end s`
pub end-effect : (old new : Core) (s : ℕ) → new ≡ ending old s → (at : ℕ) → ActIs (free_act empty at (i.End s)) at old new next.On
end-effect old new s e at = subst (λ n. ActIs (free_act empty at (i.End s)) at old n next.On) (sym e) (λ go input. refl)

-- A slot whose word is taken

pub leads-slots : (p : HeapParts) (v : Stack) (slots : List Word) (w : Word) → Leads p v w → Leads p (record v { slots = slots }) w
leads-slots p v slots w l = record { held = l.held; bridge = l.bridge }

pub stands-taken : (p : Parts) (v : Stack) (k : ℕ) → v ≡ with_slot p.frames k Nil → Stands p.heap p.frames → AllLead p.heap p.frames p.words
    → Stands p.heap v × AllLead p.heap v p.words
stands-taken p v k e s lead =
    subst (λ v. Stands p.heap v × AllLead p.heap v p.words) (sym e)
    (stands-nil p.heap p.frames k s, λ i x f. leads-slots p.heap p.frames (slice_set p.frames.slots (p.frames.first + k) Nil) x (lead i x f))

pub stands-emptied : (p : Parts) (v : Stack) (k : ℕ) → v ≡ ended p.frames k → Stands p.heap p.frames → AllLead p.heap p.frames p.words
    → Stands p.heap v × AllLead p.heap v p.words
stands-emptied p v k e s lead =
    subst (λ v. Stands p.heap v × AllLead p.heap v p.words) (sym e) (
      stands-ended p.heap p.frames k s,
      λ i x f. leads-slots p.heap p.frames
          (take (p.frames.first + k) p.frames.slots ++ replicate (length p.frames.slots - (p.frames.first + k)) Nil) x (lead i x f),
    )

module _ (p : Parts) (q : Serials p.heap.cells.heap) (g : Grove p.heap.cells p.heap.regions) (s : Stands p.heap p.frames) (k : ℕ) (w : Word)
    (e : slice_get p.frames.slots (p.frames.first + k) ≡ Some w) (once : owned_once (machine_in p) ≡ true) (all : AllLoose (core_of p))
    (v : Stack) (is : v ≡ with_slot p.frames k Nil) where
  put-taken : core_of (record p { frames = v }) ≡ slot-nil (core_of p) k
  put-taken = ap (λ v. core_of (record p { frames = v })) is ∙ nil-core p k

  leads-taken : Leads p.heap v w
  leads-taken =
      subst (λ v. Leads p.heap v w) (sym is)
      (leads-slots p.heap p.frames (slice_set p.frames.slots (p.frames.first + k) Nil) w (slot-leads p q g s (p.frames.first + k) w e))

  pub asked-taken : Asked (record p { frames = v }) w
  asked-taken =
      asked-slot p (record p { frames = v }) w k (bounded p q g s) once all (slot-shown p s k w e) refl put-taken leads-taken

  pub gone-taken : (new : Parts) → core_of new ≡ without (core_of (record p { frames = v })) (val_in (record p { frames = v }) w ∷ [])
      → core_of new ≡ next-core (core_of p) k
  gone-taken new f =
      behind-slot p (record p { frames = v }) w k (bounded p q g s) once all (slot-shown p s k w e) refl put-taken new f

  pub backs-taken : (new : Parts) → core_of new ≡ without (core_of (record p { frames = v })) (val_in (record p { frames = v }) w ∷ [])
      → backs (machine_in new).frames ≡ backs (machine_in p).frames
  backs-taken new f =
      backs-slot p (record p { frames = v }) w k (bounded p q g s) once all (slot-shown p s k w e) refl put-taken new f

-- A slot that owns nothing

pub nil-home : (p : Parts) → Serials p.heap.cells.heap → Grove p.heap.cells p.heap.regions → Stands p.heap p.frames → (k : ℕ) (w : Word)
    → slice_get p.frames.slots (p.frames.first + k) ≡ Some w → (LeadsIntoClosed p.heap p.frames w → ⊥) → (v : Stack)
    → v ≡ with_slot p.frames k Nil → core_of (record p { frames = v }) ≡ next-core (core_of p) k
nil-home p q g s k w e out v is =
    let u = slot_at (machine_in p) k in
    let none = subst (λ u. closed_into (machine_in p) u ≡ None) (slot-shown p s k w e) (closed-none p w q g s out) in
    ap (λ v. core_of (record p { frames = v })) is ∙ nil-core p k
    ∙ ap (λ c. slot-nil c k) (core-same p q g s (u ∷ []) (filter-none (closed_into (machine_in p)) u none))
