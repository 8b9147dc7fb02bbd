-- A slot of the topmost frame is written: what holds behind it, and the machine that is shown.
use Rattle.std.proofs.Common.{◌≡◌, ◌⊎◌, inl, inr, ◌≤◌, ◌<◌, ◌+◌, ◌-◌, ℕ, zero, suc, Bool as Truth, true, false, not, ◌||◌, nat_le}
use Rattle.std.proofs.Common.{List, [], ◌∷◌, Option, Some, None, length, reverse, slice_get, slice_set, refl, sym, ap, subst, ◌∙◌, arith}
use Rattle.std.proofs.lemmas.Bool.{false≢true}
use Rattle.std.proofs.lemmas.Option.{same_Some, slice_get_within}
use Rattle.std.proofs.lemmas.List.{length-set as set-length}
use Rattle.rg_base.specs.declared.object.Label.{Label}
use Rattle.rg_base.specs.declared.value.Val.{Val}
use Rattle.rg_base.specs.declared.value.Word.{Word}
use Rattle.rg_base.specs.declared.value.Word.TheVariants as word
use Rattle.rg_base.proofs.Callers.Lists.{there}
use Rattle.rg_cells.specs.Table.{Heap, Serials, IsHeld}
use Rattle.rg_regions.specs.Table.{IsBridge}
use Rattle.rg_regions.specs.Reach.{LiesIn}
use Rattle.rg_regions.specs.Grove.{Grove}
use Rattle.rg_frames.specs.Stack.{Stack}
use Rattle.rg_frames.specs.Changes.{BasesRise, with_slot}
use Rattle.rg_stack.specs.Machine.{Frame, Machine, place_of, put_slot, with_slots}
use Rattle.rg_stack.specs.Needs.{is_open_label, leads_open, may_keep}
use Rattle.rg_stack.specs.Places.{top_base}
use Rattle.rg_stack.specs.Labels.{is_open}
use Rattle.rg_heap.specs.Parts.{Parts}
use Rattle.rg_heap.specs.Answers.{val_of}
use Rattle.rg_view.specs.Lain.{Nested}
use Rattle.rg_view.specs.View.{windows_of, frames_of, machine_of}
use Rattle.rg_view.proofs.Callers.Frame.{place-there, slot-frames}
use Rattle.rg_view.proofs.Callers.Open.{label-lies, not-open-closed, open-back}
use Rattle.rg_view.proofs.Callers.Need.{keyed}
use Rattle.rg_view.proofs.Callers.Window.{top-window}
use Rattle.rg_machine.specs.Core.{with_machine}
use Rattle.rg_machine.specs.Keeps.{backs}
use Rattle.rg_machine.specs.Parts.{Parts as Whole, machine_in, val_in}
use Rattle.rg_machine.specs.Cores.{core_of}
use Rattle.rg_machine.specs.Stands.{AllLead, BeginsBehind, Leads, Stands}
use Rattle.rg_machine.proofs.Call.Frames.{stands-restacked}

-- what stands at a place of a list that is written: it was written there, or stood there before
pub set-get : {A : Type 0} → (xs : List A) (k j : ℕ) (x y : A) → slice_get (slice_set xs k x) j ≡ Some y
    → ((j ≡ k) × (y ≡ x) × (k < length xs)) ⊎ (slice_get xs j ≡ Some y)
set-get [] k j x y e = inr e
set-get (z ∷ xs) zero zero x y e = inl (refl, sym (same_Some x y e), omega arith)
set-get (z ∷ xs) zero (suc j) x y e = inr e
set-get (z ∷ xs) (suc k) zero x y e = inr e
set-get (z ∷ xs) (suc k) (suc j) x y e = elim (set-get xs k j x y e) [
  | inl at ↦ inl (ap suc at.0, at.1, omega (arith, at.2))
  | inr o ↦ inr o
]

-- a slot is written with a word that stands there as words in slots do
pub stands-word : (p : Parts) (v : Stack) (s : ℕ) (w : Word) → Stands p v → ((to : ℕ) → w ≡ word.Slot to → IsHeld p.cells.heap to)
    → ((to r : ℕ) → v.first + s < length v.slots → w ≡ word.Slot to → LiesIn p.cells.heap r to → BeginsBehind p.regions v (v.first + s) r
    → IsBridge p.regions r to)
    → Stands p (with_slot v s w)
stands-word p v s w h held bridge =
    stands-restacked p v (slice_set v.slots (v.first + s) w) v.first v.frames v.frame_room v.slot_room h
    (let P : ℕ → Type 0 = λ n. Nested v.first n (reverse v.frames) in subst P (sym (set-length v.slots (v.first + s) w)) h.lain) h.some
    (λ j to e. elim (set-get v.slots (v.first + s) j w (word.Slot to) e) [
      | inl at ↦ held to (sym at.1)
      | inr was ↦ h.opened.slots j to was
    ])
    (λ j to r e lies behind. elim (set-get v.slots (v.first + s) j w (word.Slot to) e) [
      | inl at ↦ bridge to r at.2 (sym at.1) lies (λ i u is n. let lt = behind i u is n in omega (arith, lt, at.0))
      | inr was ↦ h.slots j to r was lies behind
    ])

-- words lead where they did
pub leads-slot : (p : Parts) (v : Stack) (s : ℕ) (w x : Word) → Leads p v x → Leads p (with_slot v s w) x
leads-slot p v s w x l = record { held = l.held; bridge = l.bridge }

pub lead-slot : (p : Parts) (v : Stack) (s : ℕ) (w : Word) (words : List Word) → AllLead p v words → AllLead p (with_slot v s w) words
lead-slot p v s w words l k x e = leads-slot p v s w x (l k x e)

-- a word that leads into closed regions to their bridges stands where no window begins behind it, and anywhere if it leads into no open one
kept-by : (a b : Truth) → (a || not b) ≡ true → (a ≡ true) ⊎ (b ≡ false)
kept-by true b e = inl refl
kept-by false true e = absurd (false≢true e)
kept-by false false e = inr refl

module _ (p : Parts) (v : Stack) (at : ℕ) (q : Serials p.cells.heap) (g : Grove p.cells p.regions) (h : Stands p v) where
  -- a word leads into no open region, as the machine sees it
  not-into : (to r : ℕ) → LiesIn p.cells.heap r to → leads_open (machine_of p v at) (val_of p.cells.heap (word.Slot to)) ≡ false
      → is_open (windows_of p.regions v) r ≡ false
  not-into to r lies e =
      sym (ap (λ (o : Option Label). elim o [ None ↦ false | Some l ↦ is_open_label (windows_of p.regions v) l ])
      (label-lies p.cells.heap to _ q lies)) ∙ e

  -- what a word that leads may do in a place behind which no window begins, or that leads into no open region
  pub placed : (place : ℕ) (w : Word) → BasesRise (length v.slots) v.windows → Leads p v w
      → (nat_le (top_base (windows_of p.regions v)) place || not (leads_open (machine_of p v at) (val_of p.cells.heap w))) ≡ true
      → (to r : ℕ) → w ≡ word.Slot to → LiesIn p.cells.heap r to → BeginsBehind p.regions v place r → IsBridge p.regions r to
  placed place w rise leads keep to r is lies behind =
      by (is_open (windows_of p.regions v) r) refl (kept-by _ _ keep)
    where
      closed : is_open (windows_of p.regions v) r ≡ false → IsBridge p.regions r to
      closed c = leads.bridge to r is lies (not-open-closed p.regions v (keyed p v at q g h.opened) r (g.labels r to lies) c)

      by : (b : Truth) → is_open (windows_of p.regions v) r ≡ b
          → (nat_le (top_base (windows_of p.regions v)) place ≡ true) ⊎ (leads_open (machine_of p v at) (val_of p.cells.heap w) ≡ false)
          → IsBridge p.regions r to
      by false c keep = closed c
      by true o (inr none) =
          closed (not-into to r lies (sym (ap (λ u. leads_open (machine_of p v at) (val_of p.cells.heap u)) is) ∙ none))
      by true o (inl base) =
          let some = h.opened.some in
          let top = there v.windows (length v.windows - 1) (omega (arith, some)) in
          let a = open-back p.regions v (keyed p v at q g h.opened) r o in
          let within = slice_get_within v.windows a.0 a.1 a.2 in
          let up : a.1.base ≤ top.0.base = rise.rise a.0 (length v.windows - 1) a.1 top.0 (omega (arith, within)) a.2 top.1 in
          let lt : place < a.1.base = behind a.0 a.1 a.2 a.3 in
          let shown : top_base (windows_of p.regions v) ≡ top.0.base = ap top_base (top-window p.regions v top.0 top.1) in
          let le : top_base (windows_of p.regions v) ≤ place = grind (arith, base) in
          absurd (omega (arith, up, lt, shown, le))

  -- a slot of the topmost frame is written with a word that leads and that may be kept there
  pub stands-slot : (s : ℕ) (w : Word) → BasesRise (length v.slots) v.windows → Leads p v w
      → may_keep (machine_of p v at) s (val_of p.cells.heap w) ≡ true → Stands p (with_slot v s w)
  stands-slot s w rise leads keep =
      stands-word p v s w h leads.held (λ to r within is lies behind.
      let place : place_of (frames_of p.cells.heap v) s ≡ v.first + s =
      place-there p.cells.heap v.slots v.first s (reverse v.frames) h.lain (omega (arith, within)) in
      placed (v.first + s) w rise leads
      (sym (ap (λ n. nat_le (top_base (windows_of p.regions v)) n || not (leads_open (machine_of p v at) (val_of p.cells.heap w))) place) ∙ keep)
      to r is lies behind)

-- the machine that is shown
pub machine-slot : (p : Parts) (v : Stack) (at s : ℕ) (w : Word)
    → machine_of p (with_slot v s w) at ≡ put_slot (machine_of p v at) s (val_of p.cells.heap w)
machine-slot p v at s w = ap (λ fs. record (machine_of p v at) { frames = fs }) (slot-frames p.cells.heap v s w)

-- frames go back where they did
pub backs-slots : (vs : List Val) (fs : List Frame) → backs (with_slots vs fs) ≡ backs fs
backs-slots vs [] = refl
backs-slots vs (f ∷ fs) = refl

pub put-backs : (m : Machine) (s : ℕ) (x : Val) → backs (put_slot m s x).frames ≡ backs m.frames
put-backs m s x = backs-slots _ m.frames

pub slot-backs : (h : Heap) (v : Stack) (s : ℕ) (w : Word) → backs (frames_of h (with_slot v s w)) ≡ backs (frames_of h v)
slot-backs h v s w = ap backs (slot-frames h v s w) ∙ backs-slots _ (frames_of h v)

-- what the machine holds, with a slot that is written
pub core-slot : (x : Whole) (s : ℕ) (w : Word)
    → core_of (record x { frames = with_slot x.frames s w }) ≡ with_machine (core_of x) (put_slot (machine_in x) s (val_in x w))
core-slot x s w = ap (with_machine (core_of x)) (machine-slot x.heap x.frames x.at s w)
