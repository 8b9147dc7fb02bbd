-- What leaving a window is given, and its effect where one window is alone.
use Rattle.std.proofs.Common.{◌≡◌, ◌≢◌, ◌<◌, ◌≤◌, ◌-◌, ◌^◌, ◌&&◌, ℕ, true, List, [], ◌∷◌, drop, length, map, None, Some, refl, sym, ap, ◌∙◌, subst}
use Rattle.std.proofs.Common.{arith, nat_le}
use Rattle.std.proofs.lemmas.Bool.{and_parts}
use Rattle.rg_code.specs.Code.{empty}
use Rattle.rg_code.specs.declared.op.Op.TheVariants as i
use Rattle.rg_cells.specs.Table.{Heap, Serials}
use Rattle.rg_regions.specs.Grove.{Grove}
use Rattle.rg_frames.specs.Layers.{Layer, layers}
use Rattle.rg_frames.specs.Stack.{Stack}
use Rattle.rg_frames.specs.Changes.{MarksLie}
use Rattle.rg_heap.specs.Ends.{CanLeave, GoesAlong, IsTopTemp, Released}
use Rattle.rg_heap.specs.Parts.{Parts as HeapParts}
use Rattle.rg_stack.specs.Machine.{Window, end_slots, place_of, top_slots}
use Rattle.rg_stack.specs.Effects.{Go}
use Rattle.rg_stack.specs.Tops.{without_top}
use Rattle.rg_stack.specs.Needs.{is_empty, owned_once, owner_leads, temps_may_go}
use Rattle.rg_stack.specs.Places.{top_base}
use Rattle.rg_stack.proofs.Callers.List.{empty-is}
use Rattle.rg_held.specs.Frees.{free_act, freed, left_with, window_that_ends}
use Rattle.rg_view.specs.View.{frame_of, frames_of, machine_of}
use Rattle.rg_view.proofs.Callers.Gone.Temporaries.{top-row}
use Rattle.rg_machine.specs.Core.{Core, Has, work_of}
use Rattle.rg_machine.specs.Effects.{ending, without}
use Rattle.rg_machine.specs.Keeps.{backs}
use Rattle.rg_machine.specs.Parts.{Parts, machine_in}
use Rattle.rg_machine.specs.Cores.{core_of}
use Rattle.rg_machine.specs.Stands.{Stands}
use Rattle.rg_machine.proofs.Release.Fewer.{fewer-ended, fewer-once, fewer-without}
use Rattle.rg_machine.proofs.Leave.Behind.{left}
use Rattle.rg_machine.proofs.Leave.Heap.{may-leave, number}
use Rattle.rg_machine.proofs.Leave.Effect.{ends-none}
use Rattle.rg_machine.proofs.Callers.Word.{empty-words}
use Rattle.rg_machine.proofs.Leave.Whole.{whole-effect, whole-stands}

-- nothing is on the stack, and each closed region is owned once
leave-front : (c : Core) (s : ℕ) → Has (i.Leave s) c → (is_empty c.stack ≡ true) × (owned_once c.machine ≡ true)
leave-front c s given =
    let m = c.machine in
    let a = and_parts (is_empty c.stack && owned_once m && temps_may_go (end_slots m s) && owner_leads (end_slots m s))
    (nat_le (place_of m.frames s) (top_base m.windows)) given in
    let b = and_parts (is_empty c.stack && owned_once m && temps_may_go (end_slots m s)) (owner_leads (end_slots m s)) a.0 in
    let d = and_parts (is_empty c.stack && owned_once m) (temps_may_go (end_slots m s)) b.0 in
    and_parts (is_empty c.stack) (owned_once m) d.0

pub leave-stack : (c : Core) (s : ℕ) → Has (i.Leave s) c → c.stack ≡ []
leave-stack c s given = empty-is c.stack (leave-front c s given).0

pub leave-once : (c : Core) (s : ℕ) → Has (i.Leave s) c → owned_once c.machine ≡ true
leave-once c s given = (leave-front c s given).1

-- so it is behind the end of its slots
pub once-behind : (c d : Core) (s : ℕ) → d ≡ ending c s → Has (i.Leave s) c → owned_once d.machine ≡ true
once-behind c d s e given =
    let x = (without c (drop s (top_slots c.machine.frames))).machine in
    subst (λ (d : Core). owned_once d.machine ≡ true) (sym e)
    (fewer-once x (end_slots x s) (fewer-ended x s)
    (fewer-once c.machine x (fewer-without c (drop s (top_slots c.machine.frames))) (leave-once c s given)))

-- no word is on the stack
pub leave-words : (p : Parts) (s : ℕ) → Has (i.Leave s) (core_of p) → p.words ≡ []
leave-words p s given = empty-words p.heap.cells.heap p.words (ap length (leave-stack (core_of p) s given))

-- the topmost window's number isn't that of what is gone
pub number-fits : (p : HeapParts) (v : Stack) (at : ℕ) (q : Serials p.cells.heap) (g : Grove p.cells p.regions) (s : Stands p v)
    (two : 2 ≤ length v.windows) (once : owned_once (machine_of p v at) ≡ true) (lie : MarksLie v) → v.next < 2 ^ 64
    → number p v at q g s two once lie ≢ 2 ^ 64 - 1
number-fits p v at q g s two once lie fits e =
    let row = top-row p v at q g s.opened in
    let below = s.windows_next (length v.windows - 1) row.0 row.1 in
    absurd (omega (arith, below, fits, e))

-- frames go back where they did, whatever the heap
backs-shown : (h : Heap) (ls : List Layer) → backs (map (frame_of h) ls) ≡ map (λ (l : Layer). l.back) ls
backs-shown h [] = refl
backs-shown h (l ∷ ls) = ap (λ ns. l.back ∷ ns) (backs-shown h ls)

pub backs-same : (h k : Heap) (v w : Stack) → layers w ≡ layers v → backs (frames_of k w) ≡ backs (frames_of h v)
backs-same h k v w e =
    backs-shown k (layers w) ∙ ap (map (λ (l : Layer). l.back)) e ∙ sym (backs-shown h (layers v))

-- a window that is alone stays
alone-stays : (ws : List Window) → window_that_ends ws ≡ None → without_top ws ≡ ws
alone-stays [] e = refl
alone-stays (w ∷ []) e = refl
alone-stays (w ∷ v ∷ ws) e = absurd cc

pub leave-alone : (p mid : Parts) (s : ℕ) → core_of mid ≡ ending (core_of p) s → length mid.frames.windows < 2 → (at : ℕ) (go : Go) (input : List ℕ)
    → free_act empty at (i.Leave s) go (core_of p).stack (work_of (core_of p) input) ≡ go 0 (core_of mid).stack (work_of (core_of mid) input)
leave-alone p mid s e few at go input =
    let c = core_of p in
    let m = machine_in p in
    let windows : m.windows ≡ (machine_in mid).windows = sym (ap (λ (c : Core). c.machine.windows) e) in
    let ends : window_that_ends m.windows ≡ None = ap window_that_ends windows ∙ ends-none mid.heap.regions mid.frames few in
    ap (λ o. (let x = (freed (Some (left_with m s o)) (work_of c input)).machine in
    go 0 c.stack (record { machine = record (end_slots x s) { windows = without_top x.windows }; input = input; printed = c.printed }))) ends
    ∙ ap (λ ws. go 0 c.stack (record { machine = record (ending c s).machine { windows = ws }; input = input; printed = c.printed }))
    (alone-stays m.windows ends)
    ∙ sym (ap (λ (k : Core). go 0 k.stack (work_of k input)) e)

-- all of it in one, where the code has the machine and its parts (p), and the same behind the end of the slots (mid)
module _ (p old mid ended : Parts) (s : ℕ) (view : p ≡ old) (behind : mid ≡ ended) (ends : core_of ended ≡ ending (core_of old) s)
    (has : Has (i.Leave s) (core_of old)) where
  pub mid-ended : core_of mid ≡ ending (core_of p) s
  mid-ended = ap core_of behind ∙ ends ∙ ap (λ (x : Parts). ending (core_of x) s) (sym view)

  pub mid-given : Has (i.Leave s) (core_of p)
  mid-given = subst (λ (x : Parts). Has (i.Leave s) (core_of x)) (sym view) has

  mid-once : owned_once (machine_in mid) ≡ true
  mid-once = once-behind (core_of p) (core_of mid) s mid-ended mid-given

  module _ (q : Serials mid.heap.cells.heap) (g : Grove mid.heap.cells mid.heap.regions) (h : Stands mid.heap mid.frames)
      (two : 2 ≤ length mid.frames.windows) (lie : MarksLie mid.frames) where
    pub mid-may-leave : CanLeave mid.heap mid.frames
    mid-may-leave = may-leave mid.heap mid.frames mid.at q g h two mid-once lie

    module _ (fits : mid.frames.next < 2 ^ 64) (q0 : Serials p.heap.cells.heap) (g0 : Grove p.heap.cells p.heap.regions)
        (h0 : Stands p.heap p.frames) (new : Parts) (gn : Grove new.heap.cells new.heap.regions)
        (rel : Released mid.heap new.heap (GoesAlong mid.heap mid.frames) (IsTopTemp mid.frames)) where
      pub mid-stands : Stands new.heap (left mid.frames)
      mid-stands =
          whole-stands p mid s q0 g0 h0 q g h mid-ended mid-given mid-once two lie
          (number-fits mid.heap mid.frames mid.at q g h two mid-once lie fits) new gn rel

      pub mid-effect : new.frames ≡ left mid.frames → new.words ≡ mid.words → new.at ≡ mid.at → new.printed ≡ mid.printed
          → (at : ℕ) (go : Go) (input : List ℕ)
          → free_act empty at (i.Leave s) go (core_of p).stack (work_of (core_of p) input)
          ≡ go 0 (core_of new).stack (work_of (core_of new) input)
      mid-effect =
          whole-effect p mid s q0 g0 h0 q g h mid-ended mid-given mid-once two lie
          (number-fits mid.heap mid.frames mid.at q g h two mid-once lie fits) new gn rel
