-- The machine behind a freeze and a merge, and what these do.
use Rattle.std.proofs.Common.{◌≡◌, ◌⊎◌, inl, inr, ℕ, zero, suc, ◌+◌, ◌&&◌, Bool as Truth, true, false, not, List, [], ◌∷◌, ◌++◌, map}
use Rattle.std.proofs.Common.{Option, Result, Some, None, Ok, Err, ok_or, option_map, slice_get, slice_set, unwrap_or, refl, sym, ap, subst, ◌∙◌}
use Rattle.std.specs.Prelude.{ℤ}
use Rattle.std.specs.List.{list_any}
use Rattle.std.proofs.lemmas.List.{reverse-append}
use Rattle.std.proofs.lemmas.Option.{same_Some}
use Rattle.std.proofs.lemmas.Bool.{and_parts}
use Rattle.rg_base.specs.declared.object.Label.{Label}
use Rattle.rg_base.specs.declared.object.Label.TheVariants.{Region, Frozen}
use Rattle.rg_base.specs.declared.object.Seen.{Seen}
use Rattle.rg_base.specs.declared.outcome.Trap.{Trap}
use Rattle.rg_base.specs.declared.outcome.Trap.TheVariants as trap
use Rattle.rg_base.specs.declared.value.Val.{Val}
use Rattle.rg_base.specs.declared.value.Val.TheVariants as val
use Rattle.rg_base.specs.declared.value.Word.{Word}
use Rattle.rg_base.specs.declared.value.Word.TheVariants as word
use Rattle.rg_code.specs.Code.{empty}
use Rattle.rg_code.specs.declared.op.Op.{Op}
use Rattle.rg_code.specs.declared.op.Op.TheVariants as i
use Rattle.rg_rules.specs.Evaluation.{object_at}
use Rattle.rg_rules.specs.Regions.{region_of, relabelled}
use Rattle.rg_cells.specs.declared.cell.Body.{Body}
use Rattle.rg_cells.specs.Table.{body_at, Serials}
use Rattle.rg_regions.specs.Grove.{Grove}
use Rattle.rg_frames.specs.Stack.{Stack}
use Rattle.rg_frames.specs.Changes.{with_slot}
use Rattle.rg_stack.specs.Machine.{Frame, Machine, put_slot, slot_at, top_slots}
use Rattle.rg_stack.specs.Effects.{Go, Traps, Walked, on_object, relabel, stored, with_store}
use Rattle.rg_stack.specs.Tops.{Work, top_region}
use Rattle.rg_stack.specs.Needs.{is_closed, owned_once, owns_or_nil}
use Rattle.rg_heap.specs.Parts.{Parts}
use Rattle.rg_heap.specs.Answers.{val_of}
use Rattle.rg_heap.specs.Moves.{Freezes, Merges}
use Rattle.rg_view.specs.View.{frames_of, machine_of, object_of, store_of, values_of}
use Rattle.rg_view.proofs.Callers.Look.{store-held, val-held}
use Rattle.rg_view.proofs.Callers.Shown.{frames-same, held-body, values-same}
use Rattle.rg_view.proofs.Callers.Frame.{slot-frames}
use Rattle.rg_view.proofs.Callers.Label.{labels-same}
use Rattle.rg_view.proofs.Callers.Gone.Managers.{labelled-forgotten}
use Rattle.rg_held.specs.Frees.{forgotten, free_act}
use Rattle.rg_stack.specs.Refusals.{Takes}
use Rattle.rg_machine.specs.declared.next.Next.TheVariants as next
use Rattle.rg_machine.specs.Acts.{Acts}
use Rattle.rg_machine.specs.Core.{ActIs, Core, Effect, Has, work_of}
use Rattle.rg_machine.specs.Keeps.{backs}
use Rattle.rg_machine.specs.Parts.{Parts as Whole, machine_in}
use Rattle.rg_machine.specs.Cores.{core_of}
use Rattle.rg_machine.specs.Stands.{AllLead, Leads, Stands}
use Rattle.rg_machine.proofs.Moves.Behind.{Moves, leads-moved, opened-moved, stands-moved}
use Rattle.rg_machine.proofs.Moves.Given.{NoSlot, Owned, Owns, active, freeze-moves, frozen, held, merge-moves, no-object, shown}
use Rattle.rg_machine.proofs.Moves.Given.{slot-leads, slot-shown}
use Rattle.rg_machine.proofs.Write.Slot.{backs-slots}

-- what a heap with frames and words shows
abbrev pub core : Parts → Stack → (at : ℕ) → List Word → Option Val → Core
core p v at words printed = record { machine = machine_of p v at; stack = values_of p.cells.heap words; printed = printed }

module _ (p : Parts) (v : Stack) (at : ℕ) (q : Serials p.cells.heap) (g : Grove p.cells p.regions) (st : Stands p v)
    (k slot : ℕ) (o : Owns p v at k slot) (x : Owned p v slot) where
  -- the object that is owned
  object : (b : Body) → body_at p.cells.heap slot ≡ Some b
      → object_at (store_of p.cells.heap) (slot_at (machine_of p v at) k) ≡ Ok (object_of p.cells.heap (Some b))
  object b e =
      ap (object_at (store_of p.cells.heap)) (shown p v at q g st k slot o ∙ val-held p.cells.heap slot b e)
      ∙ ap (λ y. ok_or y trap.Nil) (store-held p.cells.heap slot b q e)

  label : (b : Body) → body_at p.cells.heap slot ≡ Some b → b.label ≡ Region x.region
  label b e = same_Some b.label (Region x.region) (sym (ap (option_map (λ (b : Body). b.label)) e) ∙ x.lies)

  -- so it goes on with its label
  on-owned : (F : Label → Walked) → (elim (object_at (store_of p.cells.heap) (slot_at (machine_of p v at) k)) [
    | Ok y ↦ F y.label
    | Err t ↦ Traps t
  ]) ≡ F (Region x.region)
  on-owned F =
      let b = held-body p.cells.heap slot (held p v at q g st k slot o) in
      ap (λ (r : Result Seen Trap). elim r [ Ok y ↦ F y.label | Err t ↦ Traps t ]) (object b.0 b.1) ∙ ap F (label b.0 b.1)

  module _ (new : Parts) (g₂ : Grove new.cells new.regions) (regions : List ℕ) (l : Label)
      (m : Moves p new v (v.first + k) regions l) (words : List Word) (printed : Option Val) where
    -- the store behind it, where nothing was forgotten yet
    abbrev moved : List ℕ → Work
    moved input =
        with_store (work_of (core p v at words printed) input) (relabelled regions l (store_of p.cells.heap))

    moved-machine : (input : List ℕ) → machine_of new (with_slot v k word.Nil) at ≡ (forgotten (stored (moved input) k val.Nil)).machine
    moved-machine input =
        ap (λ (fs : List Frame). record (machine_of new v at) { frames = fs }) (slot-frames new.cells.heap v k word.Nil)
        ∙ ap (λ (y : Machine). put_slot y k val.Nil)
        (labelled-forgotten v at p new regions l input printed m.labels m.numbers q st.numbers g₂
        (stands-moved p new v k regions l g st m).bridges (opened-moved p new v k regions l g st m))

    moved-stack : values_of new.cells.heap (words ++ word.Slot slot ∷ []) ≡ slot_at (machine_of p v at) k ∷ values_of p.cells.heap words
    moved-stack =
        ap (map (val_of new.cells.heap)) (reverse-append words (word.Slot slot ∷ []))
        ∙ ap (λ y. y ∷ values_of new.cells.heap words)
        (labels-same p.cells.heap new.cells.heap regions l m.labels slot ∙ sym (shown p v at q g st k slot o))
        ∙ ap (λ ys. slot_at (machine_of p v at) k ∷ ys)
        (values-same p.cells.heap new.cells.heap words (λ j s e. labels-same p.cells.heap new.cells.heap regions l m.labels s))

    -- what it goes on with
    moved-goes : (go : Go) (input : List ℕ)
        → go 0 (slot_at (machine_of p v at) k ∷ values_of p.cells.heap words) (forgotten (stored (moved input) k val.Nil))
        ≡ go 0 (values_of new.cells.heap (words ++ word.Slot slot ∷ []))
        (work_of (core new (with_slot v k word.Nil) at (words ++ word.Slot slot ∷ []) printed) input)
    moved-goes go input =
        ap (λ ys. go 0 ys (forgotten (stored (moved input) k val.Nil))) (sym moved-stack)
        ∙ ap (λ (y : Machine). go 0 (values_of new.cells.heap (words ++ word.Slot slot ∷ []))
        (record { machine = y; input = input; printed = printed })) (sym (moved-machine input))

  -- frames go back where they did
  backs-moved : (new : Parts) (regions : List ℕ) (l : Label) → Moves p new v (v.first + k) regions l
      → backs (machine_of new (with_slot v k word.Nil) at).frames ≡ backs (machine_of p v at).frames
  backs-moved new regions l m =
      ap backs (slot-frames new.cells.heap v k word.Nil)
      ∙ backs-slots (slice_set (top_slots (frames_of new.cells.heap v)) k val.Nil) (frames_of new.cells.heap v)
      ∙ ap backs (frames-same p.cells.heap new.cells.heap v (λ j s e. labels-same p.cells.heap new.cells.heap regions l m.labels s))

  pub freeze-acts : (new : Parts) → Grove new.cells new.regions → Freezes p new x.key → (words : List Word) (printed : Option Val)
      → (at₂ : ℕ) (go : Go) (input : List ℕ)
      → free_act empty at₂ (i.Freeze k) go (values_of p.cells.heap words) (work_of (core p v at words printed) input)
      ≡ go 0 (values_of new.cells.heap (words ++ word.Slot slot ∷ []))
      (work_of (core new (with_slot v k word.Nil) at (words ++ word.Slot slot ∷ []) printed) input)
  freeze-acts new g₂ f words printed at₂ go input =
      on-owned (λ l. go 0 (slot_at (machine_of p v at) k ∷ values_of p.cells.heap words)
      (forgotten (stored (with_store (work_of (core p v at words printed) input)
      (relabel true Frozen (work_of (core p v at words printed) input) (region_of l))) k val.Nil)))
      ∙ moved-goes new g₂ (frozen p v at q g st k slot o x) Frozen (freeze-moves p v at q g st k slot o x new f) words printed go input

  pub freeze-backs : (new : Parts) → Freezes p new x.key
      → backs (machine_of new (with_slot v k word.Nil) at).frames ≡ backs (machine_of p v at).frames
  freeze-backs new f =
      backs-moved new (frozen p v at q g st k slot o x) Frozen (freeze-moves p v at q g st k slot o x new f)

  pub merge-backs : (new : Parts) → Merges p new x.key (active p v at q g st k slot o x).window.region
      → backs (machine_of new (with_slot v k word.Nil) at).frames ≡ backs (machine_of p v at).frames
  merge-backs new m =
      backs-moved new (x.region ∷ []) (Region (active p v at q g st k slot o x).number) (merge-moves p v at q g st k slot o x new m)

  pub merge-acts : (new : Parts) → Grove new.cells new.regions → Merges p new x.key (active p v at q g st k slot o x).window.region
      → (words : List Word) (printed : Option Val) (at₂ : ℕ) (go : Go) (input : List ℕ)
      → free_act empty at₂ (i.Merge k) go (values_of p.cells.heap words) (work_of (core p v at words printed) input)
      ≡ go 0 (values_of new.cells.heap (words ++ word.Slot slot ∷ []))
      (work_of (core new (with_slot v k word.Nil) at (words ++ word.Slot slot ∷ []) printed) input)
  merge-acts new g₂ m words printed at₂ go input =
      on-owned (λ l. go 0 (slot_at (machine_of p v at) k ∷ values_of p.cells.heap words)
      (forgotten (stored (with_store (work_of (core p v at words printed) input)
      (relabel false (Region (top_region (machine_of p v at).windows)) (work_of (core p v at words printed) input) (region_of l))) k val.Nil)))
      ∙ ap (λ n. go 0 (slot_at (machine_of p v at) k ∷ values_of p.cells.heap words)
      (forgotten (stored (with_store (work_of (core p v at words printed) input)
      (relabelled (x.region ∷ []) (Region n) (store_of p.cells.heap))) k val.Nil))) (active p v at q g st k slot o x).shown
      ∙ moved-goes new g₂ (x.region ∷ []) (Region (active p v at q g st k slot o x).number)
      (merge-moves p v at q g st k slot o x new m) words printed go input

-- a slot that holds no reference leads to no object
pub no-object-acts : (y now : Whole) → y ≡ now → Stands y.heap y.frames → (k : ℕ) (w : Word)
    → w ≡ unwrap_or (slice_get y.frames.slots (y.frames.first + k)) word.Nil → NoSlot w
    → (F : Seen → Walked) → on_object (machine_in now).store (slot_at (machine_in now) k) F ≡ Traps trap.Nil
no-object-acts y now same st k w is n F =
    subst (λ (z : Whole). on_object (machine_in z).store (slot_at (machine_in z) k) F ≡ Traps trap.Nil) same
    (ap (λ (r : Result Seen Trap). elim r [ Ok o ↦ F o | Err t ↦ Traps t ])
    (ap (object_at (store_of y.heap.cells.heap)) (slot-shown y.heap y.frames y.at st k ∙ ap (val_of y.heap.cells.heap) (sym is))
    ∙ no-object y.heap (store_of y.heap.cells.heap) w n))

-- what takes an object from a slot traps where there is none, and changes nothing
pub takes-nothing : {f : Effect} {at : ℕ} (p : Whole) → ActIs f at (core_of p) (core_of p) (next.Trap trap.Nil)
    → Acts f at Takes false false p p (next.Trap trap.Nil)
takes-nothing p effect = record { effect = effect; keeps = refl; high = record { made = refl; high = refl } }

-- an element of a list, or the one behind it
behind-last : (words : List Word) (w y : Word) (j : ℕ) → slice_get (words ++ w ∷ []) j ≡ Some y → (slice_get words j ≡ Some y) ⊎ (w ≡ y)
behind-last [] w y zero e = inr (same_Some w y e)
behind-last [] w y (suc j) e = inl e
behind-last (z ∷ words) w y zero e = inl e
behind-last (z ∷ words) w y (suc j) e = behind-last words w y j e

-- what an instruction that moves a region is given
owns-given : (p : Parts) (v : Stack) (at k slot : ℕ) (a : Truth)
    → (a && owned_once (machine_of p v at) && owns_or_nil (machine_of p v at) (slot_at (machine_of p v at) k)) ≡ true
    → unwrap_or (slice_get v.slots (v.first + k)) word.Nil ≡ word.Slot slot → Owns p v at k slot
owns-given p v at k slot a e is =
    let m = machine_of p v at in
    let x = and_parts (a && owned_once m) (owns_or_nil m (slot_at m k)) e in
    record { stands = there (slice_get v.slots (v.first + k)) is; once = (and_parts a (owned_once m) x.0).1; owner = x.1 }
  where
    there : (o : Option Word) → unwrap_or o word.Nil ≡ word.Slot slot → o ≡ Some (word.Slot slot)
    there None e = absurd cc
    there (Some w) e = ap Some e

pub freeze-owns : (y now : Whole) → y ≡ now → (k slot : ℕ) (w : Word) → Has (i.Freeze k) (core_of now)
    → w ≡ unwrap_or (slice_get y.frames.slots (y.frames.first + k)) word.Nil → w ≡ word.Slot slot → Owns y.heap y.frames y.at k slot
freeze-owns y now same k slot w given is ref =
    owns-given y.heap y.frames y.at k slot (not (list_any (is_closed (machine_in y)) (core_of y).stack))
    (subst (λ (z : Whole). Has (i.Freeze k) (core_of z)) (sym same) given) (sym is ∙ ref)

pub merge-owns : (y now : Whole) → y ≡ now → (k slot : ℕ) (w : Word) → Has (i.Merge k) (core_of now)
    → w ≡ unwrap_or (slice_get y.frames.slots (y.frames.first + k)) word.Nil → w ≡ word.Slot slot → Owns y.heap y.frames y.at k slot
merge-owns y now same k slot w given is ref =
    owns-given y.heap y.frames y.at k slot (not (list_any (is_closed (machine_in y)) (core_of y).stack))
    (subst (λ (z : Whole). Has (i.Merge k) (core_of z)) (sym same) given) (sym is ∙ ref)

-- a word that is no reference
pub no-slot : (w : Word) → (w ≡ word.Nil) ⊎ (((z : ℤ) × (w ≡ word.Int z)) ⊎ ((b : Truth) × (w ≡ word.Bool b))) → NoSlot w
no-slot w (inl e) = subst NoSlot (sym e) tt
no-slot w (inr (inl e)) = subst NoSlot (sym e.1) tt
no-slot w (inr (inr e)) = subst NoSlot (sym e.1) tt

module _ (p : Parts) (v : Stack) (at : ℕ) (q : Serials p.cells.heap) (g : Grove p.cells p.regions) (st : Stands p v)
    (k slot : ℕ) (o : Owns p v at k slot) (x : Owned p v slot) (words : List Word) (lead : AllLead p v words) where
  -- the invariant behind it
  moved-invariant : (new : Parts) (regions : List ℕ) (l : Label) → Moves p new v (v.first + k) regions l
      → Stands new (with_slot v k word.Nil) × AllLead new (with_slot v k word.Nil) (words ++ word.Slot slot ∷ [])
  moved-invariant new regions l m = (
    stands-moved p new v k regions l g st m,
    λ j w e. elim (behind-last words (word.Slot slot) w j e) [
      | inl was ↦ leads-moved p new v k regions l g st m w (lead j w was)
      | inr is ↦ subst (Leads new (with_slot v k word.Nil)) is
          (leads-moved p new v k regions l g st m (word.Slot slot) (slot-leads p v at q g st k slot o))
    ],
  )

  pub freeze-invariant : (new : Parts) → Freezes p new x.key
      → Stands new (with_slot v k word.Nil) × AllLead new (with_slot v k word.Nil) (words ++ word.Slot slot ∷ [])
  freeze-invariant new f = moved-invariant new (frozen p v at q g st k slot o x) Frozen (freeze-moves p v at q g st k slot o x new f)

  pub merge-invariant : (new : Parts) → Merges p new x.key (active p v at q g st k slot o x).window.region
      → Stands new (with_slot v k word.Nil) × AllLead new (with_slot v k word.Nil) (words ++ word.Slot slot ∷ [])
  merge-invariant new m =
      moved-invariant new (x.region ∷ []) (Region (active p v at q g st k slot o x).number) (merge-moves p v at q g st k slot o x new m)

-- what it does, where the machine in front of it shows this
abbrev pub Does : Op → (now : Whole) → Parts → Stack → (at : ℕ) → List Word → Option Val → Type 0
Does op now new u at words printed =
    (at₂ : ℕ) (go : Go) (input : List ℕ) → free_act empty at₂ op go (core_of now).stack (work_of (core_of now) input)
    ≡ go 0 (core new u at words printed).stack (work_of (core new u at words printed) input)

does-by : (op : Op) (y now : Whole) → y ≡ now → (new : Parts) (u u₂ : Stack) → u₂ ≡ u → (words words₂ : List Word) → words₂ ≡ words
    → Does op y new u y.at words y.printed → Does op now new u₂ y.at words₂ y.printed
does-by op y now same new u u₂ e words words₂ f h =
    subst (λ (z : Whole). Does op z new u₂ y.at words₂ y.printed) same
    (subst (λ (z : Stack). Does op y new z y.at words₂ y.printed) (sym e)
    (subst (λ (z : List Word). Does op y new u y.at z y.printed) (sym f) h))

module _ (y now : Whole) (same : y ≡ now) (q : Serials y.heap.cells.heap) (g : Grove y.heap.cells y.heap.regions) (st : Stands y.heap y.frames)
    (k slot : ℕ) (o : Owns y.heap y.frames y.at k slot) (x : Owned y.heap y.frames slot) (new : Parts) (g₂ : Grove new.cells new.regions)
    (u : Stack) (e : u ≡ with_slot y.frames k word.Nil) (words : List Word) (f : words ≡ y.words ++ word.Slot slot ∷ []) where
  pub freeze-does : Freezes y.heap new x.key → Does (i.Freeze k) now new u y.at words y.printed
  freeze-does z =
      does-by (i.Freeze k) y now same new (with_slot y.frames k word.Nil) u e (y.words ++ word.Slot slot ∷ []) words f
      (freeze-acts y.heap y.frames y.at q g st k slot o x new g₂ z y.words y.printed)

  pub merge-does : Merges y.heap new x.key (active y.heap y.frames y.at q g st k slot o x).window.region
      → Does (i.Merge k) now new u y.at words y.printed
  merge-does z =
      does-by (i.Merge k) y now same new (with_slot y.frames k word.Nil) u e (y.words ++ word.Slot slot ∷ []) words f
      (merge-acts y.heap y.frames y.at q g st k slot o x new g₂ z y.words y.printed)
