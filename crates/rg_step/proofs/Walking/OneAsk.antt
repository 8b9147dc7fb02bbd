-- What a walk asks the source for: for one number at most, where it is orderly.
use Rattle.std.proofs.Common.{◌≡◌, ◌≢◌, ℕ, ℤ, ◌+◌, ◌⊎◌, inl, inr, Bool as Truth, true, false, List, drop, Option, Some, None, Result, Ok, Err, refl}
use Rattle.rg_base.specs.declared.value.Val.{Val}
use Rattle.rg_io.specs.Content.{Reply}
use Rattle.rg_input.specs.declared.refusal.NumberRefusal.{NumberRefusal}
use Rattle.rg_input.specs.declared.refusal.NumberRefusal.TheVariants as no
use Rattle.rg_input.specs.Numbers.{Pending, PiecesCame, AsksFor, is_fault, is_input_fault}
use Rattle.rg_input.proofs.Input.{PiecesCame-then, AsksFor-then}
use Rattle.rg_code.specs.declared.op.Op.{Op}
use Rattle.rg_code.specs.Code.{Code}
use Rattle.rg_stack.specs.Machine.{Machine}
use Rattle.rg_stack.specs.Refusals.{calm}
use Rattle.rg_machine.specs.Parts.{Parts, machine_in}
use Rattle.rg_step.specs.declared.step.Did.{Did}
use Rattle.rg_step.specs.declared.step.Did.TheVariants as did
use Rattle.rg_step.specs.declared.stopped.Stopped.{Stopped}
use Rattle.rg_step.specs.declared.stopped.Stopped.TheVariants as stopped
use Rattle.rg_step.specs.declared.walk.Pause.TheVariants as pause
use Rattle.rg_step.specs.Inner.Refusals.{Stands, at_fault, is_input, stopped_by}
use Rattle.rg_step.specs.Inner.Serving.{answer}
use Rattle.rg_step.specs.Inner.Walks.{WalkEnds}
use Rattle.rg_step.proofs.Walking.Leaves.{no-asking}

-- up to an address no number was taken, or one was, and nothing is asked from there on
abbrev pub AskedUpTo : {T : Type 0} → (T → Reply → T → Type 0) → List Op → (at : ℕ) → (old new : Pending) → (source after : T) → Type 0
AskedUpTo replies code at old new source after =
    PiecesCame replies old source new after ⊎ ((calm code false (drop at code) ≡ true) × ((n : Pending) × PiecesCame replies old source n after))

module _ (code : Code) (at : ℕ) (now new : Parts) where
  -- from where nothing is refused the walk doesn't ask

  calm-reads : (place : ℕ) → WalkEnds code at now new (Ok (pause.Read place)) → calm code.ops false (drop at code.ops) ≡ true → ⊥
  calm-reads place w calmed = no-asking code.ops place (machine_in new) (λ start asks. (w.leaves start asks (inr calmed)).0)

  calm-looks : (place : ℕ) → WalkEnds code at now new (Ok (pause.More place)) → calm code.ops false (drop at code.ops) ≡ true → ⊥
  calm-looks place w calmed = no-asking code.ops place (machine_in new) (λ start asks. w.leaves start asks (inr calmed))

  module _ {T : Type 0} {replies : T → Reply → T → Type 0} (old held rest : Pending) (source s t : T) (start : Machine) (asks : Truth) (stands : Stands code.ops start asks at (machine_in now))
      (so_far : AskedUpTo replies code.ops at old held source s) where
    -- a number was taken
    pub asked-read : (place : ℕ) → WalkEnds code at now new (Ok (pause.Read place)) → (n : Pending) × PiecesCame replies held s n t →
        AskedUpTo replies code.ops (place + 1) old rest source t
    asked-read place w next = elim so_far [
      | inl asked ↦ inr ((w.leaves start asks stands).1, (next.0, PiecesCame-then asked next.1))
      | inr calmed ↦ absurd (calm-reads place w calmed.0)
    ]

    -- there is none
    pub asks-read : (fault : Truth) (place : ℕ) → WalkEnds code at now new (Ok (pause.Read place)) → (n : Pending) × AsksFor replies fault held n s t →
        (n : Pending) × AsksFor replies fault old n source t
    asks-read fault place w next = elim so_far [
      | inl asked ↦ (next.0, AsksFor-then fault next.0 t asked next.1)
      | inr calmed ↦ absurd (calm-reads place w calmed.0)
    ]

    -- whether one is left was told
    pub asked-more : (place : ℕ) → WalkEnds code at now new (Ok (pause.More place)) → PiecesCame replies held s rest t →
        AskedUpTo replies code.ops (place + 1) old rest source t
    asked-more place w next = elim so_far [
      | inl asked ↦ inl (PiecesCame-then asked next)
      | inr calmed ↦ absurd (calm-looks place w calmed.0)
    ]

    -- it wasn't
    pub asks-more : (place : ℕ) → WalkEnds code at now new (Ok (pause.More place)) → AsksFor replies true held rest s t →
        (n : Pending) × AsksFor replies true old n source t
    asks-more place w next = elim so_far [
      | inl asked ↦ (rest, AsksFor-then true rest t asked next)
      | inr calmed ↦ absurd (calm-looks place w calmed.0)
    ]

-- at the end of a walk
pub asked-so : {T : Type 0} {replies : T → Reply → T → Type 0} (code : List Op) (at : ℕ) (old now : Pending) (source s : T) →
    AskedUpTo replies code at old now source s → (n : Pending) × PiecesCame replies old source n s
asked-so code at old now source s (inl asked) = (now, asked)
asked-so code at old now source s (inr calmed) = calmed.1

-- which stops are faults
pub other-stop : (why : Stopped) → why ≢ stopped.InputFault → is_input why ≡ false
other-stop (stopped.Trap k) other = refl
other-stop stopped.InputFault other = absurd (other refl)
other-stop stopped.Memory other = refl

pub stopped-fault : (why : NumberRefusal) → is_fault {A = ℤ} (Err why) ≡ is_input (stopped_by why)
stopped-fault no.End = refl
stopped-fault no.Input = refl
stopped-fault no.InputFault = refl

pub answer-input : (d : Result Did Stopped) (line : ℕ) (printed : Option Val) → at_fault d ≡ is_input_fault (answer d line printed)
answer-input (Ok did.Goes) line (Some v) = refl
answer-input (Ok did.Goes) line None = refl
answer-input (Ok did.Ends) line (Some v) = refl
answer-input (Ok did.Ends) line None = refl
answer-input (Err (stopped.Trap k)) line printed = refl
answer-input (Err stopped.InputFault) line printed = refl
answer-input (Err stopped.Memory) line printed = refl
