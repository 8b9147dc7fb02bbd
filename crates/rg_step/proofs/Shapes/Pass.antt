-- The step of a `collect`: no other instruction stands in it, so it changes nothing but where the machine stands.
use Rattle.std.proofs.Common.{◌≡◌, ℕ, ◌+◌, Bool as Truth, true, false, true≢false, inl, inr, List, [], ◌∷◌, length, drop, Option, Some, None}
use Rattle.std.proofs.Common.{slice_get, refl, sym, ap, ◌∙◌, subst, arith}
use Rattle.std.proofs.lemmas.List.{drop-drop}
use Rattle.std.proofs.lemmas.Option.{none-some}
use Rattle.rg_base.specs.declared.event.Cause.{Cause}
use Rattle.rg_base.specs.declared.event.Cause.TheVariants.{Asked, Paced}
use Rattle.rg_base.specs.declared.outcome.Outcome.TheVariants as outcome
use Rattle.rg_tree.specs.Tree.{stmt, StmtKind, declare, assign, assign_element, collect, Class, Tree}
use Rattle.rg_rules.specs.Outside.Asks.{kind_makes}
use Rattle.rg_rules.specs.Items.{Item, Do, EndAt}
use Rattle.rg_rules.specs.State.{Frame as Body, State, Window as Opened}
use Rattle.rg_sound.specs.Frames.{FramesFit}
use Rattle.rg_code.specs.declared.op.Op.{Op}
use Rattle.rg_code.specs.declared.op.Op.TheVariants as i
use Rattle.rg_code.specs.Code.{Code}
use Rattle.rg_code.specs.Dues.{due_at}
use Rattle.rg_code.specs.Places.{scope_of, Level, Lies}
use Rattle.rg_code.specs.Shapes.{IsStep}
use Rattle.rg_stack.specs.Dues.{first_due, kind_due, paced}
use Rattle.rg_stack.specs.Machine.{Frame, Machine}
use Rattle.rg_stack.specs.Shows.{ShowsFrames, levels_of}
use Rattle.rg_stack.specs.Left.{SomeLeft}
use Rattle.rg_stack.proofs.Callers.Due.{steps-due}
use Rattle.rg_stack.proofs.Callers.Left.{do-other, running-left}
use Rattle.rg_stack.proofs.Callers.Mark.{drop-stands, first-drop, lies_at_mark, mark-there}
use Rattle.rg_held.specs.Frees.{free_step_from as step_from}
use Rattle.rg_machine.specs.Parts.{Parts, machine_in}
use Rattle.rg_machine.proofs.Callers.High.{none-same}
use Rattle.rg_compute.specs.Known.{GoesTo, with_left}
use Rattle.rg_compute.proofs.Shape.{lands, whole}
use Rattle.rg_step.specs.Frees.{FreesOnly, StaysGone}
use Rattle.rg_step.specs.Inner.Serving.{is_asked}
use Rattle.rg_step.specs.States.{Raises}
use Rattle.rg_step.specs.Steps.{IsResting, IsRunning, Runs, StepsOn}
use Rattle.rg_step.proofs.Shapes.KnownSteps.{goes-steps}

-- why a step may collect, where that is what it is for

pub is-asked : (due : Option Cause) → is_asked due ≡ true → due ≡ Some Asked
is-asked None e = absurd (true≢false (sym e))
is-asked (Some Asked) e = refl
is-asked (Some Paced) e = absurd (true≢false (sym e))

no-paced : (b : Truth) → paced b ≡ Some Asked → ⊥
no-paced true e = cc
no-paced false e = cc

-- What stands in it

module _ (classes : List Class) (code : List Op) where
  there : (at : ℕ) (o : Op) (os : List Op) → drop at code ≡ o ∷ os → slice_get code at ≡ Some o
  there at o os e = sym (first-drop code at) ∙ ap (λ (l : List Op). slice_get l 0) e

  behind : (at : ℕ) (o : Op) (os : List Op) → drop at code ≡ o ∷ os → drop (at + 1) code ≡ os
  behind at o os e = sym (drop-drop 1 at code) ∙ ap (drop 1) e

  kind-step : (l : Level) (ls : List Level) (line : ℕ) (k : StmtKind) (rest : List Item) (at : ℕ) → SomeLeft rest
      → kind_due classes k ≡ Some Asked → Lies classes code (l ∷ ls) (Do (stmt line k) ∷ rest) at → IsStep code at (i.Collect ∷ [])
  kind-step l ls line (declare x t r) rest at left due h = absurd (no-paced (kind_makes classes (declare x t r)) due)
  kind-step l ls line (assign p r) rest at left due h = absurd (no-paced (kind_makes classes (assign p r)) due)
  kind-step l ls line (assign_element q e r) rest at left due h = absurd (no-paced (kind_makes classes (assign_element q e r)) due)
  kind-step l ls line collect [] at left due h = absurd left
  kind-step l ls line collect (j ∷ rest) at left due h =
      let e = drop-stands code at (i.Mark line ∷ i.Collect ∷ []) h.0.0 in
      let m = mark-there code (at + 2) (lies_at_mark classes code (l ∷ ls) j rest (at + 2) h.1) in (
        (line, there at _ _ e),
        (there (at + 1) _ _ (behind at _ _ e), tt),
        (m.0, there (at + 2) _ _ m.1),
      )
  kind-step l ls line _ rest at left due h = absurd (none-some Asked due)

  item-step : (l : Level) (ls : List Level) (j : Item) (rest : List Item) (at : ℕ) → ((j ≡ EndAt 0 → ⊥) → SomeLeft rest)
      → first_due classes (j ∷ rest) ≡ Some Asked → Lies classes code (l ∷ ls) (j ∷ rest) at → IsStep code at (i.Collect ∷ [])
  item-step l ls (Do (stmt line k)) rest at left due h = kind-step l ls line k rest at (left (do-other (stmt line k))) due h
  item-step l ls _ rest at left due h = absurd (none-some Asked due)

all-steps : (t : Tree) (code : List Op) (at : ℕ) (mfs : List Frame) (fs : List Body) (ws : List Opened) (items : List Item) → SomeLeft items
    → FramesFit t fs ws items → ShowsFrames mfs fs → Lies t.classes code (levels_of mfs fs) items at
    → first_due t.classes items ≡ Some Asked → IsStep code at (i.Collect ∷ [])
all-steps t code at mfs fs ws [] left frames shows lies due = absurd left
all-steps t code at mfs [] ws (j ∷ rest) left frames shows lies due = absurd frames
all-steps t code at [] (f ∷ fs) ws (j ∷ rest) left frames shows lies due = absurd shows
all-steps t code at (mf ∷ mfs) (f ∷ fs) ws (j ∷ rest) left (inl h) shows lies due =
    item-step t.classes code (record { scope = scope_of f.locals; slots = length mf.slots; target = f.target; back = mf.back }) (levels_of mfs fs)
    j rest at (running-left t f fs ws j rest h) due lies
all-steps t code at (mf ∷ mfs) (f ∷ fs) ws (j ∷ rest) left (inr h) shows lies due = absurd (subst SomeLeft h.no_item left)

pub asked-step : (t : Tree) (code : Code) (m : Machine) (p : State) → Runs t code m p → due_at code.ops m.at ≡ Some Asked
    → IsStep code.ops m.at (i.Collect ∷ [])
asked-step t code m p r due =
    let h = r.shows in
    let first : first_due t.classes p.items ≡ Some Asked =
    sym (steps-due t code h.grown p r.accepted r.fits h.shows r.left) ∙ ap (due_at code.ops) (sym h.beside.at) ∙ due in
    subst (λ n. IsStep code.ops n (i.Collect ∷ [])) (sym h.beside.at)
    (all-steps t code.ops h.grown.at h.grown.frames p.frames p.windows p.items r.left r.fits.frames h.shows.slots h.shows.places first)

-- What it does

passes : (code : Code) (at : ℕ) (m : Machine) → IsStep code.ops at (i.Collect ∷ []) → GoesTo code at m (at + 2) m
passes code at m is input =
    let f = whole code.ops at (i.Collect ∷ []) is in
    let w = with_left (record m { at = at }) input in
    let two : at + 1 + 1 ≡ at + 2 = omega arith in
    ap (step_from code w) f.front ∙ lands code (at + 1 + 1) (at + 2) f.next w two f.behind

module _ (code : Code) (old new : Parts) (is : new ≡ record old { at = old.at + 2 }) where
  pub pass-steps : IsRunning code (machine_in old) → due_at code.ops old.at ≡ Some Asked → (bytes : List ℕ)
      → StepsOn code (machine_in old) (machine_in new) outcome.Running bytes bytes
  pass-steps (t, p, r) due bytes =
      subst (λ (n : Parts). StepsOn code (machine_in old) (machine_in n) outcome.Running bytes bytes) (sym is)
      (goes-steps code (machine_in old) (machine_in (record old { at = old.at + 2 }))
      (passes code old.at (machine_in old) (asked-step t code (machine_in old) p r due)) bytes)

  pub pass-high : Raises outcome.Running old new
  pass-high = inl (none-same old.heap new.heap (ap (λ (p : Parts). p.heap) is))

  pub pass-frees : FreesOnly old new
  pass-frees = subst (FreesOnly old) (sym is) (λ serial o held live away. absurd (live (away o held)))

  pub pass-stays : StaysGone old new
  pass-stays = subst (StaysGone old) (sym is) (λ serial e. e)

  pub pass-rests : IsResting old → IsResting new
  pass-rests r = subst IsResting (sym is) (record { words = r.words; printed = r.printed })
