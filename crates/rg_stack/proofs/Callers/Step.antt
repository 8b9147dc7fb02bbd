-- Each step of an accepted program's code does what the step of the machine that never frees does. For callers.
use Rattle.std.proofs.Common.{◌≡◌, inl, inr, ℕ, None, List, refl, sym, ap, subst, ◌∙◌}
use Rattle.rg_base.specs.declared.value.Val.{Val}
use Rattle.rg_base.specs.declared.object.Seen.{Seen}
use Rattle.rg_base.specs.declared.words.Manager.{Manager}
use Rattle.rg_tree.specs.Tree.{Class, Tree}
use Rattle.rg_rules.specs.Acceptance.{Accepted}
use Rattle.rg_rules.specs.State.{State}
use Rattle.rg_rules.specs.Steps.{Stepped as Plain, Went, Trapped as Fails, next}
use Rattle.rg_sound.specs.Fit.{Fit}
use Rattle.rg_sound.specs.Held.{Holds as HoldsAll}
use Rattle.rg_sound.proofs.Owners.Data.{fit-data}
use Rattle.rg_sound.proofs.Held.{fit-holds}
use Rattle.rg_sound.proofs.Law.{step-keeps}
use Rattle.rg_code.specs.Code.{Code}
use Rattle.rg_code.specs.Lowering.{lowered}
use Rattle.rg_stack.specs.Machine.{Machine}
use Rattle.rg_stack.specs.Tops.{Work}
use Rattle.rg_stack.specs.Runs.{Stepped, Goes, Ends, Trapped, Lost, step}
use Rattle.rg_stack.specs.Shows.{Shows}
use Rattle.rg_stack.specs.Simulates.{Holds, Reached, SameStep}
use Rattle.rg_stack.specs.Left.{SomeLeft}
use Rattle.rg_stack.specs.Given.{given_step}
use Rattle.rg_stack.specs.Laws.{StepShows, StepsGiven}
use Rattle.rg_stack.proofs.Mirrors.{Mirrors, MirrorsWork, SameMove}
use Rattle.rg_stack.proofs.Callers.Frame.{work_of}
use Rattle.rg_stack.proofs.Callers.Less.{SameOrLost}
use Rattle.rg_stack.proofs.Callers.Given.{step-less}
use Rattle.rg_stack.proofs.Judgements.Item.{all-move}

-- with what is held, a machine that mirrors a state shows it
pub mirrors-shows : (classes : List Class) (code : Code) (m : Machine) (p : State) → HoldsAll classes p → Mirrors classes code m p
    → Shows classes code m p
mirrors-shows classes code m p held h = record {
  slots = h.slots;
  windows = h.windows;
  places = h.places;
  windows_made = h.windows_made;
  managers = h.managers;
  store = h.store;
  none_stale = held.none_stale;
  live_regions = held.live_regions;
}

reached : (classes : List Class) (code : Code) (before : List Val) (w : Work) (p : State) → HoldsAll classes p → MirrorsWork classes code before w p
    → Reached classes code before w p
reached classes code before w p held h = record {
  holds = record { shows = mirrors-shows classes code w.machine p held h.mirrors; input = h.input };
  output = h.output;
}

same_step : (classes : List Class) (code : Code) (before : List Val) (d : Plain) (x : Stepped) → ((p : State) → d ≡ Went p → HoldsAll classes p)
    → SameMove classes code before d x → SameStep classes code before d x
same_step classes code before (Went p) (Goes w) held h = (reached classes code before w p (held p refl) h.0, h.1)
same_step classes code before (Went p) (Ends w) held h = (reached classes code before w p (held p refl) h.0, h.1)
same_step classes code before (Went p) (Trapped t line) held h = absurd h
same_step classes code before (Went p) Lost held h = absurd h
same_step classes code before (Fails t line) (Goes w) held h = absurd h
same_step classes code before (Fails t line) (Ends w) held h = absurd h
same_step classes code before (Fails t line) (Trapped u here) held h = h
same_step classes code before (Fails t line) Lost held h = absurd h

-- what the machine works on, by the parts that it shares with the state
work-is : (w : Work) (store : List Seen) (managers : List Manager) (made : ℕ) (input : List ℕ) → w.machine.store ≡ store → w.machine.managers
    ≡ managers → w.machine.windows_made ≡ made → w.input ≡ input → w.printed ≡ None
    → w ≡ work_of store w.machine.frames w.machine.windows managers made w.machine.at input
work-is w store managers made input a b c d e =
    ap (λ s. record w { machine = record w.machine { store = s } }) a
    ∙ ap (λ m. record w { machine = record w.machine { store = store; managers = m } }) b
    ∙ ap (λ n. record w { machine = record w.machine { store = store; managers = managers; windows_made = n } }) c
    ∙ ap (λ i. record w { machine = record w.machine { store = store; managers = managers; windows_made = made }; input = i }) d
    ∙ ap (λ p. record w { machine = record w.machine { store = store; managers = managers; windows_made = made }; input = input; printed = p }) e

lowered_moves : (t : Tree) (w : Work) (p : State) → Accepted t → Fit t p → Holds t.classes (lowered t) w p → w.printed ≡ None → SomeLeft p.items
    → SameMove t.classes (lowered t) p.output (next t.classes p) (given_step (lowered t) w)
lowered_moves t w p accepted fit h quiet left =
    let shows = h.shows in
    let same = work-is w p.store p.managers p.windows_made p.input shows.store shows.managers shows.windows_made h.input quiet in
    let mirrors : Mirrors t.classes (lowered t) (work_of p.store w.machine.frames w.machine.windows p.managers p.windows_made w.machine.at
    p.input).machine p =
    record { slots = shows.slots; windows = shows.windows; places = shows.places; windows_made = refl; managers = refl; store = refl } in
    subst (λ x. SameMove t.classes (lowered t) p.output (next t.classes p) (given_step (lowered t) x)) (sym same)
    (all-move t accepted p.store p.managers p.windows_made w.machine.at p.input p.output w.machine.frames w.machine.windows p.frames p.windows
    p.items left
    fit.frames (fit-data t p fit) fit.bridges mirrors)

-- a step that isn't lost was given what it needs
given_by : (classes : List Class) (code : Code) (before : List Val) (d : Plain) (x y : Stepped) → SameOrLost x y
    → SameMove classes code before d x → x ≡ y
given_by classes code before d x y (inr same) h = same
given_by classes code before (Went p) x y (inl lost) h = absurd (subst (SameMove classes code before (Went p)) lost h)
given_by classes code before (Fails t line) x y (inl lost) h = absurd (subst (SameMove classes code before (Fails t line)) lost h)

lowered_given : (t : Tree) (w : Work) (p : State) → Accepted t → Fit t p → Holds t.classes (lowered t) w p → w.printed ≡ None → SomeLeft p.items
    → given_step (lowered t) w ≡ step (lowered t) w
lowered_given t w p accepted fit h quiet left = given_by t.classes (lowered t) p.output (next t.classes p) (given_step (lowered t) w)
    (step (lowered t) w) (step-less (lowered t) w) (lowered_moves t w p accepted fit h quiet left)

-- no instruction of a step lacks what it needs
pub steps-given : StepsGiven
steps-given t code w p accepted lowers fit h quiet left =
    subst (λ c. given_step c w ≡ step c w) (sym lowers)
    (lowered_given t w p accepted fit (subst (λ c. Holds t.classes c w p) lowers h) quiet left)

pub step-shows : StepShows
step-shows t code w p accepted lowers fit h quiet left =
    let holds = subst (λ c. Holds t.classes c w p) lowers h in
    let moves = subst (SameMove t.classes (lowered t) p.output (next t.classes p)) (lowered_given t w p accepted fit holds quiet left)
    (lowered_moves t w p accepted fit holds quiet left) in
    subst (λ c. SameStep t.classes c p.output (next t.classes p) (step c w)) (sym lowers)
    (same_step t.classes (lowered t) p.output (next t.classes p) (step (lowered t) w)
    (λ u went. fit-holds t u (step-keeps t p u accepted fit went).fit) moves)
