-- What a step of the machine that frees frees. For callers.
use Rattle.std.proofs.Common.{◌≡◌, ◌≢◌, ℕ, ◌+◌, ◌⊎◌, inl, inr, true, false, Bool as Truth, List, [], ◌∷◌, drop, length, Option, Some, None}
use Rattle.std.proofs.Common.{refl, sym, ap, subst, ◌∙◌, option_map, slice_get}
use Rattle.std.proofs.lemmas.Option.{same_Some}
use Rattle.std.proofs.lemmas.Bool.{cases_Bool}
use Rattle.std.specs.Prelude.{◌-◌, ◌^◌}
use Rattle.rg_base.specs.declared.object.Label.{Label}
use Rattle.rg_base.specs.declared.object.Label.TheVariants.{Region, Temp, Frozen}
use Rattle.rg_base.specs.declared.object.Seen.{Seen}
use Rattle.rg_base.specs.declared.value.Val.{Val}
use Rattle.rg_tree.specs.Tree.{Tree}
use Rattle.rg_rules.specs.Acceptance.{Accepted}
use Rattle.rg_rules.specs.State.{State}
use Rattle.rg_sound.specs.Fit.{Fit}
use Rattle.rg_sound.proofs.Held.{fit-holds}
use Rattle.rg_code.specs.Lowering.{Lowers}
use Rattle.rg_code.specs.declared.op.Op.{Op}
use Rattle.rg_code.specs.declared.op.Op.TheVariants as i
use Rattle.rg_code.specs.Code.{Code}
use Rattle.rg_stack.specs.Machine.{Machine}
use Rattle.rg_stack.specs.Effects.{Walked, Stops, Returns, Traps, Stuck}
use Rattle.rg_stack.specs.Tops.{Work}
use Rattle.rg_stack.specs.Runs.{Stepped, Goes, Ends, Trapped, Lost, come_to, landed, stopped}
use Rattle.rg_stack.specs.Labels.{has_window}
use Rattle.rg_stack.specs.Given.{given_walk, given_finished, given_step_from, given_step}
use Rattle.rg_stack.specs.Refusals.{Orderly}
use Rattle.rg_stack.specs.Shows.{Shows}
use Rattle.rg_stack.specs.Simulates.{Holds}
use Rattle.rg_stack.specs.Left.{SomeLeft}
use Rattle.rg_stack.proofs.Callers.Refusal.{steps-orderly}
use Rattle.rg_stack.proofs.Basics.{none-some}
use Rattle.rg_stack.proofs.Callers.Less.{Less}
use Rattle.rg_held.specs.Ends.{Match, SameEnd}
use Rattle.rg_held.specs.Frees.{free_walk, free_finished, free_step_from, free_step}
use Rattle.rg_held.specs.Gone.{gone}
use Rattle.rg_held.specs.Freed.{GoneRegion, StepFrees}
use Rattle.rg_held.specs.Temps.{EndedTemp}
use Rattle.rg_held.specs.Laws.{StepsFree, InOrder, owners_of}
use Rattle.rg_held.specs.Part.{SomeWindow, Part}
use Rattle.rg_held.specs.Shown.{Finds}
use Rattle.rg_held.proofs.Walks.Back.{Back, walk-back}
use Rattle.rg_held.proofs.Callers.Step.{step-leads}
use Rattle.rg_held.proofs.Freed.Changes.{Stands, NoneLeft, region-not}
use Rattle.rg_held.proofs.Freed.Windows.{Numbered, numbered}
use Rattle.rg_held.proofs.Freed.Fates.{IsGiven, Since, Stay, Move, Go}
use Rattle.rg_held.proofs.Freed.Shut.{shut, shut-passes}
use Rattle.rg_held.proofs.Walks.Keep.{Ending}
use Rattle.rg_held.proofs.Freed.Walks.{Now, on-walks}
use Rattle.rg_held.proofs.Walks.Less.{tested_walk, tested-less}
use Rattle.rg_held.proofs.Walks.Walk.{drop-next, walks-same, tested-walks-same}

module _ (m grown : Machine) (held : ℕ → Truth) (part : Part held [] m grown []) where
  lost : (o : Seen) (x : Option Seen) → Some o ≡ option_map (λ (u : Seen). gone) x → o ≡ gone
  lost o None e = none-some o (sym e)
  lost o (Some u) e = same_Some o gone e

  -- an object that isn't gone is held
  live-held : (a : ℕ) (o : Seen) → slice_get m.store a ≡ Some o → o ≢ gone → held a ≡ true
  live-held a o there live = elim (cases_Bool (held a)) [
    | inl h ↦ h
    | inr h ↦ absurd (live (lost o (slice_get grown.store a) (sym there ∙ part.others a h)))
  ]

  -- a temporary that isn't gone is one of an open window
  temp-open : (a : ℕ) (o : Seen) (n : ℕ) → slice_get m.store a ≡ Some o → o ≢ gone → o.label ≡ Temp n → has_window m.windows n ≡ true
  temp-open a o n there live e =
      let h = live-held a o there live in
      ap (λ ws. has_window ws n) part.windows ∙ part.temps a o n h (sym (part.same a h) ∙ there) e

  -- where a step begins, what has a label has it
  begins : (a : ℕ) (o : Seen) → slice_get m.store a ≡ Some o → o ≢ gone
      → Since m.store o.label m.store m.windows m.windows_made (length m.managers)
  begins a o there live = record {
    fate = inl (λ b s. s);
    some_window = subst (λ ws. SomeWindow ws) (sym part.windows) part.tidy.some_window;
    numbers = subst (λ ws. Numbered ws m.windows_made) (sym part.windows)
        (subst (Numbered grown.windows) (sym part.windows_made)
        (numbered grown.windows grown.windows_made part.tidy.differ part.tidy.numbers));
    given = subst (λ n. IsGiven n o.label) (sym part.managers_made) (given o.label refl);
  }
    where
      given : (l : Label) → o.label ≡ l → IsGiven (length grown.managers) l
      given (Region r) e = part.tidy.labels a o r (sym (part.same a (live-held a o there live)) ∙ there) e
      given (Temp n) e = tt
      given Frozen e = tt

  -- behind a step, what is gone was one or the other
  frees : (new : Machine) (a : ℕ) (o : Seen) → slice_get m.store a ≡ Some o → o ≢ gone → Finds new.store a None
      → Since m.store o.label new.store new.windows new.windows_made (length new.managers)
      → EndedTemp m new o.label ⊎ GoneRegion m new o.label
  frees new a o there live away since = by o.label refl since.fate
    where
      stands : (l : Label) → Stands new.store a l → ⊥
      stands l s = s.3 (away s.0 s.1)

      by : (l : Label) → o.label ≡ l
          → Stay m.store l new.store ⊎ (NoneLeft new.store new.windows new.windows_made l × (Move m.store l new.store ⊎ Go m.store l new.store))
          → EndedTemp m new l ⊎ GoneRegion m new l
      by l e (inl h) = absurd (stands l (h a (o, there, e, live)))
      by (Region r) e (inr h) = inr (
        r,
        refl,
        record {
          closed = h.0.0;
          empty = h.0.1;
          all_gone = elim h.1 [
            | inl x ↦ absurd (stands x.0 (x.2 a (o, there, e, live)))
            | inr x ↦ (λ b u at lies. x b (u, at, lies, λ d. region-not r (2 ^ 64 - 1) (sym lies ∙ ap (λ (y : Seen). y.label) d)))
          ];
        },
      )
      by (Temp n) e (inr h) = inl (n, refl, temp-open a o n there live e, h.0.0)
      by Frozen e (inr h) = absurd h.0

-- where a step has come
abbrev Came : (old : List Seen) → Label → Stepped → Type 0
Came old was (Goes w) = Now old was w
Came old was (Ends w) = Now old was w
Came old was (Trapped t line) = Unit {0}
Came old was Lost = Unit {0}

come-came : (old : List Seen) (was : Label) (o : Option Op) (w : Work) → Now old was w → Came old was (come_to o w)
come-came old was None w now = tt
come-came old was (Some (i.Mark line)) w now = now
come-came old was (Some i.Halt) w now = now
come-came old was (Some o) w now = tt

module _ (old : List Seen) (was : Label) (code : Code) where
  -- a walk that is stuck or the other one, beside one over the growing store that leads on, is the other one
  ending : (x y z : Walked) → Less x y → SameEnd x z → (z ≡ Stuck → ⊥) → Ending (Now old was) x → Ending (Now old was) y
  ending x y z (inr same) h leads end = subst (Ending (Now old was)) same end
  ending x y z (inl stuck) h leads end = absurd (by z (subst (λ q. SameEnd q z) stuck h) leads)
    where
      by : (z : Walked) → SameEnd Stuck z → (z ≡ Stuck → ⊥) → ⊥
      by (Stops at w) h leads = h
      by (Returns back stack w) h leads = h
      by (Traps t) h leads = h
      by Stuck h leads = leads refl

  -- a walk that leads on over the growing store
  walk-ending : (at : ℕ) (room taken : Truth) (stack : List Val) (u w : Work) → InOrder code.ops at room taken (drop at code.ops)
      → Match (owners_of taken stack) u w stack → (given_walk code (drop at code.ops) at 0 stack w ≡ Stuck → ⊥) → Now old was u
      → Ending (Now old was) (free_walk code (drop at code.ops) at 0 stack u)
  walk-ending at room taken stack u w order m leads now =
      ending (tested_walk shut code (drop at code.ops) at 0 stack u) _ (given_walk code (drop at code.ops) at 0 stack w)
      (tested-less shut code (drop at code.ops) at 0 stack u) (tested-walks-same code shut (shut-passes code) at room taken stack u w order m)
      leads (on-walks old was code (drop at code.ops) at 0 stack u now)

  landed-came : (x : Walked) → Ending (Now old was) x → Came old was (landed code x)
  landed-came (Stops at w) now = come-came old was (slice_get code.ops at) (stopped at w) now
  landed-came (Returns back stack w) now = tt
  landed-came (Traps t) now = tt
  landed-came Stuck now = tt

  finished-came : (line : ℕ) (x y : Walked) → SameEnd x y → Back code.ops y → (given_finished code line y ≡ Lost → ⊥) → Ending (Now old was) x
      → Came old was (free_finished code line x)
  finished-came line (Stops at u) y same back h now = come-came old was (slice_get code.ops at) (stopped at u) now
  finished-came line (Returns back stack u) (Stops at w) same calm h now = absurd same
  finished-came line (Returns back stack u) (Returns here left w) same calm h now =
      landed-came (free_walk code (drop back code.ops) back 0 stack u)
      (subst (λ n. Ending (Now old was) (free_walk code (drop n code.ops) n 0 stack u)) (sym same.0)
      (subst (λ s. Ending (Now old was) (free_walk code (drop here code.ops) here 0 s u)) (sym same.1)
      (walk-ending here false true left u w calm same.2 (λ e. h (ap (landed code) e)) now)))
  finished-came line (Returns back stack u) (Traps t) same calm h now = absurd same
  finished-came line (Returns back stack u) Stuck same calm h now = absurd (h refl)
  finished-came line (Traps t) y same calm h now = tt
  finished-came line Stuck y same calm h now = tt

  step-came : (u w : Work) (os : List Op) → drop w.machine.at code.ops ≡ os → u.machine.at ≡ w.machine.at → Match [] u w []
      → Orderly code.ops w.machine → (given_step_from code w os ≡ Lost → ⊥) → Now old was u → Came old was (free_step_from code u os)
  step-came u w [] here at m order h now = tt
  step-came u w (i.Mark line ∷ os) here at m order h now =
      let next = w.machine.at + 1 in
      let behind = drop-next code.ops w.machine.at (i.Mark line) os here in
      let walks = subst (λ l. SameEnd (free_walk code l next 0 [] u) (given_walk code l next 0 [] w)) behind
      (walks-same code next false false [] u w order.here m) in
      subst (λ n. Came old was (free_finished code line (free_walk code os (n + 1) 0 [] u))) (sym at)
      (finished-came line (free_walk code os next 0 [] u) (given_walk code os next 0 [] w) walks
      (walk-back code os next 0 [] w order.behind) h
      (subst (λ l. Ending (Now old was) (free_walk code l next 0 [] u)) behind
      (walk-ending next false false [] u w order.here m
      (λ e. h (ap (given_finished code line) (sym (ap (λ l. given_walk code l next 0 [] w) behind) ∙ e))) now)))
  step-came u w (o ∷ os) here at m order h now = tt

  leads-came : (u w : Work) → Match [] u w [] → Orderly code.ops w.machine → (given_step code w ≡ Lost → ⊥) → Now old was u
      → Came old was (free_step code u)
  leads-came u w m order h now = subst (λ n. Came old was (free_step_from code u (drop n code.ops))) (sym m.1.machine.at)
      (step-came u w (drop w.machine.at code.ops) refl m.1.machine.at m order h now)

-- the input of a state decides neither that it fits nor that it is shown
fit-with : (t : Tree) (p : State) (input : List ℕ) → Fit t p → Fit t (record p { input = input })
fit-with t p input fit = record {
  frames = fit.frames;
  values = fit.values;
  objects = fit.objects;
  opened = fit.opened;
  forest = fit.forest;
  numbers = fit.numbers;
  bridges = fit.bridges;
}

shows-with : (t : Tree) (code : Code) (m : Machine) (p : State) (input : List ℕ) → Fit t p → Shows t.classes code m p
    → Shows t.classes code m (record p { input = input })
shows-with t code m p input fit shows =
    let held = fit-holds t (record p { input = input }) (fit-with t p input fit) in
    record {
      slots = shows.slots;
      windows = shows.windows;
      places = shows.places;
      windows_made = shows.windows_made;
      managers = shows.managers;
      store = shows.store;
      none_stale = held.none_stale;
      live_regions = held.live_regions;
    }

-- beside a machine over the growing store that shows the state
matched-free : (t : Tree) (code : Code) (u w : Work) (p : State) → Accepted t → Lowers t code → Fit t p → Holds t.classes code w p
    → w.printed ≡ None → SomeLeft p.items → Match [] u w [] → StepFrees u.machine (free_step code u)
matched-free t code u w p accepted lowers fit holds quiet left m = by (free_step code u) (λ a o there live.
    leads-came u.machine.store o.label code u w m (steps-orderly t code w.machine p accepted lowers fit holds.shows left)
    (step-leads t code u w p accepted lowers fit holds quiet left m)
    (begins u.machine w.machine m.0 m.1.machine a o there live))
  where
    by : (x : Stepped) → ((a : ℕ) (o : Seen) → slice_get u.machine.store a ≡ Some o → o ≢ gone → Came u.machine.store o.label x)
        → StepFrees u.machine x
    by (Goes v) came = λ a o there live away. frees u.machine w.machine m.0 m.1.machine v.machine a o there live away (came a o there live)
    by (Ends v) came = λ a o there live away. frees u.machine w.machine m.0 m.1.machine v.machine a o there live away (came a o there live)
    by (Trapped t line) came = tt
    by Lost came = tt

pub steps-free : StepsFree
steps-free t code u p accepted lowers fit shows quiet left =
    let w = record u { machine = shows.grown } in
    let q = record p { input = u.input } in
    matched-free t code u w q accepted lowers (fit-with t p u.input fit)
    (record { shows = shows-with t code shows.grown p u.input fit shows.shows; input = refl }) quiet left
    (shows.held, record { machine = shows.beside; input = refl; printed = refl })
