-- What the notes have taken of a run, one collection after another.
use Rattle.std.proofs.Common.{◌≡◌, ◌≢◌, ℕ, zero, suc, ◌+◌, ◌≤◌, ◌⊎◌, inl, inr, Bool, true, false, List, [], ◌∷◌, ◌++◌, length, take, drop}
use Rattle.std.proofs.Common.{Ok, Err, Option, Some, None, slice_get, refl, sym, ap, subst, ◌∙◌, arith}
use Rattle.std.proofs.Common.{append-nil, append_assoc, length-append, true≢false}
use Rattle.std.proofs.Math.Seq.{take-append_seam}
use Rattle.std.proofs.lemmas.List.{take_all, take-append-drop}
use Rattle.std.proofs.lemmas.Grind.{flat_map-append}
use Rattle.std.proofs.lemmas.Option.{same_Some}
use Rattle.rg_base.specs.declared.event.Cause.{Cause}
use Rattle.rg_base.specs.declared.event.Cause.TheVariants as cause
use Rattle.rg_base.specs.declared.event.Event.{Event}
use Rattle.rg_base.specs.declared.outcome.Ended.{Ended}
use Rattle.rg_base.specs.declared.outcome.Ended.TheVariants as ended
use Rattle.rg_base.specs.declared.outcome.Outcome.{Outcome}
use Rattle.rg_base.specs.declared.outcome.Outcome.TheVariants as outcome
use Rattle.rg_base.specs.declared.words.Manager.{Manager}
use Rattle.rg_base.specs.declared.words.Manager.TheVariants.{Arena, Count, Trace}
use Rattle.rg_base.specs.Report.{event_line}
use Rattle.rg_io.specs.Content.{Appends, Rose}
use Rattle.rg_io.proofs.Content.{Appends-none, Appends-more, Rose-since}
use Rattle.rg_sound.proofs.Basics.{none-some}
use Rattle.rg_machine.specs.Parts.{Parts}
use Rattle.rg_step.specs.Stepping.{Stepping}
use Rattle.rg_step.specs.Collections.{IsCollected, IsLeft, CollectsOn, CollectsAsked, Paces, Serves, ServesBy, event_of}
use Rattle.rg_step.specs.Pacers.{Asks}
use Rattle.rg_run.specs.Inner.{CutsLine, Gives, IsUntold, OneMore, Adds, behind}
use Rattle.rg_run.specs.Reports.{Reports, event_lines}

-- What a step adds

left-more : (mid : Parts) (events : List Event) (new : Stepping) → IsLeft mid events new → OneMore new.steps events new.events
left-more mid events new h = inl h.events_are

collected-more : (why : Cause) (mid : Parts) (events : List Event) (new : Stepping) → IsCollected why mid events new →
    OneMore new.steps events new.events
collected-more why mid events new h = inr (event_of new.steps why h.told, h.events_are, refl)

on-more : (answer : Bool) (mid : Parts) (events : List Event) (new : Stepping) → CollectsOn answer mid events new →
    OneMore new.steps events new.events
on-more true mid events new h = collected-more cause.Paced mid events new h
on-more false mid events new h = left-more mid events new h

asked-more : (m : Manager) (mid : Parts) (events : List Event) (new : Stepping) → CollectsAsked m mid events new →
    OneMore new.steps events new.events
asked-more Arena mid events new h = left-more mid events new h
asked-more Count mid events new h = collected-more cause.Asked mid events new h
asked-more Trace mid events new h = collected-more cause.Asked mid events new h

paced-more : (m : Manager) (held : ℕ) (old : Stepping) (mid : Parts) (new : Stepping) (before after : Asks) → Paces m held old mid new before after →
    OneMore new.steps old.events new.events
paced-more Arena held old mid new before after h = left-more mid old.events new h.0
paced-more Count held old mid new before after h = on-more h.0 mid old.events new h.1
paced-more Trace held old mid new before after h = on-more h.0 mid old.events new h.1

serves-more : (due : Option Cause) (old : Stepping) (mid : Parts) (new : Stepping) (before after : Asks) → Serves due old mid new before after →
    OneMore new.steps old.events new.events
serves-more None old mid new before after h = left-more mid old.events new h.0
serves-more (Some cause.Asked) old mid new before after h = asked-more h.0.0.manager mid old.events new h.0.2
serves-more (Some cause.Paced) old mid new before after h = paced-more h.0.manager h.0.held old mid new before after h.2

-- a step has at most one collection
pub step-adds : (due : Option Cause) (old : Stepping) (mid : Parts) (new : Stepping) (before after : Asks) (r : Outcome) →
    ServesBy due old mid new before after r → Adds new.steps old.events new.events r
step-adds due old mid new before after outcome.Running h = serves-more due old mid new before after h
step-adds due old mid new before after (outcome.Printed v) h = serves-more due old mid new before after h
step-adds due old mid new before after outcome.Done h = serves-more due old mid new before after h
step-adds due old mid new before after (outcome.Trap kind line) h = h.events_are
step-adds due old mid new before after outcome.InputFault h = h.events_are
step-adds due old mid new before after outcome.Memory h = h.events_are

front : {step : ℕ} (old new : List Event) → OneMore step old new → take (length old) new ≡ old
front old new (inl same) = ap (take (length old)) same ∙ take_all (length old) old (omega arith)
front old new (inr more) = ap (take (length old)) more.1 ∙ take-append_seam old (more.0 ∷ [])

few : {step : ℕ} (old new : List Event) → OneMore step old new → length new ≤ length old + 1
few old new (inl same) = omega (arith, ap length same)
few old new (inr more) =
    let e : length new ≡ length old + 1 = ap length more.1 ∙ length-append old (more.0 ∷ []) in omega (arith, e)

few-by : (step : ℕ) (r : Outcome) (old new : List Event) → Adds step old new r → length new ≤ behind (length old) r
few-by step outcome.Running old new adds = few old new adds
few-by step (outcome.Printed v) old new adds = few old new adds
few-by step outcome.Done old new adds = few old new adds
few-by step (outcome.Trap kind line) old new same = omega (arith, ap length same)
few-by step outcome.InputFault old new same = omega (arith, ap length same)
few-by step outcome.Memory old new same = omega (arith, ap length same)

-- no more are left to tell
pub few-behind : (step : ℕ) (r : Outcome) (old new told events : List Event) → told ≡ old → events ≡ new → Adds step old new r →
    length events ≤ behind (length told) r
few-behind step r old new told events told_is events_is adds =
    let P : List Event → List Event → Type 0 = λ xs ys. length ys ≤ behind (length xs) r in
    subst (λ xs. P xs events) (sym told_is) (subst (P old) (sym events_is) (few-by step r old new adds))

one-more : (step : ℕ) (r : Outcome) (old new : List Event) → Adds step old new r → OneMore step old new
one-more step outcome.Running old new adds = adds
one-more step (outcome.Printed v) old new adds = adds
one-more step outcome.Done old new adds = adds
one-more step (outcome.Trap kind line) old new same = inl same
one-more step outcome.InputFault old new same = inl same
one-more step outcome.Memory old new same = inl same

-- What the notes have taken

-- in front of what a step added
pub reports-front : (step : ℕ) (r : Outcome) (report : Bool) (old new told events : List Event) (first now : Option (List ℕ)) →
    told ≡ old → events ≡ new → Adds step old new r →
    Reports report ended.Spent old first now → Reports report ended.Spent (take (length told) events) first now
reports-front step r report old new told events first now told_is events_is adds h =
    let P : List Event → Type 0 = λ q. Reports report ended.Spent q first now in
    let is : take (length told) events ≡ take (length old) new =
    ap (λ q. take (length q) events) told_is ∙ ap (take (length old)) events_is in
    subst P (sym (is ∙ front old new (one-more step r old new adds))) h

-- of the same collections
pub reports-of : (report : Bool) (e : Ended) (xs ys : List Event) (first now : Option (List ℕ)) → xs ≡ ys → Reports report e xs first now →
    Reports report e ys first now
reports-of report e xs ys first now same h = let P : List Event → Type 0 = λ q. Reports report e q first now in subst P same h

-- however a run ends, all lines are enough
pub reports-whole : (report : Bool) (e : Ended) (events : List Event) (first now : Option (List ℕ)) →
    Reports report ended.Spent events first now → Reports report e events first now
reports-whole false e events first now h = h
reports-whole true ended.Done events first now h = h
reports-whole true ended.Spent events first now h = h
reports-whole true (ended.Trap kind line) events first now h = h
reports-whole true ended.InputFault events first now h = h
reports-whole true ended.OutputFault events first now h = (
  event_lines events,
  record {
    whole = length events;
    but_last = omega arith;
    begins = record { rest = []; whole_is = ap event_lines (sym (take_all (length events) events (omega arith))) ∙ sym (append-nil _) };
    ends = record { rest = []; whole_is = sym (append-nil (event_lines events)) };
  },
  h,
)
reports-whole true ended.Memory events first now h =
    let P : List Event → Type 0 = λ q. Appends first now (event_lines q) in
    (length events, omega arith, subst P (sym (take_all (length events) events (omega arith))) h)

-- before the first collection
pub reports-none : (report : Bool) (content : Option (List ℕ)) → Reports report ended.Spent [] content content
reports-none false content = refl
reports-none true content = Appends-none content

-- no memory was found to begin
pub reports-unbegun : (report : Bool) (events : List Event) (content : Option (List ℕ)) → events ≡ [] →
    Reports report ended.Memory events content content
reports-unbegun report events content none =
    let P : List Event → Type 0 = λ q. Reports report ended.Memory q content content in
    subst P (sym none) (reports-whole report ended.Memory [] content content (reports-none report content))

-- a refused step collects nothing
pub reports-same : (report : Bool) (e : Ended) (old new : List Event) (first now : Option (List ℕ)) → new ≡ old →
    Reports report ended.Spent old first now → Reports report e new first now
reports-same report e old new first now same h =
    let P : List Event → Type 0 = λ q. Reports report e q first now in
    subst P (sym same) (reports-whole report e old first now h)

-- the lines of one more
lines-more : (xs : List Event) (e : Event) → event_lines (xs ++ e ∷ []) ≡ event_lines xs ++ event_line e
lines-more xs e = flat_map-append event_line xs (e ∷ []) ∙ ap (λ q. event_lines xs ++ q) (append-nil (event_line e))

-- the output failed before the last one was told
pub reports-part : (report : Bool) (events : List Event) (told : ℕ) (first now : Option (List ℕ)) → length events ≤ told + 1 →
    Reports report ended.Spent (take told events) first now → Reports report ended.OutputFault events first now
reports-part false events told first now few h = h
reports-part true events told first now few h =
    let whole = ap event_lines (sym (take-append-drop told events)) ∙ flat_map-append event_line (take told events) (drop told events) in (
      event_lines (take told events),
      record {
        whole = told;
        but_last = few;
        begins = record { rest = []; whole_is = sym (append-nil (event_lines (take told events))) };
        ends = record { rest = event_lines (drop told events); whole_is = whole };
      },
      h,
    )

-- Telling one

only : (x : Event) (xs : List Event) (e : Event) → x ≡ e → length xs ≤ 0 → x ∷ xs ≡ e ∷ []
only x [] e same small = ap (λ q. q ∷ []) same
only x (y ∷ ys) e same small = absurd (omega (arith, small))

split : (events : List Event) (told : ℕ) (e : Event) → slice_get events told ≡ Some e → length events ≤ told + 1 →
    events ≡ take told events ++ e ∷ []
split [] told e there small = none-some there
split (x ∷ xs) zero e there small = only x xs e (same_Some x e there) (omega (arith, small))
split (x ∷ xs) (suc i) e there small = ap (λ q. x ∷ q) (split xs i e there (omega (arith, small)))

module _ (events : List Event) (told : ℕ) (e : Event) (there : slice_get events told ≡ Some e) (small : length events ≤ told + 1)
    (first now new : Option (List ℕ)) where
  lines-are : event_lines events ≡ event_lines (take told events) ++ event_line e
  lines-are = ap event_lines (split events told e there small) ∙ lines-more (take told events) e

  pub told-one : (report : Bool) → report ≡ true → Reports report ended.Spent (take told events) first now → Appends now new (event_line e) →
      Reports report ended.Spent events first new
  told-one false is h line = absurd (true≢false (sym is))
  told-one true is h line =
      let P : List ℕ → Type 0 = λ bytes. Appends first new bytes in
      subst P (sym lines-are) (Appends-more first now new (event_lines (take told events)) (event_line e) h line)

  pub told-cut : (report : Bool) → report ≡ true → (end : Ended) → Reports report ended.Spent (take told events) first now →
      CutsLine end now new (event_line e) → Reports report end events first new
  told-cut false is end h cut = absurd (true≢false (sym is))
  told-cut true is ended.Done h cut = absurd cut
  told-cut true is ended.Spent h cut = absurd cut
  told-cut true is (ended.Trap kind line) h cut = absurd cut
  told-cut true is ended.InputFault h cut = absurd cut
  told-cut true is ended.OutputFault h cut =
      let lines = event_lines (take told events) in (
        lines ++ cut.0,
        record {
          whole = told;
          but_last = small;
          begins = record { rest = cut.0; whole_is = refl };
          ends = record {
            rest = cut.1.rest;
            whole_is = lines-are ∙ ap (λ q. lines ++ q) cut.1.whole_is ∙ sym (append_assoc lines cut.0 cut.1.rest);
          };
        },
        Appends-more first now new lines cut.0 h cut.2,
      )
  told-cut true is ended.Memory h cut =
      let P : Option (List ℕ) → Type 0 = λ q. Appends first q (event_lines (take told events)) in (told, small, subst P (sym cut) h)

-- Where the input or the output failed

abbrev at_input : Ended → Bool
at_input ended.InputFault = true
at_input e = false

other-end : {e end : Ended} → e ≡ end → e ≡ ended.InputFault → at_input end ≡ false → ⊥
other-end is h not = true≢false (ap at_input (sym h ∙ is) ∙ not)

untold-input : {e : Ended} → IsUntold e → e ≡ ended.InputFault → ⊥
untold-input (inl is) h = other-end is h refl
untold-input (inr is) h = other-end is h refl

done-input : {e : Ended} → (e ≡ ended.Done) ⊎ IsUntold e → e ≡ ended.InputFault → ⊥
done-input (inl is) h = other-end is h refl
done-input (inr cut) h = untold-input cut h

-- a run ends at a fault of the input only by a step that met it
pub input-failed : (A : Type 0) (old new : Option (List ℕ)) {e : Ended} (r : Outcome) → Gives {A = A} r (Err e) old new →
    e ≡ ended.InputFault → r ≡ outcome.InputFault
input-failed A old new outcome.Running gives h = absurd (untold-input gives.1 h)
input-failed A old new (outcome.Printed v) (inl gives) h = absurd (untold-input gives.1 h)
input-failed A old new (outcome.Printed v) (inr cut) h = absurd (other-end cut.1 h refl)
input-failed A old new outcome.Done gives h = absurd (done-input gives.1 h)
input-failed A old new (outcome.Trap kind line) gives h = absurd (other-end gives.1 h refl)
input-failed A old new outcome.InputFault gives h = refl
input-failed A old new outcome.Memory gives h = absurd (other-end gives.1 h refl)

-- a step that met a fault of the input ends the run at it
pub failed-input : (A : Type 0) (old new : Option (List ℕ)) {e : Ended} (r : Outcome) → Gives {A = A} r (Err e) old new →
    r ≡ outcome.InputFault → e ≡ ended.InputFault
failed-input A old new {e} r gives h =
    let fault : Gives {A = A} outcome.InputFault (Err e) old new = subst (λ (x : Outcome). Gives {A = A} x (Err e) old new) h gives in fault.1

-- a run that goes on met none
pub goes_faultless : (A : Type 0) (x : A) (old new : Option (List ℕ)) (r : Outcome) → Gives {A = A} r (Ok x) old new → r ≢ outcome.InputFault
goes_faultless A x old new r gives h =
    let fault : Gives {A = A} outcome.InputFault (Ok x) old new = subst (λ (x' : Outcome). Gives {A = A} x' (Ok x) old new) h gives in fault.1

-- the faults of the output or those of the notes, since earlier counts of both
pub rose-since : {a b x c d y : ℕ} → a ≤ b → c ≤ d → Rose b x ⊎ Rose d y → Rose a x ⊎ Rose c y
rose-since {a} {b} {x} {c} {d} {y} out notes (inl rose) = inl (Rose-since a b x out rose)
rose-since {a} {b} {x} {c} {d} {y} out notes (inr rose) = inr (Rose-since c d y notes rose)
