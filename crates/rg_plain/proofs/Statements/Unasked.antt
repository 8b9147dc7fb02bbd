-- Steps that leave the input and its source alone.
use Rattle.std.proofs.Common.{◌≡◌, ◌≢◌, ℕ, List, Option, Result, refl, arith, inl, false}
use Rattle.rg_base.specs.declared.outcome.Outcome.{Outcome}
use Rattle.rg_base.specs.declared.outcome.Outcome.TheVariants as outcome
use Rattle.rg_tree.specs.Rows.Tables.{Tables}
use Rattle.rg_io.specs.Content.{Reply}
use Rattle.rg_input.specs.Numbers.{Follows, OnInput, Pending}
use Rattle.rg_input.proofs.Input.{asks-nothing}
use Rattle.rg_values.specs.declared.state.parts.Parts.{Parts}
use Rattle.rg_values.specs.declared.refusal.Refusal.{Refusal}
use Rattle.rg_values.specs.Fits.{PartsFit}
use Rattle.rg_plain.specs.Inner.Inputs.{MadeOn, StepOn}
use Rattle.rg_values.specs.Steps.{GoesOn, Makes, outcome_of}
use Rattle.rg_values.specs.Kept.{kept_of, shown}
use Rattle.rg_plain.specs.Outcomes.{QuietOrPrints}
use Rattle.rg_values.specs.Printing.{first_prints}
use Rattle.rg_plain.proofs.Statements.Input.{reads_nothing, does}

-- one that doesn't end with a fault of the input
pub unasked : {S : Type 0} (left : S → Option (List ℕ)) (faults : S → ℕ) (replies : S → Reply → S → Type 0) (t : Tables) (old new : Parts) (n : Pending) (source : S) (r : Outcome) →
    OnInput n n (left source) (left source) (StepOn t (kept_of old) (kept_of new) r) → QuietOrPrints (shown t old.items.items) r → PartsFit t new →
    r ≢ outcome.InputFault → Follows n (left source) → MadeOn left faults replies t old new n n source source r
unasked left faults replies t old new n source r step quiet fit no_fault follows =
    record {
      step = step;
      reads_nothing = λ asks. (refl, refl);
      fit = fit;
      quiet = quiet;
      follows = follows;
      input_fault = λ e. absurd (no_fault e);
      asks = (n, asks-nothing replies n source r no_fault);
      fault = λ e. absurd (no_fault e);
      no_fault = λ other. refl;
      never_falls = omega arith;
    }

-- one that may be refused
pub does-unasked : {S : Type 0} (left : S → Option (List ℕ)) (faults : S → ℕ) (replies : S → Reply → S → Type 0) (t : Tables) (old new : Parts) (n : Pending) (source : S) (line : ℕ)
    (r : Result (Unit {0}) Refusal) (o : Outcome) →
    Makes t (kept_of old) (kept_of new) line r → first_prints (shown t old.items.items) ≡ false → PartsFit t new → o ≡ outcome_of r line →
    o ≢ outcome.InputFault → Follows n (left source) → MadeOn left faults replies t old new n n source source o
does-unasked left faults replies t old new n source line r o step quiet fit is no_fault follows =
    unasked left faults replies t old new n source o (does t (kept_of old) (kept_of new) line r o n (left source) is step) (inl quiet) fit no_fault follows

-- one that can't be refused
pub goes-on : {S : Type 0} (left : S → Option (List ℕ)) (faults : S → ℕ) (replies : S → Reply → S → Type 0) (t : Tables) (old new : Parts) (n : Pending) (source : S) →
    GoesOn t (kept_of old) (kept_of new) → first_prints (shown t old.items.items) ≡ false → PartsFit t new → Follows n (left source) →
    MadeOn left faults replies t old new n n source source outcome.Running
goes-on left faults replies t old new n source step quiet fit follows =
    let no_fault : outcome.Running ≢ outcome.InputFault = λ e. cc in
    unasked left faults replies t old new n source outcome.Running (reads_nothing t (kept_of old) (kept_of new) outcome.Running n (left source) step)
    (inl quiet) fit no_fault follows
