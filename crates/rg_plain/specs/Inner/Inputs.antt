-- Steps that may read the input, of the bytes that are left before and after them (docs/language.md, "Steps").
use Rattle.std.specs.Prelude.{◌≡◌, ◌≢◌, ◌≤◌, ℕ, true, false, List, Option, Result, Ok, Err}
use Rattle.rg_base.specs.declared.outcome.Outcome.{Outcome}
use Rattle.rg_base.specs.declared.outcome.Outcome.TheVariants as outcome
use Rattle.rg_base.specs.declared.outcome.Trap.TheVariants.{Input, End}
use Rattle.rg_base.specs.declared.value.Val.{Val}
use Rattle.rg_base.specs.declared.value.Val.TheVariants as val
use Rattle.rg_tree.specs.Tree.{Right, read, more}
use Rattle.rg_tree.specs.Rows.Tables.{Tables}
use Rattle.rg_tree.specs.Rows.RowTrees.{classes_of}
use Rattle.rg_rules.specs.Outside.Inputs.{first_asks}
use Rattle.rg_rules.specs.Steps.{next}
use Rattle.rg_io.specs.Content.{Rose, Reply}
use Rattle.rg_input.specs.declared.refusal.NumberRefusal.{NumberRefusal}
use Rattle.rg_input.specs.declared.refusal.NumberRefusal.TheVariants as no
use Rattle.rg_input.specs.Numbers.{Answers, AsksFor, Follows, Looks, OnInput, Pending, is_input_fault}
use Rattle.rg_values.specs.declared.state.parts.Parts.{Parts}
use Rattle.rg_plain.specs.declared.steps.input.Wanted.{Wanted}
use Rattle.rg_plain.specs.declared.steps.input.Wanted.TheVariants as wanted
use Rattle.rg_values.specs.Fits.{PartsFit}
use Rattle.rg_values.specs.Kept.{Kept, kept_of, plain_of, shown}
use Rattle.rg_plain.specs.Outcomes.{QuietOrPrints, Settles}
use Rattle.rg_plain.specs.Inner.Steps.{StepIs}

-- what a step that finds these bytes of the input did, and what it left of them
abbrev pub StepOn : Tables → (old new : Kept) → Outcome → (before after : List ℕ) → Type 0
StepOn t old new result before after =
    StepIs (next (classes_of t) (plain_of t old before)) (plain_of t old before) (plain_of t new after) result

-- What the step of the topmost row did, with a source of which it is told what is left, how often it failed, and what a read of it is. The source is
-- asked only where the first thing to do asks, no more than one number needs, and a fault of the input is one of the source.
pub record MadeOn {S : Type 0} (left : S → Option (List ℕ)) (faults : S → ℕ) (replies : S → Reply → S → Type 0) (t : Tables) (old new : Parts)
    (held held' : Pending) (source source' : S) (result : Outcome) : Type 0 where
  pub step : OnInput held held' (left source) (left source') (StepOn t (kept_of old) (kept_of new) result)
  pub reads_nothing : first_asks (shown t old.items.items) ≡ false → (held' ≡ held) × (source' ≡ source)
  pub fit : PartsFit t new
  pub quiet : QuietOrPrints (shown t old.items.items) result
  pub follows : Follows held' (left source')
  pub input_fault : result ≡ outcome.InputFault → first_asks (shown t old.items.items) ≡ true
  pub asks : (n : Pending) × AsksFor replies (is_input_fault result) held n source source'
  pub fault : result ≡ outcome.InputFault → Rose (faults source) (faults source')
  pub no_fault : result ≢ outcome.InputFault → faults source' ≡ faults source
  pub never_falls : faults source ≤ faults source'

-- what a whole step that finds these bytes answers, and what it left of them
abbrev pub SettlesOn : Tables → (old new : Kept) → Outcome → (before after : List ℕ) → Type 0
SettlesOn t old new result before after =
    Settles (next (classes_of t) (plain_of t old before)) (plain_of t old before) (plain_of t new after) result

-- how a step ends that has no number
abbrev pub refused_by : NumberRefusal → (line : ℕ) → Outcome
refused_by no.End line = outcome.Trap End line
refused_by no.Input line = outcome.Trap Input line
refused_by no.InputFault line = outcome.InputFault

-- the right side that asks for it
abbrev pub right_for : Wanted → Right
right_for wanted.Number = read
right_for wanted.More = more

-- what the input gave where it was asked, of the bytes left before and after that
abbrev pub Gave : Wanted → Result Val NumberRefusal → (before after : List ℕ) → Type 0
Gave wanted.Number (Ok (val.Int z)) before after = Answers (Ok z) before after
Gave wanted.Number (Ok (val.Bool b)) before after = ⊥
Gave wanted.Number (Ok (val.Obj a)) before after = ⊥
Gave wanted.Number (Ok val.Nil) before after = ⊥
Gave wanted.Number (Err r) before after = Answers (Err r) before after
Gave wanted.More (Ok (val.Bool b)) before after = Looks (Ok b) before after
Gave wanted.More (Ok (val.Int z)) before after = ⊥
Gave wanted.More (Ok (val.Obj a)) before after = ⊥
Gave wanted.More (Ok val.Nil) before after = ⊥
Gave wanted.More (Err no.InputFault) before after = after ≡ before
Gave wanted.More (Err no.End) before after = ⊥
Gave wanted.More (Err no.Input) before after = ⊥
