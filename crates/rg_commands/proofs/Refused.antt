-- What a command answers where no program came to it.
use Rattle.std.proofs.Common.{◌≢◌, ℕ, inl, inr, List, Option, refl}
use Rattle.std.proofs.Common.{subst, arith}
use Rattle.rg_io.specs.Files.{Told}
use Rattle.rg_tree.specs.Tree.{Tree}
use Rattle.rg_cown.specs.Cargo.{CargoList}
use Rattle.rg_plan.specs.Plans.{PlanOf}
use Rattle.rg_run.specs.Machine.{Kept, IsFresh}
use Rattle.rg_words.specs.declared.status.Status.{Status}
use Rattle.rg_words.specs.declared.status.Status.TheVariants as status
use Rattle.rg_words.specs.Commands.{Command, Origin, origin_of}
use Rattle.rg_words.specs.Answers.{CausedBeside}
use Rattle.rg_sources.specs.Sources.{Sources}
use Rattle.rg_when.specs.Scheduled.{SettlesSchedule}
use Rattle.rg_sources.specs.Brings.{Refuses}
use Rattle.rg_commands.specs.Settled.{Settles, source_fault, memory, SettlesCommand, Caused}
use Rattle.rg_commands.proofs.Generated.{no-fault}

-- where no program came, nothing is done
pub refuses-settles : (told : Option Told) (c : Command) (s : Status) (left old : Option (List ℕ)) (m : Kept) (still : Type 0) →
    Refuses told (origin_of c) s → IsFresh m → still → SettlesCommand told c left s old old m still
refuses-settles told c status.Done left old m still h fresh quiet = absurd h
refuses-settles told c (status.Refused f) left old m still h fresh quiet = inl (h.0, h.1, (inl h.2, (fresh, refl, quiet)))
refuses-settles told c status.Usage left old m still h fresh quiet = absurd h
refuses-settles told c (status.Trap kind line) left old m still h fresh quiet = absurd h
refuses-settles told c status.Spent left old m still h fresh quiet = absurd h
refuses-settles told c (status.Away n) left old m still h fresh quiet = absurd h
refuses-settles told c status.SourceFault left old m still h fresh quiet = inr (inl (source_fault, (fresh, refl, quiet)))
refuses-settles told c status.InputFault left old m still h fresh quiet = absurd h
refuses-settles told c status.OutputFault left old m still h fresh quiet = absurd h
refuses-settles told c status.Memory left old m still h fresh quiet = inr (inl (memory, (fresh, refl, quiet)))
refuses-settles told c status.Long left old m still h fresh quiet = inl (h.0, h.1, (h.2, (fresh, refl, quiet)))

-- and neither the input nor the output or the notes failed
pub refuses-caused : (told : Option Told) (origin : Origin) (s : Status) (i o n : ℕ) → Refuses told origin s → Caused s i i o o n n
refuses-caused told origin s i o n h = record {
  input_fault = λ e. let P : Status → Type 0 = Refuses told origin in absurd (subst P e h);
  input_quiet = λ other. refl;
  output_fault = λ e. let P : Status → Type 0 = Refuses told origin in absurd (subst P e h);
  input_never_falls = omega arith;
  output_never_falls = omega arith;
  notes_never_fall = omega arith;
}

-- from which count the fault of a call comes that gives nothing to the notes
pub caused-beside : (s : Status) (i j o p n : ℕ) → CausedBeside s i j o p → Caused s i j o p n n
caused-beside s i j o p n h = record {
  input_fault = h.input_fault;
  input_quiet = h.input_quiet;
  output_fault = λ e. inl (h.output_fault e);
  input_never_falls = h.input_never_falls;
  output_never_falls = h.output_never_falls;
  notes_never_fall = omega arith;
}

-- an input that never fails is as good as one that didn't
pub caused-unread : (s : Status) (i o p n m : ℕ) → Caused s 0 0 o p n m → Caused s i i o p n m
caused-unread s i o p n m c = record {
  input_fault = λ e. absurd (no-fault s c.input_fault e);
  input_quiet = λ other. refl;
  output_fault = c.output_fault;
  input_never_falls = omega arith;
  output_never_falls = c.output_never_falls;
  notes_never_fall = c.notes_never_fall;
}

-- what was answered to a schedule is no fault of a file
pub schedule-inside : (t : Tree) (p : PlanOf) (images : List CargoList) (keep : Option ℕ) (left : Option (List ℕ)) (s : Status)
    (old new : Option (List ℕ)) → SettlesSchedule t p images keep left s old new → s ≢ status.SourceFault
schedule-inside t p images keep left s old new h e =
    let P : Status → Type 0 = λ x. SettlesSchedule t p images keep left x old new in absurd (subst P e h)

-- what was answered to a source is no fault of a file
pub settles-inside : (c : Command) (source : Sources) (left : Option (List ℕ)) (s : Status) (old new : Option (List ℕ)) (m : Kept) (still : Type 0) →
    Settles c source left s old new m still → s ≢ status.SourceFault
settles-inside c source left s old new m still h e = let P : Status → Type 0 = λ x. Settles c source left x old new m still in absurd (subst P e h)
