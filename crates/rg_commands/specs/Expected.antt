-- What a command answers to what its files mean (docs/promises.md, "The headline").
use Rattle.std.specs.Prelude.{◌≡◌, ℕ, List, [], ◌∷◌, ◌++◌, codes, Option, Some, None}
use Rattle.rg_base.specs.declared.limits.TheConstants.{MOST_STEPS}
use Rattle.rg_base.specs.declared.fault.Fault.{Fault}
use Rattle.rg_base.specs.declared.outcome.EndNumbers.{EndNumbers}
use Rattle.rg_base.specs.Report.{bulk_line}
use Rattle.rg_base.specs.Text.{text}
use Rattle.rg_tree.specs.Tree.{Tree}
use Rattle.rg_tree.specs.Canonical.{canon}
use Rattle.rg_rules.specs.Acceptance.{first_fault}
use Rattle.rg_rules.specs.Runs.{Ending, Running, Done, Stopped}
use Rattle.rg_rules.specs.Runs as rules
use Rattle.rg_code.specs.Lowering.{lowered}
use Rattle.rg_code.specs.Listing.{listing}
use Rattle.rg_module.specs.Spelling.{spelling}
use Rattle.rg_build.specs.ModuleOf.{module_of}
use Rattle.rg_words.specs.declared.status.Status.{Status}
use Rattle.rg_words.specs.declared.status.Status.TheVariants as status
use Rattle.rg_words.specs.Commands.{Command, run, plain, fmt, check, code, pack, bulk, exec, when, origin_of, keep_of}
use Rattle.rg_words.specs.Answers.{Answer, refused}
use Rattle.rg_sources.specs.Sources.{Sources, Meaning, too_long, faulty, spelt, planned, MeansFrom}
pub use Rattle.rg_when.specs.Scheduled.{schedule_answer, schedule_of, Answered}

-- the status of a run that stands so after all its steps
abbrev pub status_of : Ending → Status
status_of Running = status.Spent
status_of Done = status.Done
status_of (Stopped kind line) = status.Trap kind line

-- the text of the first n steps of a program on an input
abbrev pub text_after : Tree → (input : List ℕ) → (n : ℕ) → List ℕ
text_after t input n = text (rules.plain t input n).state.output

-- what a run of at most n steps answers
abbrev pub run_answer : Tree → (input : List ℕ) → (n : ℕ) → Answer
run_answer t input n = record { status = status_of (rules.plain t input n).ending; text = text_after t input n }

-- the first fault of the checker refuses the program, and without one the answer is that
abbrev pub unless_fault : Option Fault → Answer → Answer
unless_fault None a = a
unless_fault (Some f) a = refused f

-- what `check` writes of an accepted program
abbrev pub accepted_text : List ℕ
accepted_text = codes "accepted" ++ 10 ∷ []

-- what `code` writes of an accepted program: the listing of its code
abbrev pub listed_text : Tree → List ℕ
listed_text t = listing t (lowered t)

-- what `pack` writes of an accepted program: the bytes of its module
abbrev pub packed_text : Tree → List ℕ
packed_text t = spelling (module_of t)

-- the line of `bulk` is written behind a run that is done
abbrev pub line_behind : (size : ℕ) → EndNumbers → Ending → List ℕ
line_behind size numbers Running = []
line_behind size numbers Done = bulk_line size numbers
line_behind size numbers (Stopped kind line) = []

-- a run's answer with that line behind its text
abbrev pub bulk_answer : (size : ℕ) → EndNumbers → Tree → (input : List ℕ) → (n : ℕ) → Answer
bulk_answer size numbers t input n = record {
  status = status_of (rules.plain t input n).ending;
  text = text_after t input n ++ line_behind size numbers (rules.plain t input n).ending;
}

-- What a command answers to a source of that meaning, on an input. `bulk` runs an accepted program on an empty input, and tells
-- the numbers of the machine. `when` has no answer of its own to a program without a plan, which nothing means to it.
abbrev pub expected : Command → EndNumbers → (input : List ℕ) → Meaning → Answer
expected c numbers input too_long = record { status = status.Long; text = [] }
expected c numbers input (faulty f) = refused f
expected c numbers input (planned t p images) = schedule_answer t p images (keep_of c) input
expected (run slides file n every report) numbers input (spelt t) = unless_fault (first_fault t) (run_answer t input n)
expected (plain file n) numbers input (spelt t) = unless_fault (first_fault t) (run_answer t input n)
expected (fmt file) numbers input (spelt t) = record { status = status.Done; text = canon t }
expected (check file) numbers input (spelt t) = unless_fault (first_fault t) (record { status = status.Done; text = accepted_text })
expected (code file) numbers input (spelt t) = unless_fault (first_fault t) (record { status = status.Done; text = listed_text t })
expected (pack file) numbers input (spelt t) = unless_fault (first_fault t) (record { status = status.Done; text = packed_text t })
expected (bulk size) numbers input (spelt t) = bulk_answer size numbers t [] MOST_STEPS
expected (exec file n every report) numbers input (spelt t) = unless_fault (first_fault t) (run_answer t input n)
expected (when file plan keep) numbers input (spelt t) = record { status = status.Done; text = [] }

-- the command answers that to the source, on the input, where the machine has those numbers
abbrev pub Expects : Command → EndNumbers → (source : Sources) (input : List ℕ) → Status → (text : List ℕ) → Type 0
Expects c numbers source input s t =
    (m : Meaning) × MeansFrom (origin_of c) source m × (expected c numbers input m ≡ record { status = s; text = t })

-- the command answers that status, whatever the numbers
abbrev pub ExpectsStatus : Command → (source : Sources) (input : List ℕ) → Status → Type 0
ExpectsStatus c source input s = (numbers : EndNumbers) × (t : List ℕ) × Expects c numbers source input s t
