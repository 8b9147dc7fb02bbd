-- What a command's files bring, as their bytes are there, or why they bring nothing (docs/promises.md).
use Rattle.std.specs.Prelude.{◌≡◌, ◌≤◌, ◌<◌, ℕ, ◌⊎◌, ⊤, true, false, List, length, Option, Some, Result, Ok, Err}
use Rattle.rg_base.specs.declared.fault.Code.TheVariants.{Plan}
use Rattle.rg_base.specs.declared.limits.TheConstants.{SOURCE_BYTES}
use Rattle.rg_io.specs.Files.{Told, HasFile}
use Rattle.rg_tree.specs.Tree.{Tree}
use Rattle.rg_tree.specs.Rows.Tables.{Tables}
use Rattle.rg_tree.specs.Rows.RowTrees.{program_of}
use Rattle.rg_rules.specs.Acceptance.{Accepted, first_fault}
use Rattle.rg_rules.specs.Names.{FewNames}
use Rattle.rg_check.specs.Checked.{Checked}
use Rattle.rg_cown.specs.Cargo.{CargoList}
use Rattle.rg_plan.specs.Plans.{PlanOf}
use Rattle.rg_plan.specs.Rules.{plan_of}
use Rattle.rg_words.specs.declared.status.Status.{Status}
use Rattle.rg_words.specs.declared.status.Status.TheVariants as status
use Rattle.rg_words.specs.Commands.{Command, Origin, in_file, generated, in_module, with_plan, origin_of}
use Rattle.rg_sources.specs.declared.planned.Planned.{Planned}
use Rattle.rg_sources.specs.Sources.{Sources, too_long, faulty, spelt, planned, HasProgram, HasSource, MeansFrom, Means, Runs, has_kept, at_no_line}

-- a fact that is known of generated programs
abbrev pub IfGenerated : Origin → Type 0 → Type 0
IfGenerated (in_file file) P = ⊤
IfGenerated (generated size) P = P
IfGenerated (in_module file) P = ⊤
IfGenerated (with_plan file plan keep) P = ⊤

-- what a command asks of its program: few names, and a generated one is accepted
pub record Serves (c : Command) (t : Tree) : Type 0 where
  pub few_names : FewNames t
  pub accepted : IfGenerated (origin_of c) (Accepted t)

-- the program that comes from there
pub record Found (told : Option Told) (origin : Origin) (t : Tree) : Type 0 where
  pub source : Sources
  pub has : HasSource told origin source
  pub means : MeansFrom origin source (spelt t)
  pub few_names : FewNames t
  pub accepted : IfGenerated origin (Accepted t)

-- why none comes from there
abbrev pub Refuses : Option Told → Origin → Status → Type 0
Refuses told origin status.Done = ⊥
Refuses told origin (status.Refused f) = (source : Sources) × HasSource told origin source × MeansFrom origin source (faulty f)
Refuses told origin status.Usage = ⊥
Refuses told origin (status.Trap kind line) = ⊥
Refuses told origin status.Spent = ⊥
Refuses told origin (status.Away n) = ⊥
Refuses told origin status.SourceFault = ⊤
Refuses told origin status.InputFault = ⊥
Refuses told origin status.OutputFault = ⊥
Refuses told origin status.Memory = ⊤
Refuses told origin status.Long = (source : Sources) × HasSource told origin source × MeansFrom origin source too_long

-- what comes from there
abbrev pub Brings : Option Told → Origin → Result Tables Status → Type 0
Brings told origin (Ok t) = Found told origin (program_of t)
Brings told origin (Err s) = Refuses told origin s

-- the program that was raised from the module there
pub record Raised (told : Option Told) (file : List ℕ) (t : Tree) : Type 0 where
  pub source : Sources
  pub has : HasFile told file source.file
  pub runs : Runs (in_module file) source t

-- what a file with a module brings
abbrev pub BringsRaised : Option Told → (file : List ℕ) → Result Checked Status → Type 0
BringsRaised told file (Ok a) = Raised told file (program_of a.program)
BringsRaised told file (Err s) = Refuses told (in_module file) s

-- the program of a file, which is accepted, as its source is there
pub record Judged (told : Option Told) (file : List ℕ) (t : Tree) : Type 0 where
  pub source : List ℕ
  pub has : HasFile told file source
  pub program : HasProgram source t

-- why there is none
abbrev pub RefusesProgram : Option Told → (file : List ℕ) → Status → Type 0
RefusesProgram told file status.Done = ⊥
RefusesProgram told file (status.Refused f) = (source : List ℕ) × HasFile told file source
    × (Means source (faulty f) ⊎ ((t : Tree) × Means source (spelt t) × (first_fault t ≡ Some f)))
RefusesProgram told file status.Usage = ⊥
RefusesProgram told file (status.Trap kind line) = ⊥
RefusesProgram told file status.Spent = ⊥
RefusesProgram told file (status.Away n) = ⊥
RefusesProgram told file status.SourceFault = ⊤
RefusesProgram told file status.InputFault = ⊥
RefusesProgram told file status.OutputFault = ⊥
RefusesProgram told file status.Memory = ⊤
RefusesProgram told file status.Long = (source : List ℕ) × HasFile told file source × Means source too_long

-- what a file with a program that is to be accepted brings
abbrev pub BringsProgram : Option Told → (file : List ℕ) → Result Checked Status → Type 0
BringsProgram told file (Ok a) = Judged told file (program_of a.program)
BringsProgram told file (Err s) = RefusesProgram told file s

-- the plan of a file, for a program
pub record PlanThere (told : Option Told) (file : List ℕ) (t : Tree) (p : PlanOf) : Type 0 where
  pub bytes : List ℕ
  pub has : HasFile told file bytes
  pub within : length bytes ≤ SOURCE_BYTES
  pub read : plan_of t bytes ≡ Ok p

-- why there is none
abbrev pub RefusesPlan : Option Told → (file : List ℕ) → Tree → Status → Type 0
RefusesPlan told file t status.Done = ⊥
RefusesPlan told file t (status.Refused f) = (bytes : List ℕ) × HasFile told file bytes × (length bytes ≤ SOURCE_BYTES)
    × (plan_of t bytes ≡ Err f.line) × (f.code ≡ Plan)
RefusesPlan told file t status.Usage = ⊥
RefusesPlan told file t (status.Trap kind line) = ⊥
RefusesPlan told file t status.Spent = ⊥
RefusesPlan told file t (status.Away n) = ⊥
RefusesPlan told file t status.SourceFault = ⊤
RefusesPlan told file t status.InputFault = ⊥
RefusesPlan told file t status.OutputFault = ⊥
RefusesPlan told file t status.Memory = ⊤
RefusesPlan told file t status.Long = (bytes : List ℕ) × HasFile told file bytes × (SOURCE_BYTES < length bytes)

-- what a file with a plan for a program brings
abbrev pub BringsPlan : Option Told → (file : List ℕ) → Tree → Result PlanOf Status → Type 0
BringsPlan told file t (Ok p) = PlanThere told file t p
BringsPlan told file t (Err s) = RefusesPlan told file t s

-- the same of a plan that has the cown that is to be kept: without that cown, its fault is at no line
abbrev pub BringsKeeping : Option Told → (file : List ℕ) → (keep : Option ℕ) → Tree → Result PlanOf Status → Type 0
BringsKeeping told file keep t (Ok p) = PlanThere told file t p × (has_kept keep p ≡ true)
BringsKeeping told file keep t (Err s) =
    RefusesPlan told file t s ⊎ ((p : PlanOf) × PlanThere told file t p × (has_kept keep p ≡ false) × (s ≡ status.Refused (at_no_line Plan)))

-- the program of a file with the plan of another one and the contents of its images, as their bytes are there
pub record PlannedThere (told : Option Told) (file plan : List ℕ) (keep : Option ℕ) (t : Tree) (p : PlanOf) (images : List CargoList) : Type 0 where
  pub source : Sources
  pub has : HasSource told (with_plan file plan keep) source
  pub means : MeansFrom (with_plan file plan keep) source (planned t p images)

-- what a file with a program, one with a plan and those of its images bring
abbrev pub BringsPlanned : Option Told → (file plan : List ℕ) → (keep : Option ℕ) → Result Planned Status → Type 0
BringsPlanned told file plan keep (Ok w) = PlannedThere told file plan keep (program_of w.accepted.program) w.plan w.images.items
BringsPlanned told file plan keep (Err s) = Refuses told (with_plan file plan keep) s
