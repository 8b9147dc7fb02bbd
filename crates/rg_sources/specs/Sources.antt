-- What a command's files mean (docs/promises.md, "The headline").
use Rattle.std.specs.Prelude.{◌≡◌, ℕ, ◌<◌, ◌≤◌, ◌⊎◌, Bool, true, false, nat_lt, List, [], length, Option, Some, None, Result, Ok, Err}
use Rattle.rg_base.specs.declared.limits.TheConstants.{SOURCE_BYTES}
use Rattle.rg_base.specs.declared.fault.Code.{Code}
use Rattle.rg_base.specs.declared.fault.Code.TheVariants.{Module, Unverified, Plan, Image}
use Rattle.rg_base.specs.declared.fault.Fault.{Fault}
use Rattle.rg_base.specs.declared.token.Token.{Token}
use Rattle.rg_base.specs.Tokens.{cut, end_line}
use Rattle.rg_io.specs.Files.{Told, HasFile}
use Rattle.rg_tree.specs.Tree.{Tree}
use Rattle.rg_tree.specs.Grammar.{Spells}
use Rattle.rg_tree.specs.Stuck.{Stuck, fault_at}
use Rattle.rg_rules.specs.Acceptance.{Accepted, first_fault}
use Rattle.rg_module.specs.Parts.{Parts}
use Rattle.rg_module.specs.Spelling as modules
use Rattle.rg_raised.specs.Raises.{Raises}
use Rattle.rg_cown.specs.Cargo.{CargoList}
use Rattle.rg_plan.specs.Plans.{PlanOf, Read}
use Rattle.rg_plan.specs.Rules.{plan_of}
use Rattle.rg_make.specs.Generated as make
use Rattle.rg_loading.specs.Loading.{Failing, no_image, LoadsCome}
use Rattle.rg_loading.specs.Loading.{too_long as image_too_long}
use Rattle.rg_loading.specs.Files.{AreRead}
use Rattle.rg_words.specs.declared.limits.TheConstants.{MODULE_BYTES}
use Rattle.rg_words.specs.Commands.{Origin, in_file, generated, in_module, with_plan}

-- the bytes of a command's files: of the one with its source or its module, and, for `when`, of the one with its plan, and of those of the images
-- that are read, in the order of the plan's lines
pub record Sources : Type 0 where
  pub file : List ℕ
  pub plan : List ℕ
  pub images : List (List ℕ)

-- what a source, a module, or a source with a plan can be
pub data Meaning : Type 0 where
  -- more bytes than one may have
  too_long : Meaning
  -- a source with a fault of its tokens or of its grammar: its first one; bytes that spell no module, or one that no program raises; or a source
  -- that the checker refuses too, with a plan that breaks a rule, or with a file that is no image of what its cown may have
  faulty : Fault → Meaning
  -- a source that spells a tree, or a module that it raises
  spelt : Tree → Meaning
  -- a source that spells a tree, which is accepted, and a plan for it, with a content for each of its cowns, of which those of images count
  planned : Tree → PlanOf → (images : List CargoList) → Meaning

-- the tokens of a source are stuck with a fault
abbrev pub IsStuck : List ℕ → Fault → Type 0
IsStuck source f = (tokens : List Token) × (at : List Token) × (cut source ≡ Ok tokens) × Stuck tokens f.code at ×
    (f ≡ fault_at f.code (end_line source) at)

-- the tokens of a source spell a tree
abbrev pub SpellsTree : List ℕ → Tree → Type 0
SpellsTree source t = (tokens : List Token) × (cut source ≡ Ok tokens) × Spells source t tokens

-- what a source is
abbrev pub Means : List ℕ → Meaning → Type 0
Means source too_long = SOURCE_BYTES < length source
Means source (faulty f) = (length source ≤ SOURCE_BYTES) × ((cut source ≡ Err f) ⊎ IsStuck source f)
Means source (spelt t) = (length source ≤ SOURCE_BYTES) × SpellsTree source t
Means source (planned t p images) = ⊥

-- the bytes spell a module
abbrev pub HasModule : List ℕ → Parts → Type 0
HasModule bytes m = modules.Spells bytes m

-- a fault of a module, which has no lines
abbrev pub at_no_line : Code → Fault
at_no_line c = record { code = c; line = 0 }

-- bytes that spell no module have one fault, and those of a module that no program raises another
abbrev pub IsNoProgram : List ℕ → Fault → Type 0
IsNoProgram bytes f =
    ((f ≡ at_no_line Module) × ((m : Parts) → HasModule bytes m → ⊥))
    ⊎ ((f ≡ at_no_line Unverified) × (m : Parts) × HasModule bytes m × ((t : Tree) → Raises m t → ⊥))

-- What the bytes of a module are. Programs that raise one module are the same but for lines that no run tells, so it may mean several.
abbrev pub MeansModule : List ℕ → Meaning → Type 0
MeansModule bytes too_long = MODULE_BYTES < length bytes
MeansModule bytes (faulty f) = (length bytes ≤ MODULE_BYTES) × IsNoProgram bytes f
MeansModule bytes (spelt t) = (length bytes ≤ MODULE_BYTES) × (m : Parts) × HasModule bytes m × Raises m t
MeansModule bytes (planned t p images) = ⊥

-- a source spells a tree that is accepted
abbrev pub HasProgram : List ℕ → Tree → Type 0
HasProgram source t = Means source (spelt t) × (first_fault t ≡ None)

-- the plan that the bytes of a source's plan say for the program of the source
abbrev pub HasPlan : Sources → Tree → Read PlanOf → Type 0
HasPlan s t read = HasProgram s.file t × (length s.plan ≤ SOURCE_BYTES) × (plan_of t s.plan ≡ read)

-- a plan has the cown that is to be kept, if there is one
abbrev pub has_kept : (keep : Option ℕ) → PlanOf → Bool
has_kept None p = true
has_kept (Some k) p = nat_lt k (length p.cowns)

-- a plan without a fault for a program, of which the files of images are read
abbrev pub MayLoad : (keep : Option ℕ) → Sources → Tree → PlanOf → Type 0
MayLoad keep s t p = HasPlan s t (Ok p) × (has_kept keep p ≡ true)

-- what the files of its images come to
abbrev pub Loads : (keep : Option ℕ) → Sources → Tree → PlanOf → Result (List CargoList) Failing → Type 0
Loads keep s t p r = MayLoad keep s t p × LoadsCome t p.cowns s.images r

-- the fault of a source: one of its text, or the checker's
abbrev pub IsNoSource : Sources → Fault → Type 0
IsNoSource s f = Means s.file (faulty f) ⊎ ((t : Tree) × Means s.file (spelt t) × (first_fault t ≡ Some f))

-- the fault of a plan, which is read where the program is accepted: at a line that breaks a rule, or, behind all others, at no line where there is no
-- cown that is to be kept
abbrev pub IsNoPlan : (keep : Option ℕ) → Sources → Fault → Type 0
IsNoPlan keep s f =
    ((t : Tree) × HasPlan s t (Err f.line) × (f.code ≡ Plan))
    ⊎ ((t : Tree) × (p : PlanOf) × HasPlan s t (Ok p) × (has_kept keep p ≡ false) × (f ≡ at_no_line Plan))

-- the fault of an image: at the line of a plan whose file is no image of what its cown may have
abbrev pub IsNoImage : (keep : Option ℕ) → Sources → Fault → Type 0
IsNoImage keep s f = (t : Tree) × (p : PlanOf) × Loads keep s t p (Err (no_image f.line)) × (f.code ≡ Image)

-- what a source, a plan and the files of its images are
abbrev pub MeansPlan : (keep : Option ℕ) → Sources → Meaning → Type 0
MeansPlan keep s too_long = Means s.file too_long ⊎ (((t : Tree) × HasProgram s.file t × (SOURCE_BYTES < length s.plan))
    ⊎ ((t : Tree) × (p : PlanOf) × Loads keep s t p (Err image_too_long)))
MeansPlan keep s (faulty f) = IsNoSource s f ⊎ (IsNoPlan keep s f ⊎ IsNoImage keep s f)
MeansPlan keep s (spelt t) = ⊥
MeansPlan keep s (planned t p images) = Loads keep s t p (Ok images)

-- A program's source there: a file's bytes, where files tell them. A generated program has none; a plan counts where the program is accepted, and the
-- files of its images where the plan has no fault: these are the ones that are read.
abbrev pub HasSource : Option Told → Origin → (source : Sources) → Type 0
HasSource told (in_file file) source = HasFile told file source.file
HasSource told (generated size) source = source.file ≡ []
HasSource told (in_module file) source = HasFile told file source.file
HasSource told (with_plan file plan keep) source =
    HasFile told file source.file × ((t : Tree) → HasProgram source.file t → HasFile told plan source.plan)
    × ((t : Tree) (p : PlanOf) → MayLoad keep source t p → AreRead told t p.cowns source.images)

-- what comes from there: what the file's source or its module means, or a source with a plan, or the generated program of that size, with the seed 1
abbrev pub MeansFrom : Origin → (source : Sources) → Meaning → Type 0
MeansFrom (in_file file) source m = Means source.file m
MeansFrom (generated size) source m = m ≡ spelt (make.generated 1 size)
MeansFrom (in_module file) source m = MeansModule source.file m
MeansFrom (with_plan file plan keep) source m = MeansPlan keep source m

-- that tree comes from there, and it is accepted
pub record Runs (origin : Origin) (source : Sources) (t : Tree) : Type 0 where
  pub means : MeansFrom origin source (spelt t)
  pub accepted : Accepted t
