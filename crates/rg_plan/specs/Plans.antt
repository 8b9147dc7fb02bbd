-- What contracts see of a plan: cowns, and behaviours over them (docs/architecture.md, "Plans").
use Rattle.std.specs.Prelude.{◌≡◌, ℕ, ◌==◌, Bool as Truth, ⊤, List, [], map, take, Result, Ok, Err}
use Rattle.std.specs.List.{list_any}
use Rattle.rg_queues.specs.Queues.{right_in_front}
use Rattle.rg_base.specs.declared.fault.Code.TheVariants.{Plan}
use Rattle.rg_base.specs.declared.fault.Stop.{Stop}
use Rattle.rg_base.specs.declared.fault.Stop.TheVariants.{Fault, Memory}
use Rattle.rg_plan.specs.declared.cown.Cown.{Cown}

-- a behaviour: a method of a class, by its number among all methods of the program, as the plan names it, on the cowns of these numbers
pub record Turn : Type 0 where
  pub class : ℕ
  pub method : ℕ
  pub name : List ℕ
  pub cowns : List ℕ

-- the cowns and the behaviours, in the order of their lines
pub record PlanOf : Type 0 where
  pub cowns : List Cown
  pub behaviours : List Turn

-- the plan without lines
abbrev pub no_plan : PlanOf
no_plan = record { cowns = []; behaviours = [] }

-- whether a number is among some
abbrev pub among : List ℕ → ℕ → Truth
among ns n = list_any (λ m. m == n) ns

-- the cowns of each of some behaviours
abbrev pub all_cowns : List Turn → List (List ℕ)
all_cowns bs = map (λ (b : Turn). b.cowns) bs

-- which of some behaviours stand right in front of the one of a number in the queues of its cowns
abbrev pub in_front_of : List Turn → (number : ℕ) → Turn → List ℕ
in_front_of bs i b = right_in_front (take i (all_cowns bs)) b.cowns

-- a value, or the number of the first line that breaks a rule
abbrev pub Read : Type 0 → Type 0
Read A = Result A ℕ

-- a fault is `E93 plan`, at the first line that breaks a rule; want of memory says nothing
abbrev pub FailsAs : {A : Type 0} → Read A → Stop → Type 0
FailsAs read (Fault f) = (read ≡ Err f.line) × (f.code ≡ Plan)
FailsAs read Memory = ⊤

-- an outcome against what was to be read
abbrev pub ReadAs : {A B : Type 0} → (B → A) → Read A → Result B Stop → Type 0
ReadAs value read (Ok b) = read ≡ Ok (value b)
ReadAs value read (Err stop) = FailsAs read stop
