-- What running a schedule answers (docs/architecture.md, "Worlds").
use Rattle.std.specs.Prelude.{◌≡◌, ℕ, List, length, Result, Ok, Err}
use Rattle.rg_tree.specs.Tree.{Tree}
use Rattle.rg_code.specs.Code.{Code}
use Rattle.rg_cown.specs.Cargo.{CargoList}
use Rattle.rg_plan.specs.Plans.{PlanOf}
pub use Rattle.rg_world.specs.Worlds.{SameTuned, both, WorldIn, IsBehind}
use Rattle.rg_sched.specs.declared.running.Behind.{Behind}
use Rattle.rg_sched.specs.declared.stop.SchedStop.{SchedStop}
use Rattle.rg_sched.specs.declared.stop.SchedStop.TheVariants as stop
use Rattle.rg_sched.specs.Schedules.{Schedule, Whole, BadBehind, TooLong, item_behind}
pub use Rattle.rg_sched.specs.Asking.{Asks, AskedBy, AsksIn}

-- why a schedule wasn't run to its end: it is bad, or too long; a fault of the input and want of memory say nothing
abbrev pub StopIs : Schedule → SchedStop → Type 0
StopIs says (stop.Bad item) = (numbers : List ℕ) × (says ≡ BadBehind numbers) × (item ≡ item_behind numbers)
StopIs says stop.Spent = (numbers : List ℕ) × (says ≡ TooLong numbers)
StopIs says stop.InputFault = Unit {0}
StopIs says stop.Memory = Unit {0}

-- what is answered of a schedule: the world behind it where it was read to its end, else why it wasn't
abbrev pub RunIs : Tree → Code → PlanOf → List CargoList → Schedule → Result WorldIn SchedStop → Type 0
RunIs t code p images says (Ok w) = (numbers : List ℕ) × (says ≡ Whole numbers) × IsBehind t code p images numbers w
RunIs t code p images says (Err why) = StopIs says why

-- it is a world behind these numbers, with how many there are
abbrev pub IsCounted : Tree → Code → PlanOf → List CargoList → (numbers : List ℕ) → Behind → Type 0
IsCounted t code p images numbers b = (b.taken ≡ length numbers) × IsBehind t code p images numbers b.world

-- the same, with how many numbers there were
abbrev pub CountIs : Tree → Code → PlanOf → List CargoList → Schedule → Result Behind SchedStop → Type 0
CountIs t code p images says (Ok b) = (numbers : List ℕ) × (says ≡ Whole numbers) × IsCounted t code p images numbers b
CountIs t code p images says (Err why) = StopIs says why

-- what running a schedule came to: what is answered of it, and how often its events asked the pacers
abbrev pub Comes : Tree → Code → PlanOf → List CargoList → Schedule → Result WorldIn SchedStop → (before after : Asks) → Type 0
Comes t code p images says r before after = RunIs t code p images says r × AsksIn t p images says r before after

abbrev pub CountComes : Tree → Code → PlanOf → List CargoList → Schedule → Result Behind SchedStop → (before after : Asks) → Type 0
CountComes t code p images says r before after = CountIs t code p images says r × AsksIn t p images says r before after
