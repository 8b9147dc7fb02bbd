-- What a plan with a schedule answers (docs/promises.md, "The headline").
use Rattle.std.specs.Prelude.{◌≡◌, ℕ, List, [], length, slice_index_or, Option, None, Some}
use Rattle.rg_base.specs.declared.fault.Code.TheVariants.{Schedule}
use Rattle.rg_io.specs.Content.{Appends, AppendsPart}
use Rattle.rg_tree.specs.Tree.{Class, Tree}
use Rattle.rg_cown.specs.Cargo.{CargoList}
use Rattle.rg_image.specs.ImageText.{image_text}
use Rattle.rg_plan.specs.Plans.{PlanOf}
use Rattle.rg_sched_atomic.specs.Contents.{Content, Away, Empty, Held}
use Rattle.rg_sched_atomic.specs.Settings.{Setting, setting_of}
use Rattle.rg_sched_atomic.specs.Atomic.{Told, World, atomic}
use Rattle.rg_sched_atomic.specs.Events.{world_after}
pub use Rattle.rg_sched.specs.Schedules.{Schedule as Said, Whole, BadBehind, TooLong, schedule_of, taken_of, item_behind}
use Rattle.rg_sched.specs.Asking.{Asks, AskedBy, AskedUntil}
use Rattle.rg_sched.specs.declared.stop.SchedStop.TheVariants.{InputFault as StoppedByInput}
use Rattle.rg_world_text.specs.Text.{world_text}
use Rattle.rg_words.specs.declared.status.Status.{Status}
use Rattle.rg_words.specs.declared.status.Status.TheVariants as status
use Rattle.rg_words.specs.Answers.{Answer, refused, ForInput}

-- what a world tells: behaviours are done one after another, in the order in which they began in it, each with as many steps as it has tried of it
abbrev pub one_by_one : List Class → Setting → World → Told
one_by_one classes s w = atomic classes s w.began w.turns

-- what is told of a plan behind a schedule
abbrev pub told_behind : Tree → PlanOf → (images : List CargoList) → (numbers : List ℕ) → Told
told_behind t p images numbers =
    one_by_one t.classes (setting_of t.classes p images) (world_after t.classes (setting_of t.classes p images) numbers)

-- its text: how each behaviour stands, and what it printed
abbrev pub text_behind : Tree → PlanOf → (images : List CargoList) → (numbers : List ℕ) → List ℕ
text_behind t p images numbers = world_text p (told_behind t p images numbers)

-- What is kept of a cown behind so many numbers: the image of what it has. While a running behaviour has that, nothing is written, and the answer is how
-- many numbers were taken.
abbrev pub kept_of : Content → (taken : ℕ) → Answer
kept_of Away n = record { status = status.Away n; text = [] }
kept_of Empty n = record { status = status.Done; text = image_text None }
kept_of (Held c) n = record { status = status.Done; text = image_text (Some c) }

-- what is answered behind the numbers of a schedule: the text of what is told, or, where the content of a cown is kept, what is kept of it
abbrev pub answer_behind : Tree → PlanOf → (images : List CargoList) → (keep : Option ℕ) → (numbers : List ℕ) → Answer
answer_behind t p images None numbers = record { status = status.Done; text = text_behind t p images numbers }
answer_behind t p images (Some k) numbers = kept_of (slice_index_or (told_behind t p images numbers).contents k Empty) (length numbers)

-- What a program with a plan answers to a schedule: the answer behind all its numbers. Else nothing is written: at the first item that is no number of a
-- behaviour the schedule has a fault, and one that has more numbers than are taken is cut short.
abbrev pub said_answer : Tree → PlanOf → (images : List CargoList) → (keep : Option ℕ) → Said → Answer
said_answer t p images keep (Whole numbers) = answer_behind t p images keep numbers
said_answer t p images keep (BadBehind numbers) = refused (record { code = Schedule; line = item_behind numbers })
said_answer t p images keep (TooLong numbers) = record { status = status.Spent; text = [] }

-- the schedule is what the input says, the numbers of the plan's behaviours
abbrev pub schedule_answer : Tree → PlanOf → (images : List CargoList) → (keep : Option ℕ) → (input : List ℕ) → Answer
schedule_answer t p images keep input = said_answer t p images keep (schedule_of (length p.behaviours) input)

-- the answer is expected of the input, and its text was written
abbrev pub Answered : (expected : List ℕ → Answer) → (left : Option (List ℕ)) → Status → (old new : Option (List ℕ)) → Type 0
Answered expected left s old new =
    ForInput left (λ input. (text : List ℕ) × (expected input ≡ record { status = s; text = text }) × Appends old new text)

-- a part of the text was written that is expected of the input
abbrev pub AnsweredPart : (expected : List ℕ → Answer) → (left old new : Option (List ℕ)) → Type 0
AnsweredPart expected left old new = ForInput left (λ input. AppendsPart old new (expected input).text)

-- what was answered to an input, and given to the output: what is expected of it, but for faults and want of memory
abbrev pub SettlesBy : (expected : List ℕ → Answer) → (left : Option (List ℕ)) → Status → (old new : Option (List ℕ)) → Type 0
SettlesBy expected left status.Done old new = Answered expected left status.Done old new
SettlesBy expected left (status.Refused f) old new = Answered expected left (status.Refused f) old new
SettlesBy expected left status.Usage old new = ⊥
SettlesBy expected left (status.Trap kind line) old new = ⊥
SettlesBy expected left status.Spent old new = Answered expected left status.Spent old new
SettlesBy expected left (status.Away n) old new = Answered expected left (status.Away n) old new
SettlesBy expected left status.SourceFault old new = ⊥
SettlesBy expected left status.InputFault old new = new ≡ old
SettlesBy expected left status.OutputFault old new = AnsweredPart expected left old new
SettlesBy expected left status.Memory old new = AnsweredPart expected left old new
SettlesBy expected left status.Long old new = ⊥

-- the same of a program with a plan and the contents of its images
abbrev pub SettlesSchedule : Tree → PlanOf → (images : List CargoList) → (keep : Option ℕ) → (left : Option (List ℕ)) → Status
    → (old new : Option (List ℕ)) → Type 0
SettlesSchedule t p images keep left s old new = SettlesBy (schedule_answer t p images keep) left s old new

-- How often the pacers were asked, by how the call ended: once for each step that asks them, over the numbers that were taken. Behind a fault of the
-- input these are its first ones, and where no memory was found nothing is said.
abbrev pub AskedFor : Said → Tree → PlanOf → (images : List CargoList) → Status → (before after : Asks) → Type 0
AskedFor says t p images status.InputFault before after = AskedUntil t p images says StoppedByInput before after
AskedFor says t p images status.Memory before after = Unit {0}
AskedFor says t p images _ before after = AskedBy t p images (taken_of says) before after

-- what was answered to a schedule on these bytes of an input, and how often its events asked the pacers
abbrev pub DoesSchedule : Tree → PlanOf → (images : List CargoList) → (keep : Option ℕ) → (input : List ℕ) → Status → (old new : Option (List ℕ))
    → (before after : Asks) → Type 0
DoesSchedule t p images keep input s old new before after =
    SettlesSchedule t p images keep (Some input) s old new × AskedFor (schedule_of (length p.behaviours) input) t p images s before after
