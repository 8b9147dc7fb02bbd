-- Short plans and schedules, computed: what `when` answers to them.
use Rattle.std.specs.Fmt.{digits}
use Rattle.std.proofs.Common.{◌≡◌, refl, ℕ, List, [], ◌∷◌, ◌++◌, length, replicate, Option, Some, None, Ok, Err, codes}
use Prim.Native.String.{String}
use Rattle.rg_base.specs.declared.fault.Code.TheVariants.{Plan, Schedule}
use Rattle.rg_base.specs.declared.words.Manager.{Manager}
use Rattle.rg_base.specs.declared.words.Manager.TheVariants.{Count, Trace}
use Rattle.rg_rules.specs.Outside.Asks.{asks_from}
use Rattle.rg_rules.specs.Runs.{plain_from}
use Rattle.rg_cown.specs.Cargo.{CargoList}
use Rattle.rg_cown.specs.Contents.{read_on}
use Rattle.rg_plan.specs.Plans.{Read, PlanOf}
use Rattle.rg_plan.specs.Rules.{plan_of}
use Rattle.rg_sched_atomic.specs.Contents.{Empty}
use Rattle.rg_sched_atomic.specs.Settings.{setting_of}
use Rattle.rg_sched.specs.Asking.{schedule_asks}
use Rattle.rg_sched.specs.Schedules.{Whole, BadBehind, TooLong, schedule_of, schedule_from}
use Rattle.rg_words.specs.declared.status.Status.TheVariants as status
use Rattle.rg_words.specs.Answers.{Answer, refused}
use Rattle.rg_when.specs.Scheduled.{kept_of, schedule_answer}
use Rattle.rg_when.proofs.Counter.{counted, making, lines, two}

-- What inputs say as schedules

numbers : schedule_of 2 (codes " 0 1 0") ≡ Whole (0 ∷ 1 ∷ 0 ∷ [])
unfolding schedule_from
numbers = refl

no_behaviour : schedule_of 2 (codes "0 2 x") ≡ BadBehind (0 ∷ [])
unfolding schedule_from
no_behaviour = refl

no_number : schedule_of 2 (codes "x") ≡ BadBehind []
unfolding schedule_from
no_number = refl

below_nothing : schedule_of 2 (codes "0 0 -1") ≡ BadBehind (0 ∷ 0 ∷ [])
unfolding schedule_from
below_nothing = refl

-- where two numbers may come at most
two_of_two : schedule_from 2 2 [] (codes "0 1") ≡ Whole (0 ∷ 1 ∷ [])
unfolding schedule_from
two_of_two = refl

three_of_two : schedule_from 2 2 [] (codes "0 1 0") ≡ TooLong (0 ∷ 1 ∷ [])
unfolding schedule_from
three_of_two = refl

-- whatever comes third
no_number_behind_two : schedule_from 2 2 [] (codes "0 1 x") ≡ TooLong (0 ∷ 1 ∷ [])
unfolding schedule_from
no_number_behind_two = refl

-- What `when` answers

-- for each cown of a plan a content, of which none counts where no line names an image
abbrev no_images : PlanOf → List CargoList
no_images p = replicate (length p.cowns) (record { cells = []; managers = [] })

abbrev by_plan : Read PlanOf → (keep : Option ℕ) → (input : String) → Answer
by_plan (Ok p) keep input = schedule_answer counted p (no_images p) keep (codes input)
by_plan (Err line) keep input = refused (record { code = Plan; line = line })

-- the answer to the lines of a plan and an input
abbrev to_plan : List String → (input : String) → Answer
to_plan ss input = by_plan (plan_of counted (lines ss)) None input

-- the text of these lines
abbrev told : List String → Answer
told ss = record { status = status.Done; text = lines ss }

both_done : to_plan two "0 1 0 0 0 0 0 0 1 1 1 1 1 1 1" ≡ told ("behaviour 0 A.add done" ∷ "1" ∷ "behaviour 1 A.add done" ∷ "2" ∷ [])
unfolding digits plain_from read_on schedule_from
both_done = refl

one_waits : to_plan two "0 1 0" ≡ told ("behaviour 0 A.add running" ∷ "behaviour 1 A.add waiting" ∷ [])
unfolding digits plain_from read_on schedule_from
one_waits = refl

nothing_begins : to_plan two "" ≡ told ("behaviour 0 A.add waiting" ∷ "behaviour 1 A.add waiting" ∷ [])
unfolding digits plain_from read_on schedule_from
nothing_begins = refl

-- the text has behaviours by their numbers, in whatever order they began
the_second_begins_first : to_plan ("cown N arena" ∷ "cown N arena" ∷ "when A.add 0" ∷ "when A.add 1" ∷ []) "1 0"
    ≡ told ("behaviour 0 A.add running" ∷ "behaviour 1 A.add running" ∷ [])
unfolding digits plain_from read_on schedule_from
the_second_begins_first = refl

bad_schedule : to_plan two "0 2" ≡ refused (record { code = Schedule; line = 2 })
unfolding schedule_from
bad_schedule = refl

bad_plan : to_plan ("when A.add 0" ∷ []) "" ≡ refused (record { code = Plan; line = 1 })
bad_plan = refl

-- What is kept

-- the answer where the content of cown 0 is kept
abbrev keeps : List String → (input : String) → Answer
keeps ss input = by_plan (plan_of counted (lines ss)) (Some 0) input

-- eight bytes of a small number
abbrev small : ℕ → List ℕ
small n = 0 ∷ 0 ∷ 0 ∷ 0 ∷ 0 ∷ 0 ∷ 0 ∷ n ∷ []

-- the image of an object of the first class with this number, alone in a region with an arena: 52 bytes
abbrev image_of : ℕ → List ℕ
image_of v = codes "RGI1" ++ 1 ∷ small 1 ++ 0 ∷ small 1 ++ 0 ∷ 0 ∷ 0 ∷ 0 ∷ 0 ∷ small 0 ++ small 1 ++ 1 ∷ small v

bytes_of_it : length (image_of 2) ≡ 52
bytes_of_it = refl

-- the image of an object with this number was written
abbrev kept_number : ℕ → Answer
kept_number v = record { status = status.Done; text = image_of v }

none_touches_it : keeps ("cown N arena" ∷ []) "" ≡ kept_number 0
unfolding plain_from read_on schedule_from
none_touches_it = refl

kept_behind_both : keeps two "0 1 0 0 0 0 0 0 1 1 1 1 1 1 1" ≡ kept_number 2
unfolding plain_from read_on schedule_from
kept_behind_both = refl

-- behind three numbers the first behaviour still has it
away : keeps two "0 1 0" ≡ record { status = status.Away 3; text = [] }
unfolding plain_from read_on schedule_from
away = refl

bad_schedule_kept : keeps two "0 2" ≡ refused (record { code = Schedule; line = 2 })
unfolding schedule_from
bad_schedule_kept = refl

-- a behaviour that trapped leaves nothing
nothing_left : kept_of Empty 5 ≡ record { status = status.Done; text = codes "RGI1" ++ 0 ∷ [] }
nothing_left = refl

-- How often the pacers are asked

-- over the events of these numbers, of one behaviour that makes an object while its cown's region is active
abbrev asked_over : Read PlanOf → (numbers : List ℕ) → Manager → ℕ
asked_over (Ok p) ns m = schedule_asks making.classes (setting_of making.classes p (no_images p)) ns m
asked_over (Err line) ns m = line

-- a cown whose region counts
abbrev counting : Read PlanOf
counting = plan_of making (lines ("cown N count" ∷ "when A.add 0" ∷ []))

-- it begins, and enters the region
not_yet : asked_over counting (0 ∷ 0 ∷ []) Count ≡ 0
unfolding plain_from asks_from
not_yet = refl

-- it makes the object, and ends
asked_once : asked_over counting (0 ∷ 0 ∷ 0 ∷ 0 ∷ 0 ∷ 0 ∷ 0 ∷ 0 ∷ []) Count ≡ 1
unfolding plain_from asks_from
asked_once = refl

-- the region has the other manager
other_pacer : asked_over counting (0 ∷ 0 ∷ 0 ∷ []) Trace ≡ 0
unfolding plain_from asks_from
other_pacer = refl
