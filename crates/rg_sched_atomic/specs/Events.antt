-- What an event does, and the world behind a schedule (docs/architecture.md, "Schedules").
use Rattle.std.specs.Prelude.{ℕ, suc, ◌||◌, not, Bool as Truth, if◌then◌else◌, List, [], ◌∷◌, ◌++◌, length, replicate, Option, Some, None}
use Rattle.std.specs.Prelude.{slice_get, slice_index, slice_index_or, slice_set}
use Rattle.std.specs.List.{list_all, range_with_len}
use Rattle.rg_tree.specs.Tree.{Class}
use Rattle.rg_rules.specs.Runs.{Ending, Running, Done, Stopped, Ran, plain_from}
use Rattle.rg_plan.specs.Plans.{Turn as Behaviour}
use Rattle.rg_sched_atomic.specs.Behaviours.{share, has_ended}
use Rattle.rg_sched_atomic.specs.Settings.{Setting}
use Rattle.rg_sched_atomic.specs.Atomic.{at_first, tell, do_one, World}

-- whether every lower-numbered behaviour that shares a cown with it has ended
abbrev pub may_begin : List Behaviour → List (Option Ran) → (number : ℕ) → Truth
may_begin bs runs i = list_all (λ k. not (share bs i k) || has_ended (slice_index_or runs k None)) (range_with_len 0 i)

-- a behaviour begins: it takes the contents of its cowns, and has made no step
abbrev pub begins : List Class → (number : ℕ) → Behaviour → World → World
begins classes i b w = record { told = do_one classes i 0 (Some b) w.told; began = w.began ++ i ∷ []; turns = w.turns }

-- a run makes one step more
abbrev pub one_more : List Class → Ran → Ran
one_more classes r = plain_from classes 1 r.steps r.state

-- a behaviour with such a run makes one step more, which is counted whether it traps or not
abbrev pub steps_on : List Class → (number : ℕ) → Behaviour → Ran → World → World
steps_on classes i b r w = record {
  told = tell classes i b (one_more classes r) w.told;
  began = w.began;
  turns = slice_set w.turns i (suc (slice_index w.turns i));
}

-- a running behaviour makes one step; one that has ended does nothing
abbrev pub event_by : List Class → (number : ℕ) → Behaviour → Ran → Ending → World → World
event_by classes i b r Running w = steps_on classes i b r w
event_by classes i b r Done w = w
event_by classes i b r (Stopped kind line) w = w

-- a behaviour that hasn't begun begins where it may
abbrev pub event_of : List Class → List Behaviour → (number : ℕ) → Option Behaviour → Option Ran → World → World
event_of classes bs i None run w = w
event_of classes bs i (Some b) None w = if may_begin bs w.told.runs i then begins classes i b w else w
event_of classes bs i (Some b) (Some r) w = event_by classes i b r r.ending w

-- the event of a number
abbrev pub event : List Class → List Behaviour → (number : ℕ) → World → World
event classes bs i w = event_of classes bs i (slice_get bs i) (slice_index_or w.told.runs i None) w

-- the events of a schedule, one after another
abbrev pub after : List Class → List Behaviour → (schedule : List ℕ) → World → World
after classes bs [] w = w
after classes bs (i ∷ is) w = after classes bs is (event classes bs i w)

-- no event was
abbrev pub first_world : Setting → World
first_world s = record { told = at_first s; began = []; turns = replicate (length s.behaviours) 0 }

-- the world behind a schedule
abbrev pub world_after : List Class → Setting → (schedule : List ℕ) → World
world_after classes s schedule = after classes s.behaviours schedule (first_world s)
