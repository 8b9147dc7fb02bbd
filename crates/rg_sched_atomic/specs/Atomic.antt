-- Behaviours that are done one after the other, and what holds of a world behind every schedule (docs/architecture.md, "Schedules").
use Rattle.std.specs.Prelude.{◌≡◌, ℕ, ◌<◌, true, List, [], ◌∷◌, ◌++◌, length, map, replicate, Option, Some, None}
use Rattle.std.specs.Prelude.{slice_get, slice_index, slice_index_or, slice_set}
use Rattle.rg_tree.specs.Tree.{Class}
use Rattle.rg_rules.specs.Types.{fields_of}
use Rattle.rg_rules.specs.Runs.{Ran}
use Rattle.rg_plan.specs.Plans.{Turn as Behaviour}
use Rattle.rg_sched_atomic.specs.Contents.{Content, Held, contents_at, put, left_by}
use Rattle.rg_sched_atomic.specs.Behaviours.{run_of, share, has_ended}
use Rattle.rg_sched_atomic.specs.Settings.{Setting}
use Rattle.rg_sched_atomic.specs.Numbers.{In, Distinct}

-- what is told: the run of each behaviour that has begun, and what each cown has
pub record Told : Type 0 where
  pub runs : List (Option Ran)
  pub contents : List Content

-- no behaviour has begun
abbrev pub at_first : Setting → Told
at_first s = record { runs = replicate (length s.behaviours) None; contents = map Held s.contents }

-- the run of a behaviour is told, and its cowns get what it leaves to them
abbrev pub tell : List Class → (number : ℕ) → Behaviour → Ran → Told → Told
tell classes i b r t = record {
  runs = slice_set t.runs i (Some r);
  contents = put b.cowns (left_by (fields_of classes b.class) r.state r.ending b.cowns) t.contents;
}

-- a behaviour takes the contents of its cowns and makes at most so many steps, if it is there
abbrev pub do_one : List Class → (number steps : ℕ) → Option Behaviour → Told → Told
do_one classes i n None t = t
do_one classes i n (Some b) t = tell classes i b (run_of classes b (contents_at t.contents b.cowns) n) t

-- behaviours are done one after the other, in this order, each with its number of steps
abbrev pub do_all : List Class → List Behaviour → (order steps : List ℕ) → Told → Told
do_all classes bs [] steps t = t
do_all classes bs (i ∷ is) steps t = do_all classes bs is steps (do_one classes i (slice_index steps i) (slice_get bs i) t)

abbrev pub atomic : List Class → Setting → (order steps : List ℕ) → Told
atomic classes s order steps = do_all classes s.behaviours order steps (at_first s)

-- what is told, which behaviours began, in order, and how many steps of each behaviour were tried
pub record World : Type 0 where
  pub told : Told
  pub began : List ℕ
  pub turns : List ℕ

-- All is as if the behaviours had been done one after the other. None began twice, and one that hasn't begun has made no step. Those that
-- share a cown began in the order of their numbers, each when the ones before it had ended.
pub record WorldOf (classes : List Class) (s : Setting) (w : World) : Type 0 where
  pub told : w.told ≡ atomic classes s w.began w.turns
  pub once : Distinct w.began
  pub unbegun : (i : ℕ) → (In w.began i → ⊥) → slice_index w.turns i ≡ 0
  pub behind : (front back : List ℕ) (i k : ℕ) → w.began ≡ front ++ i ∷ back → k < i → share s.behaviours i k ≡ true → In front k
  pub ended : (i k : ℕ) → In w.began i → k < i → share s.behaviours i k ≡ true → has_ended (slice_index_or w.told.runs k None) ≡ true
