-- Behaviours: on what they run, which of them share a cown, and which have ended (docs/architecture.md, "Schedules").
use Rattle.std.specs.Prelude.{ℕ, Bool as Truth, true, false, List, [], ◌∷◌, ◌++◌, filter_map, Option, Some, None, slice_get, slice_index_or}
use Rattle.std.specs.List.{list_any}
use Rattle.rg_base.specs.declared.words.Cap.TheVariants.{Mut}
use Rattle.rg_tree.specs.Tree.{empty, Method, Class}
use Rattle.rg_rules.specs.Types.{fields_of, method_member}
use Rattle.rg_rules.specs.Runs.{Ending, Running, Done, Stopped, Ran, plain_from}
use Rattle.rg_opening.specs.Opening.{opening_of}
use Rattle.rg_plan.specs.Plans.{Turn as Behaviour, among}
use Rattle.rg_sched_atomic.specs.Contents.{Content, givens}

-- all methods of a program, in source order: each goes by its number
abbrev pub all_methods : List Class → List Method
all_methods [] = []
all_methods (c ∷ cs) = filter_map method_member c.members ++ all_methods cs

-- a method that does nothing
abbrev pub idle : Method
idle = record { receiver = Mut; name = []; params = []; result = None; body = empty; line = 0 }

-- A behaviour runs its method on a new object of its class, which owns these contents: what at most so many steps make of it.
abbrev pub run_of : List Class → Behaviour → List Content → (steps : ℕ) → Ran
run_of classes b cs n =
    plain_from classes n 0 (opening_of b.class (slice_index_or (all_methods classes) b.method idle) (givens (fields_of classes b.class) cs))

-- the cowns of a behaviour, none where it isn't there
abbrev pub cowns_in : Option Behaviour → List ℕ
cowns_in None = []
cowns_in (Some b) = b.cowns

abbrev pub cowns_of : List Behaviour → (number : ℕ) → List ℕ
cowns_of bs i = cowns_in (slice_get bs i)

-- whether two behaviours share a cown
abbrev pub share : List Behaviour → (one other : ℕ) → Truth
share bs i k = list_any (among (cowns_of bs k)) (cowns_of bs i)

-- whether a behaviour that has such a run has ended, if it has begun
abbrev pub is_over : Ending → Truth
is_over Running = false
is_over Done = true
is_over (Stopped kind line) = true

abbrev pub has_ended : Option Ran → Truth
has_ended None = false
has_ended (Some r) = is_over r.ending
