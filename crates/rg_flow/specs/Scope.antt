-- What contracts see of the visible variables: names and classes by their numbers (docs/language.md, "Judgements").
use Rattle.std.specs.Prelude.{ℕ, ◌+◌, Bool, true, nat_eq, if◌then◌else◌, List, [], ◌∷◌, ◌++◌, take, map, All, IfSome, Option}
use Rattle.std.specs.Option.{option_eq}
use Rattle.rg_base.specs.declared.ty.Ty.{Ty}
use Rattle.rg_tree.specs.Rows.Tables.{Tables}
use Rattle.rg_tree.specs.Rows.RowTrees.{program_of, variable_of}
use Rattle.rg_tree.specs.Rows.RowsExist.{IsNameIn}
use Rattle.rg_rules.specs.Environment.{Readiness, ready, Entry, Env}
use Rattle.rg_names.specs.TreeAnswers.{IsKnown}

-- a variable; `self` has no name
pub record Slot : Type 0 where
  pub name : Option ℕ
  pub ty : Ty
  pub depth : ℕ
  pub readiness : Readiness
  pub assignable : Bool

-- the variables in the order in which they were added, and the current depth
pub record Scope : Type 0 where
  pub depth : ℕ
  pub slots : List Slot

-- no variables
abbrev pub no_variables : Scope
no_variables = record { depth = 0; slots = [] }

-- one more variable, ready, at the current depth
abbrev pub pushed : Scope → (name : Option ℕ) → Ty → (assignable : Bool) → Scope
pushed scope name ty assignable = record scope {
  slots = scope.slots ++ record { name = name; ty = ty; depth = scope.depth; readiness = ready; assignable = assignable } ∷ [];
}

-- whether two variables are one, by the numbers of their names
abbrev pub same_name : Option ℕ → Option ℕ → Bool
same_name n m = option_eq nat_eq n m

-- a variable, in another state if it has that name
abbrev pub marked_slot : Option ℕ → Readiness → Slot → Slot
marked_slot name now s = if same_name s.name name then record s { readiness = now } else s

-- the variables with those of a name in another state
abbrev pub marked : Option ℕ → Readiness → Scope → Scope
marked name now scope = record scope { slots = map (marked_slot name now) scope.slots }

-- one more variable one depth deeper
abbrev pub entered : Scope → (name : Option ℕ) → Ty → Scope
entered scope name ty = pushed (record scope { depth = scope.depth + 1 }) name ty true

-- the first variables, so many, at that depth
abbrev pub closed_at : (depth len : ℕ) → Scope → Scope
closed_at depth len scope = record { depth = depth; slots = take len scope.slots }

-- a variable with its name written out
abbrev pub entry_of : Tables → Slot → Entry
entry_of t s = record { name = variable_of t s.name; ty = s.ty; depth = s.depth; readiness = s.readiness; assignable = s.assignable }

-- the environment that a scope stands for
abbrev pub env_of : Tables → Scope → Env
env_of t scope = record { depth = scope.depth; entries = map (entry_of t) scope.slots }

-- the numbers of a variable name a name and a class
pub record IsSlotIn (t : Tables) (s : Slot) : Type 0 where
  pub name : IfSome s.name (IsNameIn t)
  pub ty : IsKnown (program_of t).classes s.ty

-- the numbers of each variable name names and classes
abbrev pub IsScopeIn : Tables → Scope → Type 0
IsScopeIn t scope = All (IsSlotIn t) scope.slots
