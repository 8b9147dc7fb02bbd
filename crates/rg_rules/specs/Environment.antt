-- The variables that are visible at a point of a body, and what may be done with each (docs/language.md, "Judgements").
use Rattle.std.specs.Prelude.{ℕ, ◌+◌, ◌==◌, Bool, true, false, ◌&&◌, ◌||◌, not, bytes_eq, if◌then◌else◌, List, [], ◌∷◌, ◌++◌, length, take, map, find}
use Rattle.std.specs.Prelude.{Option, Some, None, is_some}
use Rattle.rg_base.specs.declared.ty.Ty.{Ty}
use Rattle.rg_tree.specs.Tree.{Variable}
use Rattle.rg_rules.specs.Capabilities.{pause, is_iso}

-- the state of an `iso` variable; a variable of another type is always ready
pub data Readiness : Type 0 where
  -- it may be used
  ready : Readiness
  -- it was used up
  gone : Readiness
  -- its region is entered
  lent : Readiness

-- a variable; its depth is that at which it was added
pub record Entry : Type 0 where
  pub name : Variable
  pub ty : Ty
  pub depth : ℕ
  pub readiness : Readiness
  pub assignable : Bool

-- the variables in the order in which they were added; the depth counts the `enter`s of the body round the point
pub record Env : Type 0 where
  pub depth : ℕ
  pub entries : List Entry

-- the environment without variables
abbrev pub empty : Env
empty = record { depth = 0; entries = [] }

-- whether two variables are one; `self` has no name
abbrev pub same_variable : Variable → Variable → Bool
same_variable None None = true
same_variable None (Some y) = false
same_variable (Some x) None = false
same_variable (Some x) (Some y) = bytes_eq x y

-- the entry of a variable
abbrev pub entry_of : Env → Variable → Option Entry
entry_of env x = find (λ e. same_variable e.name x) env.entries

-- whether a variable is visible
abbrev pub visible : Env → Variable → Bool
visible env x = is_some (entry_of env x)

-- whether a variable was added at the current depth
abbrev pub at_depth : Env → Entry → Bool
at_depth env e = e.depth == env.depth

-- the type as which a variable is seen
abbrev pub seen_type : Env → Entry → Ty
seen_type env e = if at_depth env e then e.ty else pause e.ty

-- whether a state is ready
abbrev pub is_ready : Readiness → Bool
is_ready ready = true
is_ready gone = false
is_ready lent = false

-- whether a state is lent
abbrev pub is_lent : Readiness → Bool
is_lent ready = false
is_lent gone = false
is_lent lent = true

-- whether a variable may be used: an `iso` one must be ready
abbrev pub available : Entry → Bool
available e = not (is_iso e.ty) || is_ready e.readiness

-- the environment with one more variable, ready, at the current depth
abbrev pub with_variable : Env → Variable → Ty → (assignable : Bool) → Env
with_variable env x t assignable = record env {
  entries = env.entries ++ record { name = x; ty = t; depth = env.depth; readiness = ready; assignable = assignable } ∷ [];
}

-- an entry, in another state if it is that variable's
abbrev pub marked_entry : Variable → Readiness → Entry → Entry
marked_entry x now e = if same_variable e.name x then record e { readiness = now } else e

-- the environment with a variable in another state
abbrev pub marked : Variable → Readiness → Env → Env
marked x now env = record env { entries = map (marked_entry x now) env.entries }

-- the environment after a variable was used: an `iso` one is gone
abbrev pub used : Variable → Entry → Env → Env
used x e env = if is_iso e.ty then marked x gone env else env

-- the environment one depth deeper
abbrev pub deeper : Env → Env
deeper env = record env { depth = env.depth + 1 }

-- the environment behind a block, by those in front of it and at its end: the block's own variables go, and the depth is that in front
abbrev pub closed : (front out : Env) → Env
closed front out = record { depth = front.depth; entries = take (length front.entries) out.entries }

-- the state of a variable after one of two blocks: lent if it stayed so, ready if it is so after both, else gone
abbrev pub joined_readiness : Readiness → Readiness → Readiness
joined_readiness ready ready = ready
joined_readiness ready gone = gone
joined_readiness ready lent = gone
joined_readiness gone ready = gone
joined_readiness gone gone = gone
joined_readiness gone lent = gone
joined_readiness lent ready = gone
joined_readiness lent gone = gone
joined_readiness lent lent = lent

-- the variables after one of two blocks
abbrev pub joined_entries : List Entry → List Entry → List Entry
joined_entries [] others = []
joined_entries (e ∷ es) [] = []
joined_entries (e ∷ es) (o ∷ os) = record e { readiness = joined_readiness e.readiness o.readiness } ∷ joined_entries es os

-- the environment after one of two blocks
abbrev pub joined : Env → Env → Env
joined first second = record first { entries = joined_entries first.entries second.entries }

-- whether each variable of the head that is ready there is ready at the end of the body too
abbrev pub covers_entries : (head out : List Entry) → Bool
covers_entries [] out = true
covers_entries (e ∷ es) [] = not (is_ready e.readiness) && covers_entries es []
covers_entries (e ∷ es) (o ∷ os) = (not (is_ready e.readiness) || is_ready o.readiness) && covers_entries es os

-- whether a loop may begin again: what is ready at its head is ready at the end of its body
abbrev pub covers : (head out : Env) → Bool
covers head out = covers_entries head.entries out.entries
