-- The search for a variable among those that are visible.
use Rattle.std.proofs.Common.{◌≡◌, ℕ, ◌+◌, List}
use Rattle.rg_tree.specs.Tree.{Variable}
use Rattle.rg_tree.specs.Rows.Tables.{Tables}
use Rattle.rg_code.specs.Lowering.{slot_of, type_in}
use Rattle.rg_lower.specs.declared.slots.Held.{Held}
use Rattle.rg_lower.specs.Inner.Slots.{scope_of}

-- some variables don't have the name, and the others are left
pub record SearchedTo (t : Tables) (x : Variable) (held rest : List Held) (index slot : ℕ) : Type 0 where
  pub slot_is : slot ≡ index
  pub place_is : slot_of (scope_of t held) x ≡ slot + slot_of (scope_of t rest) x
  pub ty_is : type_in (scope_of t held) x ≡ type_in (scope_of t rest) x
