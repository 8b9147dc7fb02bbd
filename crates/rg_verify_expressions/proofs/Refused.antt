-- What is refused where the topmost items aren't what an instruction takes.
use Rattle.std.proofs.Common.{ℕ, Bool as Truth, List, [], ◌∷◌, Err, refl}
use Rattle.rg_tree.specs.Rows.Tables.{Tables}
use Rattle.rg_verify_expressions.specs.declared.held.Held.{Held}
use Rattle.rg_verify_expressions.specs.declared.refusal.Refusal.{Refusal}
use Rattle.rg_verify_expressions.specs.declared.refusal.Refusal.TheVariants as refusal
use Rattle.rg_verify_expressions.specs.Raised.{Raised}
use Rattle.rg_verify_expressions.specs.Raising.{Item, tree, from_path, from_checked, from_index}
use Rattle.rg_verify_expressions.specs.Inner.Stacks.{Makes, TakesRow, TakesPath}

-- no path is on top
pub path-refused : (t : Tables) (m : Truth) (news : List Held) (items : List Item) (e : Refusal) (f : ℕ → List ℕ → Raised) (end : ℕ)
    → TakesPath t m news items (Err e) → Makes t t m news (Err e) (from_path f end items)
path-refused t m news items refusal.NotRaised f end h = h.1 f end
path-refused t m news items refusal.Memory f end h = absurd h

pub check-refused : (t : Tables) (m : Truth) (news : List Held) (items : List Item) (e : Refusal) → TakesPath t m news items (Err e)
    → Makes t t m news (Err e) (from_checked items)
check-refused t m news items refusal.NotRaised h = h.0
check-refused t m news items refusal.Memory h = absurd h

-- no tree is on top
pub index-refused : (t u : Tables) (m : Truth) (news : List Held) (items : List Item) (e : Refusal) → TakesRow t u m news items (Err e)
    → Makes t u m news (Err e) (from_index items)
index-refused t u m news (tree r ∷ below) refusal.NotRaised h = absurd h
index-refused t u m news (tree r ∷ below) refusal.Memory h = tt
index-refused t u m news items refusal.NotRaised h = refl
index-refused t u m news items refusal.Memory h = tt
