-- A machine whose rows are a program's, and what changes where a statement has used up its expression (docs/language.md, "Steps").
use Rattle.std.specs.Prelude.{◌≡◌, ℕ, ◌≤◌, List, ◌∷◌, All, length, vec_capacity, IfSome}
use Rattle.rg_tree.specs.Rows.Tables.{Tables}
use Rattle.rg_tree.specs.Rows.RowTrees.{expr_at, stmt_at}
use Rattle.rg_rules.specs.Items.{Do}
use Rattle.rg_rules.specs.Evaluation.{uses, cleared}
use Rattle.rg_store.specs.Shown.{store_of, AreOfClasses}
use Rattle.rg_values.specs.declared.state.rows.LocalRow.{LocalRow}
use Rattle.rg_tree.specs.Rows.RowsExist.{IsNameIn}
use Rattle.rg_values.specs.declared.state.rows.ItemRow.{ItemRow}
use Rattle.rg_values.specs.declared.state.rows.FrameRow.{FrameRow}
use Rattle.rg_values.specs.declared.state.rows.TargetRow.{TargetRow}
use Rattle.rg_values.specs.declared.state.rows.TargetRow.TheVariants as target
use Rattle.rg_values.specs.declared.state.parts.Parts.{Parts}
use Rattle.rg_values.specs.Shown.{locals_of, AreNamed}
use Rattle.rg_values.specs.Regions.{RegionsFit}
use Rattle.rg_values.specs.Kept.{Kept, shown, ItemsFit}

-- the names in a target are the program's
abbrev pub TargetFits : Tables → TargetRow → Type 0
TargetFits t (target.Declares x ty) = IsNameIn t x
TargetFits t (target.Assigns x) = IfSome x (IsNameIn t)
TargetFits t target.Drops = Unit {0}

-- each number that the machine keeps names a row of the program, or a region that was made
pub record PartsFit (t : Tables) (p : Parts) : Type 0 where
  pub objects : AreOfClasses t p.store.items
  pub named : AreNamed t p.frame.locals.items
  pub below : All (λ f. AreNamed t f.locals.items) p.below.items
  pub targets : All (λ f. TargetFits t f.target) p.below.items
  pub target : TargetFits t p.frame.target
  pub items : ItemsFit t p.items.items
  pub regions : RegionsFit (length p.managers.items) (store_of p.store.items) p.window p.outer.items

-- the kept state with other variables of the running body, and other items
abbrev pub with_rows : Kept → List LocalRow → List ItemRow → Kept
with_rows k locals items = record k { frame = record k.frame { locals = locals }; items = items }

-- an expression was used up, and the statement of a number is done
pub record Spends (t : Tables) (old new : Kept) (number e : ℕ) : Type 0 where
  pub new_is : new ≡ with_rows old new.frame.locals new.items
  pub locals : locals_of t new.frame.locals ≡ cleared (uses (locals_of t old.frame.locals) (expr_at t e)) (locals_of t old.frame.locals)
  pub items : shown t old.items ≡ Do (stmt_at t number) ∷ shown t new.items

-- the room for variables and items stays, and there are no more of them
pub record KeepsRoom (old new : Parts) : Type 0 where
  pub locals : vec_capacity new.frame.locals ≡ vec_capacity old.frame.locals
  pub local_count : length new.frame.locals.items ≡ length old.frame.locals.items
  pub items : vec_capacity new.items ≡ vec_capacity old.items
  pub item_count : length new.items.items ≤ length old.items.items

-- the names in frames are the program's
pub record FramesFit (t : Tables) (frames : List FrameRow) : Type 0 where
  pub named : All (λ f. AreNamed t f.locals.items) frames
  pub targets : All (λ f. TargetFits t f.target) frames

-- the names in a frame are the program's
pub record FrameFits (t : Tables) (f : FrameRow) : Type 0 where
  pub named : AreNamed t f.locals.items
  pub target : TargetFits t f.target
