-- The machine as contracts see it, and what it must be for a step (docs/language.md, "Steps").
use Rattle.std.specs.Prelude.{◌≡◌, ℕ, ◌<◌, List, [], ◌∷◌, All, length, Option, Some, None}
use Rattle.rg_tree.specs.Rows.Tables.{Tables}
use Rattle.rg_tree.specs.Rows.RowTrees.{classes_of, program_of, block_of}
use Rattle.rg_base.specs.declared.outcome.Outcome.{Outcome}
use Rattle.rg_rules.specs.Acceptance.{Accepted}
use Rattle.rg_rules.specs.Items.{EndAt, items_of}
use Rattle.rg_rules.specs.State.{State}
use Rattle.rg_rules.specs.Steps.{next}
use Rattle.rg_rules.specs.Runs.{opening}
use Rattle.rg_sound.specs.Fit.{Fit}
use Rattle.rg_sound.specs.Laws.{StaysFit}
use Rattle.rg_names.specs.Table.{Table}
use Rattle.rg_names.specs.TableOf.{IsTableOf}
use Rattle.rg_values.specs.declared.state.rows.TargetRow.TheVariants as target
use Rattle.rg_values.specs.Shown.{AreNamed}
use Rattle.rg_values.specs.Kept.{Kept, plain_of, shown, ItemsFit}
use Rattle.rg_values.specs.Fits.{TargetFits}
use Rattle.rg_values.specs.Regions.{RegionsFit}
use Rattle.rg_plain.specs.Outcomes.{Settles, EndsMain}

-- the class table of the program that runs, once one does, and what is kept
pub record Machine : Type 0 where
  pub classes : Option Table
  pub kept : Kept

-- a machine on which no program has begun
abbrev pub fresh : Machine
fresh = record {
  classes = None;
  kept = record {
    store = [];
    frame = record { locals = []; target = target.Drops };
    below = [];
    window = record { number = 0; region = 0; owner = None; base_frame = 0; base_place = 0 };
    outer = [];
    managers = [];
    windows_made = 1;
    items = [];
    output = [];
  };
}

-- the plain state, with the rest of the input
abbrev pub state_of : Tables → Machine → (input : List ℕ) → State
state_of t m input = plain_of t m.kept input

-- each number that is kept names a row of the program, or a region that was made
pub record KeptFits (t : Tables) (k : Kept) : Type 0 where
  pub classes : All (λ o. o.class < length (classes_of t)) k.store
  pub named : AreNamed t k.frame.locals
  pub below : All (λ f. AreNamed t f.locals) k.below
  pub targets : All (λ f. TargetFits t f.target) k.below
  pub target : TargetFits t k.frame.target
  pub items : ItemsFit t k.items
  pub regions : RegionsFit (length k.managers) k.store k.window k.outer

-- the program runs on the machine: the table is the program's, the numbers name its rows, and the last thing to do ends main
pub record Fits (t : Tables) (m : Machine) : Type 0 where
  pub table : Table
  pub classes : m.classes ≡ Some table
  pub table_is : IsTableOf t table
  pub kept : KeptFits t m.kept
  pub ends : EndsMain (shown t m.kept.items)

-- main's block is to do, and its manager is that of region 0
pub record BegunWith (t : Tables) (k : Kept) : Type 0 where
  pub kept : k ≡ record fresh.kept { managers = t.manager ∷ []; items = k.items }
  pub items : shown t k.items ≡ items_of (block_of t t.body) (EndAt 0 ∷ [])
  pub fit : ItemsFit t k.items

-- the program has begun, and no step was made
pub record Begins (t : Tables) (m : Machine) : Type 0 where
  pub fits : Fits t m
  pub state : (input : List ℕ) → state_of t m input ≡ opening (program_of t) input

-- what a step that finds these bytes of the input answers, and what it leaves of them
abbrev pub StepsOn : Tables → (old new : Machine) → (result : Outcome) → (before after : List ℕ) → Type 0
StepsOn t old new result before after =
    Settles (next (classes_of t) (state_of t old before)) (state_of t old before) (state_of t new after) result

-- where the program is accepted and the state fits, with these bytes of the input, the next one fits, and only what may be was written
abbrev pub KeepsFit : Tables → (old new : Machine) → (before after : List ℕ) → Type 0
KeepsFit t old new before after =
    Accepted (program_of t) → Fit (program_of t) (state_of t old before) → StaysFit (program_of t) (state_of t old before) (state_of t new after)
