-- What the machine keeps, as contracts see it, and the plain state that it stands for. A name, a statement and a class go by their numbers
-- (docs/language.md, "Steps").
use Rattle.std.specs.Prelude.{ℕ, ◌<◌, List, [], ◌∷◌, map, reverse, All, option_map}
use Rattle.rg_base.specs.declared.object.Seen.{Seen}
use Rattle.rg_base.specs.declared.value.Val.{Val}
use Rattle.rg_base.specs.declared.words.Manager.{Manager}
use Rattle.rg_tree.specs.Rows.Tables.{Tables, name_at}
use Rattle.rg_tree.specs.Rows.RowTrees.{block_of}
use Rattle.rg_tree.specs.Rows.RowsExist.{IsNameIn, IsBlockIn}
use Rattle.rg_rules.specs.Items.{Item, EndAt, LeaveAt, LeaveGiving, Back, items_of}
use Rattle.rg_rules.specs.State.{Target, Declares, Assigns, Drops, Frame, Window, State}
use Rattle.rg_store.specs.Shown.{store_of}
use Rattle.rg_values.specs.declared.state.rows.LocalRow.{LocalRow}
use Rattle.rg_values.specs.declared.state.rows.TargetRow.{TargetRow}
use Rattle.rg_values.specs.declared.state.rows.TargetRow.TheVariants as target
use Rattle.rg_values.specs.declared.state.rows.FrameRow.{FrameRow}
use Rattle.rg_values.specs.declared.state.rows.WindowRow.{WindowRow}
use Rattle.rg_values.specs.declared.state.rows.ItemRow.{ItemRow}
use Rattle.rg_values.specs.declared.state.rows.ItemRow.TheVariants as row
use Rattle.rg_values.specs.declared.state.parts.Parts.{Parts}
use Rattle.rg_values.specs.Shown.{locals_of}

-- a frame
pub record FrameKept : Type 0 where
  pub locals : List LocalRow
  pub target : TargetRow

-- Of frames and windows the topmost stands alone, and the others have the lowest first; items have the topmost last.
pub record Kept : Type 0 where
  pub store : List Seen
  pub frame : FrameKept
  pub below : List FrameKept
  pub window : WindowRow
  pub outer : List WindowRow
  pub managers : List Manager
  pub windows_made : ℕ
  pub items : List ItemRow
  pub output : List Val

-- a frame of the machine
abbrev pub kept_frame : FrameRow → FrameKept
kept_frame f = record { locals = f.locals.items; target = f.target }

-- the machine
abbrev pub kept_of : Parts → Kept
kept_of p = record {
  store = store_of p.store.items;
  frame = kept_frame p.frame;
  below = map kept_frame p.below.items;
  window = p.window;
  outer = p.outer.items;
  managers = p.managers.items;
  windows_made = p.windows_made;
  items = p.items.items;
  output = p.output;
}

-- what takes the result of a call
abbrev pub target_of : Tables → TargetRow → Target
target_of t (target.Declares x ty) = Declares (name_at t x) ty
target_of t (target.Assigns x) = Assigns (option_map (name_at t) x)
target_of t target.Drops = Drops

-- a frame of the plain state
abbrev pub frame_of : Tables → FrameKept → Frame
frame_of t f = record { locals = locals_of t f.locals; target = target_of t f.target }

-- a window of the plain state
abbrev pub window_of : WindowRow → Window
window_of w = record { number = w.number; region = w.region; owner = w.owner; base_frame = w.base_frame; base_place = w.base_place }

-- what a row puts in front of other items
abbrev pub put_row : Tables → ItemRow → List Item → List Item
put_row t (row.Rest s) below = items_of (block_of t s) below
put_row t (row.EndAt k) below = EndAt k ∷ below
put_row t (row.LeaveAt k) below = LeaveAt k ∷ below
put_row t (row.LeaveGiving line k w) below = LeaveGiving line k (name_at t w) ∷ below
put_row t row.Back below = Back ∷ below

-- what rows put in front of other items
unfoldable pub items_from : Tables → List Item → List ItemRow → List Item
items_from t below [] = below
items_from t below (r ∷ rows) = items_from t (put_row t r below) rows

-- the items of rows
abbrev pub shown : Tables → List ItemRow → List Item
shown t rows = items_from t [] rows

-- the plain state, with the rest of the input
abbrev pub plain_of : Tables → Kept → (input : List ℕ) → State
plain_of t k input = record {
  store = k.store;
  frames = frame_of t k.frame ∷ map (frame_of t) (reverse k.below);
  windows = window_of k.window ∷ map window_of (reverse k.outer);
  managers = k.managers;
  windows_made = k.windows_made;
  items = shown t k.items;
  input = input;
  output = k.output;
}

-- the row names statements of the program, and is not empty
abbrev pub ItemFits : Tables → ItemRow → Type 0
ItemFits t (row.Rest s) = (s.from < s.to) × IsBlockIn t s
ItemFits t (row.EndAt k) = Unit {0}
ItemFits t (row.LeaveAt k) = Unit {0}
ItemFits t (row.LeaveGiving line k w) = IsNameIn t w
ItemFits t row.Back = Unit {0}

-- each row does
abbrev pub ItemsFit : Tables → List ItemRow → Type 0
ItemsFit t rows = All (ItemFits t) rows
