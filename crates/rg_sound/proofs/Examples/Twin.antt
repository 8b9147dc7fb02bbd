-- The invariant as a test, for examples: its six parts by number, and along a run. Statements go by their lines, so an example gives
-- each its own.
use Rattle.std.proofs.Common.{ℕ, zero, suc, ◌==◌, Bool as Truth, true, false, not, ◌&&◌, ◌||◌, if◌then◌else◌, List, [], ◌∷◌, ◌++◌, length, take, drop}
use Rattle.std.proofs.Common.{map, reverse, bytes_eq, Option, Some, None, is_some, option_and_then, slice_get, Ok, Err}
use Rattle.std.specs.List.{list_all}
use Rattle.std.specs.Result.{result_ok}
use Rattle.rg_base.specs.declared.ty.Ty.{Ty}
use Rattle.rg_base.specs.declared.ty.Ty.TheVariants.{Int, Bool, Ref}
use Rattle.rg_base.specs.declared.object.Label.{Label}
use Rattle.rg_base.specs.declared.object.Label.TheVariants.{Region, Temp}
use Rattle.rg_base.specs.declared.object.Seen.{Seen}
use Rattle.rg_base.specs.declared.value.Val.{Val}
use Rattle.rg_base.specs.declared.object.Place.{Place}
use Rattle.rg_base.specs.declared.object.Place.TheVariants.{Var, Field}
use Rattle.rg_tree.specs.Tree.{Name, Variable, Path, Stmt, stmt, StmtKind, declare, assign, assign_element, call, swap, branch, while, enter, print}
use Rattle.rg_tree.specs.Tree.{collect, return, Else, no_else, otherwise, Block, empty as none, then as next, Method, Class, Tree}
use Rattle.rg_rules.specs.Capabilities.{same_type}
use Rattle.rg_rules.specs.Types.{methods_of}
use Rattle.rg_rules.specs.Environment.{Env, Entry, same_variable, is_lent}
use Rattle.rg_rules.specs.Paths.{walk}
use Rattle.rg_rules.specs.Statements.{judge_stmt, judge_test, judge_enter, last_of}
use Rattle.rg_rules.specs.Items.{Item, Do, EndAt, LeaveAt, LeaveGiving, Back, leave_of, items_of}
use Rattle.rg_rules.specs.Bodies.{Body, main_body, method_body}
use Rattle.rg_rules.specs.Points.{Spot}
use Rattle.rg_rules.specs.State.{Local, Target, Declares, Assigns, Drops, Frame, Window, State, active, top_number}
use Rattle.rg_rules.specs.Values.{same_truth, same_value}
use Rattle.rg_rules.specs.Steps.{Stepped, Went, Trapped, next as step_of}
use Rattle.rg_sound.specs.Windows.{covering}
use Rattle.rg_sound.specs.Frames.{leaves, call_of}
use Rattle.rg_sound.proofs.Examples.TwinData.{same_label, values_fit, object_fits, same_place, owners, lowest_alone, all_owned, none_again, is_forest}
use Rattle.rg_sound.proofs.Examples.TwinData.{numbers_fit}

-- The frames: all spots of a block

abbrev mutual
  spots_in : List Class → Option Ty → Env → Block → List Item → List Path → List Spot
  spots_in classes result env none after round = record { env = env; items = after; enters = round } ∷ []
  spots_in classes result env (next s b) after round =
      record { env = env; items = Do s ∷ items_of b after; enters = round } ∷ spots_inside classes env s (items_of b after) round
      ++ elim (result_ok (judge_stmt classes (last_of result b) env s)) [ None ↦ [] | Some mid ↦ spots_in classes result mid b after round ]

  spots_inside : List Class → Env → Stmt → List Item → List Path → List Spot
  spots_inside classes env (stmt line k) after round = spots_of_kind classes env line k after round

  spots_of_kind : List Class → Env → ℕ → StmtKind → List Item → List Path → List Spot
  spots_of_kind classes env line (declare x t r) after round = []
  spots_of_kind classes env line (assign p r) after round = []
  spots_of_kind classes env line (assign_element q e r) after round = []
  spots_of_kind classes env line (call c) after round = []
  spots_of_kind classes env line (swap y p) after round = []
  spots_of_kind classes env line (branch e b other) after round = elim (judge_test classes env e) [
    | Ok front ↦ spots_in classes None front b (EndAt (length env.entries) ∷ after) round ++ spots_of_else classes front other
        (EndAt (length env.entries) ∷ after) round
    | Err c ↦ []
  ]
  spots_of_kind classes env line (while e b) after round = elim (judge_test classes env e) [
    | Ok front ↦ spots_in classes None front b (EndAt (length env.entries) ∷ Do (stmt line (while e b)) ∷ after) round
    | Err c ↦ []
  ]
  spots_of_kind classes env line (enter p z b giving) after round = elim (judge_enter classes env p.base p.fields z) [
    | Ok front ↦ spots_in classes None front b (leave_of line (length env.entries) giving ∷ after) (round ++ p ∷ [])
    | Err c ↦ []
  ]
  spots_of_kind classes env line (print e) after round = []
  spots_of_kind classes env line collect after round = []
  spots_of_kind classes env line (return e) after round = []

  spots_of_else : List Class → Env → Else → List Item → List Path → List Spot
  spots_of_else classes env no_else after round = []
  spots_of_else classes env (otherwise b) after round = spots_in classes None env b after round

-- a body with all its spots; main's has no name
pub record Candidate : Type 0 where
  pub class : ℕ
  pub name : Option Name
  pub spots : List Spot

abbrev spots_of_body : List Class → Body → List Spot
spots_of_body classes b = spots_in classes b.result b.front b.block b.after []

abbrev methods_from : List Class → ℕ → List Class → List Candidate
methods_from classes c [] = []
methods_from classes c (d ∷ ds) =
    map (λ (m : Method). record { class = c; name = Some m.name; spots = spots_of_body classes (method_body classes c m) }) (methods_of classes c)
    ++ methods_from classes (suc c) ds

abbrev candidates : Tree → List Candidate
candidates t = record { class = 0; name = None; spots = spots_of_body t.classes (main_body t) } ∷ methods_from t.classes 0 t.classes

abbrev line_of : Stmt → ℕ
line_of (stmt line k) = line

abbrev same_item : Item → Item → Truth
same_item (Do s) (Do u) = line_of s == line_of u
same_item (EndAt k) (EndAt j) = k == j
same_item (LeaveAt k) (LeaveAt j) = k == j
same_item (LeaveGiving line k w) (LeaveGiving at j x) = line == at && k == j && bytes_eq w x
same_item Back Back = true
same_item i j = false

-- the items behind those that are expected in front
abbrev behind_items : List Item → List Item → Option (List Item)
behind_items [] is = Some is
behind_items (e ∷ es) [] = None
behind_items (e ∷ es) (i ∷ is) = if same_item e i then behind_items es is else None

abbrev named : List Entry → List Local → Truth
named [] [] = true
named [] (l ∷ ls) = false
named (e ∷ es) [] = false
named (e ∷ es) (l ∷ ls) = same_variable l.name e.name && same_type l.ty e.ty && named es ls

abbrev is_named : List Local → ℕ → Variable → Truth
is_named locals i x = elim (slice_get locals i) [ None ↦ false | Some l ↦ same_variable l.name x ]

abbrev enters : ℕ → List Local → Variable → List Name → Option Place → Truth
enters n locals x fs None = false
enters n locals x [] (Some (Var m i)) = m == n && is_named locals i x
enters n locals x [] (Some (Field a k)) = false
enters n locals x (f ∷ fs) (Some (Var m i)) = false
enters n locals x (f ∷ fs) (Some (Field a k)) = true

abbrev entered : ℕ → List Local → List Path → List Window → Truth
entered n locals [] [] = true
entered n locals [] (w ∷ ws) = false
entered n locals (p ∷ ps) [] = false
entered n locals (p ∷ ps) (w ∷ ws) = w.base_frame == n && enters n locals p.base p.fields w.owner && entered n locals ps ws

abbrev same_numbers : List ℕ → List ℕ → Truth
same_numbers [] [] = true
same_numbers [] (b ∷ bs) = false
same_numbers (a ∷ as_) [] = false
same_numbers (a ∷ as_) (b ∷ bs) = a == b && same_numbers as_ bs

abbrev lends : List Window → ℕ → ℕ → Truth
lends [] n i = false
lends (w ∷ ws) n i = elim (w.owner) [ None ↦ false | Some p ↦ same_place p (Var n i) ] || lends ws n i

abbrev entries_stand : ℕ → List Window → ℕ → List Entry → Truth
entries_stand n own i [] = true
entries_stand n own i (e ∷ es) =
    e.depth == covering n i own && same_truth (is_lent e.readiness) (lends own n i) && entries_stand n own (suc i) es

abbrev stands : Frame → ℕ → List Window → Spot → Truth
stands f n own spot =
    named spot.env.entries f.locals && entered n f.locals (reverse spot.enters) own
    && same_numbers (map (λ (w : Window). w.base_place) own) (leaves spot.items) && entries_stand n own 0 spot.env.entries

abbrev same_target : Target → Target → Truth
same_target (Declares x t) (Declares y u) = bytes_eq x y && same_type t u
same_target (Declares x t) (Assigns y) = false
same_target (Declares x t) Drops = false
same_target (Assigns x) (Declares y u) = false
same_target (Assigns x) (Assigns y) = same_variable x y
same_target (Assigns x) Drops = false
same_target Drops (Declares y u) = false
same_target Drops (Assigns y) = false
same_target Drops Drops = true

abbrev class_of : Ty → Option ℕ
class_of Int = None
class_of Bool = None
class_of (Ref cap c) = Some c

-- whether a statement calls a method for a target
abbrev calls : List Class → Env → StmtKind → Candidate → Target → Truth
calls classes env k callee target = elim (call_of classes k) [
  | None ↦ false
  | Some c ↦ same_target c.1 target && same_variable callee.name (Some c.0.method)
      && elim (option_and_then class_of (result_ok (walk classes env c.0.target.base c.0.target.fields)))
      [ None ↦ false | Some n ↦ n == callee.class ]
]

abbrev any_of : {A : Type 0} → (A → Truth) → List A → Truth
any_of p [] = false
any_of p (x ∷ xs) = p x || any_of p xs

-- a calling statement in front, and the items behind it
abbrev calling : List Item → Option (StmtKind × List Item)
calling [] = None
calling (Do (stmt line k) ∷ mine) = Some (k, mine)
calling (EndAt k ∷ mine) = None
calling (LeaveAt k ∷ mine) = None
calling (LeaveGiving line k w ∷ mine) = None
calling (Back ∷ mine) = None

abbrev beneath : List Class → List Candidate → List Frame → List Window → List Item → Candidate → Target → Truth
beneath classes all [] ws items c target = not (is_some c.name)
    && same_target target Drops && lowest_alone ws && length items == 0
beneath classes all (f ∷ fs) ws items callee target = any_of (λ (c : Candidate). any_of (λ (spot : Spot).
    elim (calling spot.items) [
      | None ↦ false
      | Some k ↦ calls classes spot.env k.0 callee target && elim (behind_items k.1 items) [
        | None ↦ false
        | Some rest ↦ stands f (length fs) (take (length spot.enters) ws) spot
            && beneath classes all fs (drop (length spot.enters) ws) rest c f.target
      ]
    ]) c.spots) all

abbrev runs : List Class → List Candidate → Frame → List Frame → List Window → List Item → Truth
runs classes all f fs ws items = any_of (λ (c : Candidate). any_of (λ (spot : Spot).
    not (length spot.items == 0) && elim (behind_items spot.items items) [
      | None ↦ false
      | Some rest ↦ stands f (length fs) (take (length spot.enters) ws) spot
          && beneath classes all fs (drop (length spot.enters) ws) rest c f.target
    ]) c.spots) all

abbrev ended : Frame → List Frame → List Window → List Item → Truth
ended f fs ws items = length f.locals == 0 && same_target f.target Drops && length fs == 0 && lowest_alone ws && length
    items == 0

abbrev frames_fit : List Class → List Candidate → List Frame → List Window → List Item → Truth
frames_fit classes all [] ws items = false
frames_fit classes all (f ∷ fs) ws items = runs classes all f fs ws items || ended f fs ws items

-- the number of a part that fails, in front of the others
abbrev part : ℕ → Truth → List ℕ → List ℕ
part n true rest = rest
part n false rest = n ∷ rest

-- the numbers of the parts that fail
abbrev pub failing : Tree → List Candidate → State → List ℕ
failing t all s =
    part 1 (frames_fit t.classes all s.frames s.windows s.items)
    (part 2 (values_fit s.store s.windows s.frames)
    (part 3 (list_all (object_fits t.classes s.store s.windows) s.store)
    (part 4 (all_owned (owners t.classes s) s.store s.windows && none_again (map (λ (w : Window). w.region) s.windows))
    (part 5 (is_forest (owners t.classes s) s.store (length s.managers))
    (part 6 (numbers_fit s) [])))))

-- what a step did, and what fails behind it
abbrev after : Stepped → (State → List (List ℕ)) → List (List ℕ)
after (Went u) go = go u
after (Trapped kind line) go = []

-- what fails in a state and in those behind it, of so many steps
abbrev failing_from : Tree → List Candidate → ℕ → State → List (List ℕ)
failing_from t all zero s = failing t all s ∷ []
failing_from t all (suc n) s = failing t all s ∷ after (step_of t.classes s) (failing_from t all n)

abbrev count_failing : List (List ℕ) → ℕ
count_failing [] = 0
count_failing (f ∷ fs) = if length f == 0 then count_failing fs else suc (count_failing fs)

-- how many of the states of a run are looked at, and in how many some part fails
abbrev pub looked_at : Tree → ℕ → State → ℕ × ℕ
looked_at t n s = let all = failing_from t (candidates t) n s in (length all, count_failing all)

-- whether a value is the same
abbrev same_values : List Val → List Val → Truth
same_values [] [] = true
same_values [] (w ∷ ws) = false
same_values (v ∷ vs) [] = false
same_values (v ∷ vs) (w ∷ ws) = same_value v w && same_values vs ws

-- whether a label is the active region, or the number of the topmost window
abbrev writable : State → Label → Truth
writable s l = same_label l (Region (active s.windows)) || same_label l (Temp (top_number s.windows))

-- whether each object of a store whose fields differ in a second one is of the active region or of the topmost window
abbrev written_within : State → List Seen → List Seen → Truth
written_within s [] us = true
written_within s (o ∷ os) [] = writable s o.label && written_within s os []
written_within s (o ∷ os) (u ∷ us) = (same_values o.fields u.fields || writable s o.label) && written_within s os us

-- whether what was written between two states might be written
abbrev pub writes_within : State → State → Truth
writes_within s u = written_within s s.store u.store

-- what fails in a state
abbrev pub fails : Tree → State → List ℕ
fails t s = failing t (candidates t) s
