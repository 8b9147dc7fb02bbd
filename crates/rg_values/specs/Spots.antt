-- What a path with or without fields names: a variable, or a field of an object. And where the value of a right side goes
-- (docs/language.md, "Steps").
use Rattle.std.specs.Prelude.{◌≡◌, ℕ, ◌<◌, List, [], ◌∷◌, length, Some, option_map, IfSome, Result, Ok, Err}
use Rattle.rg_base.specs.declared.object.Seen.{Seen}
use Rattle.rg_base.specs.declared.value.Val.{Val}
use Rattle.rg_base.specs.declared.value.Val.TheVariants.{Obj}
use Rattle.rg_base.specs.declared.outcome.Trap.{Trap}
use Rattle.rg_tree.specs.Tree.{Name, Path, Expr, Right, StmtKind, declare, assign, assign_element, Class}
use Rattle.rg_tree.specs.Rows.Tables.{Tables, name_at}
use Rattle.rg_tree.specs.Rows.RowTrees.{classes_of, type_of as written, path_of, expr_at}
use Rattle.rg_tree.specs.Rows.RowsExist.{IsNameIn, IsTypeIn, IsPathIn, IsExprNumber}
use Rattle.rg_rules.specs.Answers.{◌>>=◌}
use Rattle.rg_rules.specs.Paths.{all_but_last, last_field}
use Rattle.rg_rules.specs.Items.{Item}
use Rattle.rg_rules.specs.State.{Local, Target, Declares, Assigns, Drops, value_in, add_local, put_local}
use Rattle.rg_rules.specs.Evaluation.{object_at, element_place, follow_fields, path_value, value_of}
use Rattle.rg_rules.specs.RightSides.{Use, with_right}
use Rattle.rg_rules.specs.Steps.{put_field, put_element, step_kind}
use Rattle.rg_values.specs.declared.values.elements.Indexed.{Indexed}
use Rattle.rg_values.specs.declared.values.paths.Spot.{Spot}
use Rattle.rg_values.specs.declared.values.paths.Spot.TheVariants as spot
use Rattle.rg_values.specs.declared.targets.Left.{Left}
use Rattle.rg_values.specs.declared.targets.Left.TheVariants as left
use Rattle.rg_values.specs.declared.targets.Aim.{Aim}
use Rattle.rg_values.specs.declared.targets.Aim.TheVariants as aim
use Rattle.rg_values.specs.Kept.{Kept, plain_of}

-- the object behind fields: they are followed, and what they lead to is tested
abbrev pub receiver_of : List Class → List Seen → Val → List Name → Result Seen Trap
receiver_of classes store v xs = do
  at ← follow_fields classes store v xs
  object_at store at

-- the place of the object behind fields
abbrev pub ReceiverIs : List Class → List Seen → Val → List Name → Result ℕ Trap → Type 0
ReceiverIs classes store v xs (Ok a) = (follow_fields classes store v xs ≡ Ok (Obj a)) × (a < length store)
ReceiverIs classes store v xs (Err kind) = receiver_of classes store v xs ≡ Err kind

-- a path names the field of a name's number in the object at a place
pub record IsField (t : Tables) (store : List Seen) (locals : List Local) (p : Path) (a name : ℕ) : Type 0 where
  pub first : Name
  pub others : List Name
  pub fields_are : p.fields ≡ first ∷ others
  pub followed : follow_fields (classes_of t) store (value_in locals p.base) (all_but_last first others) ≡ Ok (Obj a)
  pub there : a < length store
  pub last : last_field first others ≡ name_at t name
  pub known : IsNameIn t name

-- a path with fields leads to no object
pub record IsCut (t : Tables) (store : List Seen) (locals : List Local) (p : Path) (kind : Trap) : Type 0 where
  pub first : Name
  pub others : List Name
  pub fields_are : p.fields ≡ first ∷ others
  pub cut : receiver_of (classes_of t) store (value_in locals p.base) (all_but_last first others) ≡ Err kind

-- what a path names
abbrev pub SpotIs : Tables → List Seen → List Local → Path → Result Spot Trap → Type 0
SpotIs t store locals p (Ok (spot.Variable x)) = (p.fields ≡ []) × (option_map (name_at t) x ≡ p.base) × IfSome x (IsNameIn t)
SpotIs t store locals p (Ok (spot.Field a name)) = IsField t store locals p a name
SpotIs t store locals p (Err kind) = IsCut t store locals p kind

-- an array and the place of an element: the array is followed and tested, then the index is computed and tested
abbrev pub element_at : List Class → List Seen → List Local → Path → (index : Expr) → Result (Val × ℕ) Trap
element_at classes store locals q e = do
  at ← path_value classes store locals q
  o ← object_at store at
  i ← value_of classes store locals e
  k ← element_place o i
  Ok (at, k)

-- their places
abbrev pub ElementIs : List Class → List Seen → List Local → Path → (index : Expr) → Result Indexed Trap → Type 0
ElementIs classes store locals q e (Ok w) = (element_at classes store locals q e ≡ Ok (Obj w.place, w.element)) × (w.place < length store)
ElementIs classes store locals q e (Err kind) = element_at classes store locals q e ≡ Err kind

-- the statement with this left of `=`, and a right side
abbrev pub statement_of : Tables → Left → Right → StmtKind
statement_of t (left.Let x ty) r = declare (name_at t x) (written t ty) r
statement_of t (left.Set p) r = assign (path_of t p) r
statement_of t (left.SetAt p e) r = assign_element (path_of t p) (expr_at t e) r

-- its numbers are the program's
abbrev pub LeftFits : Tables → Left → Type 0
LeftFits t (left.Let x ty) = IsNameIn t x × IsTypeIn t ty
LeftFits t (left.Set p) = IsPathIn t p
LeftFits t (left.SetAt p e) = IsPathIn t p × IsExprNumber t e

-- what is done with the value
abbrev pub use_of : Tables → Aim → Use
use_of t (aim.Declares x ty) = add_local (Some (name_at t x)) ty
use_of t (aim.Assigns x) = put_local (option_map (name_at t) x)
use_of t (aim.Field a x) = put_field (classes_of t) (Obj a) (name_at t x)
use_of t (aim.Element a k) = put_element (Obj a) k

-- where the value of a call goes later
abbrev pub sent_to : Tables → Aim → Target
sent_to t (aim.Declares x ty) = Declares (name_at t x) ty
sent_to t (aim.Assigns x) = Assigns (option_map (name_at t) x)
sent_to t (aim.Field a x) = Drops
sent_to t (aim.Element a k) = Drops

-- the names are the program's, and the object is there
abbrev pub AimFits : Tables → (objects : ℕ) → Aim → Type 0
AimFits t objects (aim.Declares x ty) = IsNameIn t x
AimFits t objects (aim.Assigns x) = IfSome x (IsNameIn t)
AimFits t objects (aim.Field a x) = (a < objects) × IsNameIn t x
AimFits t objects (aim.Element a k) = a < objects

-- a statement without its right side: where the value goes, or the trap, whatever the right side is
abbrev pub AimIs : Tables → Kept → Left → Result Aim Trap → Type 0
AimIs t k l (Ok a) = AimFits t (length k.store) a × ((input : List ℕ) (rest : List Item) (line : ℕ) (r : Right) →
    step_kind (classes_of t) (record (plain_of t k input) { items = rest }) line (statement_of t l r)
    ≡ with_right (classes_of t) (record (plain_of t k input) { items = rest }) (sent_to t a) (use_of t a) r)
AimIs t k l (Err kind) = (input : List ℕ) (rest : List Item) (line : ℕ) (r : Right) →
    step_kind (classes_of t) (record (plain_of t k input) { items = rest }) line (statement_of t l r) ≡ Err kind
