-- What calls make of what is told at an address.
use Rattle.std.specs.Prelude.{◌≡◌, ℕ, Bool as Truth, List, length, Option, Some, None, Result, Ok, Err}
use Rattle.rg_tree.specs.declared.rows.Path as rows
use Rattle.rg_tree.specs.declared.rows.StmtKind as row_kind
use Rattle.rg_tree.specs.Tree as tree
use Rattle.rg_tree.specs.Rows.Tables.{Tables, name_at}
use Rattle.rg_tree.specs.Rows.RowTrees.{call_of, right_of, kind_over, stmt_at}
use Rattle.rg_tree.specs.Rows.RowsExist.{IsNameIn, IsCallIn, IsRightIn, IsKindIn}
use Rattle.rg_tree.specs.Adds.{Extends, Means, Adds}
use Rattle.rg_code.specs.declared.op.Op.{Op}
use Rattle.rg_verify_expressions.specs.declared.refusal.Refusal.{Refusal}
use Rattle.rg_verify_expressions.specs.declared.refusal.Refusal.TheVariants as refusal
use Rattle.rg_verify_expressions.specs.declared.signs.Walk.{Walk}
use Rattle.rg_verify_expressions.specs.declared.signs.Walk.TheVariants as walk
use Rattle.rg_verify_expressions.specs.Raised.{Raised, path_named}
use Rattle.rg_verify_expressions.specs.Rows.{IsPath}
use Rattle.rg_verify_expressions.specs.Statements as statements
use Rattle.rg_verify_expressions.specs.Statements.{Call, Right, Kind, declare, assign, write, write_element, call, swap, branch, while}
use Rattle.rg_verify_expressions.specs.Statements.{enter, enter_field, print, collect, return}
use Rattle.rg_verify_expressions.specs.Found.{call_named, right_named, kind_named}
use Rattle.rg_verify_expressions.specs.Signs.{behind_of}
use Rattle.rg_verify_expressions.specs.Blocks.{◌>>=◌, test, Given, Told, sign, is_room, paces}
use Rattle.rg_raise.specs.declared.source.Source.{Source}
use Rattle.rg_raise.specs.declared.said.CallSaid.{CallSaid}
use Rattle.rg_raise.specs.declared.said.RightSaid.{RightSaid}
use Rattle.rg_raise.specs.declared.said.KindSaid.{KindSaid}
use Rattle.rg_raise.specs.declared.said.After.{After}
use Rattle.rg_raise.specs.declared.said.After.TheVariants as after

-- what blocks are raised from
abbrev pub given : Source → Given
given s = record { ops = s.parts.now.code.ops; maps = s.parts.now.maps; methods = s.methods.now }

-- `room` stands there: the expressions in front of it are arguments
abbrev pub roomed : (ops : List Op) → (at : ℕ) → Option (Unit {0})
roomed ops at = do
  b ← sign behind_of ops at
  test (is_room b)

-- a new array, by what stands behind the number of its elements
abbrev pub array_of : Walk → Raised → Option Right
array_of (walk.New c) e = Some (statements.new c (Some e))
array_of (walk.NewTmp c) e = Some (statements.new_tmp c (Some e))
array_of (walk.NewIso c manager) e = Some (statements.new_iso c (Some e) manager)
array_of (walk.Enter k z) e = None

-- a path, with its names
abbrev pub IsPathTo : Tables → (in_method : Truth) → rows.Path → (slot : ℕ) → (fields : List ℕ) → Type 0
IsPathTo t m p s ks = IsPath t p (path_named m s ks)

-- what a statement says
abbrev pub kind_of : Tables → row_kind.StmtKind → tree.StmtKind
kind_of t k = kind_over t (stmt_at t) k

abbrev pub IsKindRow : Tables → row_kind.StmtKind → Type 0
IsKindRow t k = IsKindIn t (length t.stmts) k

-- what is told at an address, as rows, and the address behind it; or that nothing is told
abbrev pub MakesAs : {V A : Type 0} → (Is : Tables → V → A → Type 0) → (old new : Tables) → Told A → Result (V × ℕ) Refusal → Type 0
MakesAs Is old new (Some x) (Ok y) = (y.1 ≡ x.1) × Extends old new × Is new y.0 x.0
MakesAs Is old new None (Ok y) = ⊥
MakesAs Is old new wanted (Err refusal.NotRaised) = wanted ≡ None
MakesAs Is old new wanted (Err refusal.Memory) = Unit {0}

-- so where its end is known
abbrev pub MakesOne : {V A : Type 0} → (Is : Tables → V → A → Type 0) → (old new : Tables) → Option A → Result V Refusal → Type 0
MakesOne Is old new (Some a) (Ok v) = Extends old new × Is new v a
MakesOne Is old new None (Ok v) = ⊥
MakesOne Is old new wanted (Err refusal.NotRaised) = wanted ≡ None
MakesOne Is old new wanted (Err refusal.Memory) = Unit {0}

-- a name was added, or no memory was found
abbrev pub AddsName : (old new : Tables) → tree.Name → Result ℕ Refusal → Type 0
AddsName old new x (Ok n) = Adds name_at IsNameIn old new n x
AddsName old new x (Err refusal.NotRaised) = ⊥
AddsName old new x (Err refusal.Memory) = Unit {0}

-- a call, with the type of its result
abbrev pub IsCallSaid : (in_method : Truth) → Tables → CallSaid → Call → Type 0
IsCallSaid m t v c = Means call_of IsCallIn t v.row (call_named m c) × (v.result ≡ c.callee.result)

-- a right side, and whether a pacer is asked
abbrev pub IsRightSaid : (in_method : Truth) → Tables → RightSaid → Right → Type 0
IsRightSaid m t v r = Means right_of IsRightIn t v.row (right_named m r) × (v.paces ≡ paces r)

-- what a statement changes for those behind it
abbrev pub after_of : Kind → After
after_of (declare t r) = after.More t
after_of (assign s r) = after.Same
after_of (write s ks k r) = after.Same
after_of (write_element s ks e r) = after.Same
after_of (call c) = after.Same
after_of (swap y s ks k) = after.Same
after_of (branch e b other) = after.Same
after_of (while e b) = after.Same
after_of (enter s c b w) = after.Same
after_of (enter_field s ks k c b w) = after.Same
after_of (print e) = after.Same
after_of collect = after.Same
after_of (return e) = after.Last

-- a statement behind so many variables
abbrev pub IsKindSaid : (in_method : Truth) → (slots : ℕ) → Tables → KindSaid → Kind → Type 0
IsKindSaid m n t v k = Means kind_of IsKindRow t v.row (kind_named m n k) × (v.after ≡ after_of k)
