-- The code of statements behind their mark, and the variables behind them (docs/language.md, "Instructions and lowering").
use Rattle.std.specs.Prelude.{◌≡◌, ℕ, ◌+◌, ◌≤◌, List, [], ◌∷◌, ◌++◌, length, take, Option}
use Rattle.rg_tree.specs.Tree.{Name, Path, Expr, Stmt, stmt, Block, Else, Class}
use Rattle.rg_tree.specs.Rows.Tables.{Tables}
use Rattle.rg_tree.specs.Rows.RowTrees.{classes_of}
use Rattle.rg_rules.specs.Names.{stmt_names}
use Rattle.rg_code.specs.declared.op.Op.{Op}
use Rattle.rg_code.specs.declared.op.Op.TheVariants as i
use Rattle.rg_code.specs.Lowering.{Scope, whole_code, enter_code, scope_inside, scope_behind, scope_at_end, leave_op, kind_code, else_code}
use Rattle.rg_code.specs.Lowering.{else_gap, block_code}
use Rattle.rg_lower.specs.declared.slots.Held.{Held}
use Rattle.rg_lower.specs.Inner.Slots.{scope_of, AreHeldIn}

-- a block, and its end
abbrev pub nested_code : List Class → Scope → (at : ℕ) → (line : ℕ) → Block → List Op
nested_code classes scope at line b = block_code classes scope at b ++ i.Mark line ∷ i.End (length scope) ∷ []

-- a test, and a jump over what is behind it
abbrev pub test_code : List Class → Scope → (at : ℕ) → Expr → (to : ℕ) → List Op
test_code classes scope at e to = whole_code classes scope at e ++ i.JumpFalse to ∷ []

-- `if e { .. }`
abbrev pub branch_code : List Class → Scope → (at : ℕ) → (line : ℕ) → Expr → Block → Else → List Op
branch_code classes scope at line e b other =
    let test = whole_code classes scope at e in
    let inside = at + length test + 1 in
    let block = block_code classes scope inside b in
    test ++ i.JumpFalse (inside + length block + else_gap other) ∷
    (block ++ i.Mark line ∷ i.End (length scope) ∷ else_code classes scope (inside + length block + 2) line other)

-- `while e { .. }`, whose mark stands at its head
abbrev pub loop_code : List Class → Scope → (head at : ℕ) → (line : ℕ) → Expr → Block → List Op
loop_code classes scope head at line e b =
    let test = whole_code classes scope at e in
    let inside = at + length test + 1 in
    let block = block_code classes scope inside b in
    test ++ i.JumpFalse (inside + length block + 3) ∷ (block ++ i.Mark line ∷ i.End (length scope) ∷ i.Jump head ∷ [])

-- `enter q as z { .. }` and `enter q as z { .. } giving w;`
abbrev pub window_code : List Class → Scope → (at : ℕ) → (line : ℕ) → Path → Name → Block → (giving : Option Name) → List Op
window_code classes scope at line p z b giving =
    let front = enter_code classes scope p.base p.fields in
    let inside = scope_inside classes scope p z in
    front ++ (block_code classes inside (at + length front) b
    ++ i.Mark line ∷ leave_op (scope_at_end classes inside b) (length scope) giving ∷ [])

-- a statement with its mark
abbrev pub stmt_code : List Class → Scope → (at : ℕ) → Stmt → List Op
stmt_code classes scope at (stmt line k) = kind_code classes scope at line k

-- the variables behind a statement
abbrev pub scope_after : List Class → Scope → Stmt → Scope
scope_after classes scope (stmt line k) = scope_behind classes scope k

-- variables at the end of a block: those in front of it are still there
pub record IsAtEnd (t : Tables) (old new : List Held) (b : Block) : Type 0 where
  pub scope : scope_of t new ≡ scope_at_end (classes_of t) (scope_of t old) b
  pub kept : take (length old) new ≡ old
  pub held : AreHeldIn t new

-- variables behind a statement: those in front of it are still there, and there are no more new ones than it has names
pub record IsBehind (t : Tables) (old new : List Held) (s : Stmt) : Type 0 where
  pub scope : scope_of t new ≡ scope_after (classes_of t) (scope_of t old) s
  pub kept : take (length old) new ≡ old
  pub held : AreHeldIn t new
  pub few : length new ≤ length old + stmt_names s
