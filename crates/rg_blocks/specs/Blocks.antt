-- What calls make of blocks that are told at an address.
use Rattle.std.specs.Prelude.{◌≡◌, ℕ, ◌+◌, Bool as Truth, List, [], ◌∷◌, All, map, Option, Some, None, option_map, Vec}
use Rattle.std.specs.declared.alloc.Global.{Global}
use Rattle.rg_base.specs.declared.ty.Ty.{Ty}
use Rattle.rg_tree.specs.declared.rows.Path as rows
use Rattle.rg_tree.specs.declared.rows.Span.{Span}
use Rattle.rg_tree.specs.Tree as tree
use Rattle.rg_tree.specs.Rows.Tables.{Tables}
use Rattle.rg_tree.specs.Rows.RowTrees.{stmt_at, block_of}
use Rattle.rg_tree.specs.Rows.RowsExist.{IsStmtNumber, IsBlockIn}
use Rattle.rg_tree.specs.Adds.{Extends, Means, Adds}
use Rattle.rg_verify_expressions.specs.Naming.{variable_name}
use Rattle.rg_verify_expressions.specs.declared.signs.Walk.{Walk}
use Rattle.rg_verify_expressions.specs.Raised.{Raised}
use Rattle.rg_verify_expressions.specs.Statements.{Block, Kind}
use Rattle.rg_verify_expressions.specs.Found.{block_named}
use Rattle.rg_verify_expressions.specs.Blocks.{◌>>=◌, Given, Told, taken}
use Rattle.rg_raise.specs.declared.said.KindSaid.{KindSaid}
use Rattle.rg_raise.specs.declared.said.After.TheVariants as after
use Rattle.rg_raise.specs.Telling.{array_of, IsPathTo, kind_of, IsKindRow}
use Rattle.rg_blocks.specs.declared.said.WindowSaid.{WindowSaid}

-- a new array of so many elements goes into a slot
abbrev pub array_told : Given → (types : List Ty) → Raised → (at : ℕ) → Walk → Told Kind
array_told g types e at w = do
  r ← array_of w e
  taken g types r (at + 1)

-- the path that an expression is, or that it is none
abbrev pub FindsPath : Tables → (in_method : Truth) → (wanted : Option (ℕ × List ℕ)) → Option rows.Path → Type 0
FindsPath t m (Some q) (Some p) = IsPathTo t m p q.0 q.1
FindsPath t m None (Some p) = ⊥
FindsPath t m wanted None = wanted ≡ None

-- statements by their numbers, in order
abbrev pub AreStmts : Tables → List ℕ → List tree.Stmt → Type 0
AreStmts t ns ss = Means (λ u. map (stmt_at u)) (λ u. All (IsStmtNumber u)) t ns ss

-- statements one behind another
abbrev pub block_with : List tree.Stmt → tree.Block
block_with [] = tree.empty
block_with (s ∷ ss) = tree.then s (block_with ss)

-- statements by their numbers, which a block has behind so many variables
abbrev pub AreSaid : (in_method : Truth) → (slots : ℕ) → Tables → Vec ℕ Global → Block → Type 0
AreSaid m n t ns b = (ss : List tree.Stmt) × AreStmts t ns.items ss × (block_named m n b ≡ block_with ss)

-- whatever statements these numbers stand for, the span is their block
abbrev pub AddsBlock : (old new : Tables) → List ℕ → Span → Type 0
AddsBlock old new ns s = (ss : List tree.Stmt) → AreStmts old ns ss → Adds block_of IsBlockIn old new s (block_with ss)

-- a block behind so many variables
abbrev pub IsBlockSaid : (in_method : Truth) → (slots : ℕ) → Tables → Span → Block → Type 0
IsBlockSaid m n t v b = Means block_of IsBlockIn t v (block_named m n b)

-- the block of a window, whose bridge is one more variable, and the slot that gives the bridge
abbrev pub IsWindowSaid : (in_method : Truth) → (slots : ℕ) → Tables → WindowSaid → (ℕ × Block × Option ℕ) → Type 0
IsWindowSaid m n t v w = IsBlockSaid m (n + 1) t v.block w.1 × (v.given ≡ w.2)

-- a window, with its names
abbrev pub window_named : (in_method : Truth) → (slots : ℕ) → tree.Path → (ℕ × Block × Option ℕ) → tree.StmtKind
window_named m n q w = tree.enter q (variable_name n) (block_named m (n + 1) w.1) (option_map variable_name w.2)

-- a window was added
abbrev pub Enters : (in_method : Truth) → (slots : ℕ) → (old new : Tables) → tree.Path → (ℕ × Block × Option ℕ) → KindSaid → Type 0
Enters m n old new q w x = Extends old new × Means kind_of IsKindRow new x.row (window_named m n q w) × (x.after ≡ after.Same)
