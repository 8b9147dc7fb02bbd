-- The statements of a block, one after another.
use Rattle.std.proofs.Common.{◌≡◌, sym, ap, ◌∙◌, ℕ, ◌+◌, ◌<◌, ◌≤◌, List, [], ◌∷◌, ◌++◌, length, min, take, drop, drop-cons, get_or, length-append}
use Rattle.std.proofs.Common.{arith}
use Rattle.std.proofs.lemmas.List.{length-take, take-take, take-append-le}
use Rattle.std.proofs.Math.Seq.{take-length}
use Rattle.rg_base.specs.declared.limits.TheConstants.{BODY_NAMES}
use Rattle.rg_tree.specs.Tree.{Stmt}
use Rattle.rg_tree.specs.Rows.Tables.{Tables}
use Rattle.rg_tree.specs.Rows.RowTrees.{classes_of, stmt_at, block_over}
use Rattle.rg_rules.specs.Names.{block_names, stmt_names}
use Rattle.rg_code.specs.Code.{Code}
use Rattle.rg_code.specs.Lowering.{scope_at_end, block_code}
use Rattle.rg_lower.specs.declared.slots.Held.{Held}
use Rattle.rg_lower.specs.Inner.Slots.{scope_of, AreHeldIn}
use Rattle.rg_lower.specs.Inner.Emitted.{with_ops}
use Rattle.rg_lower.specs.Inner.Statements.{scope_after, IsBehind}

-- the code of the statements in front of these is there, and so are their variables; there is room for those of the others
pub record BlockUpTo (t : Tables) (front : List Held) (old : Code) (these : List ℕ) (held : List Held) (code : Code) (rest : List ℕ) : Type 0 where
  pub code_is : with_ops code (block_code (classes_of t) (scope_of t held) (length code.ops) (block_over (stmt_at t) rest))
      ≡ with_ops old (block_code (classes_of t) (scope_of t front) (length old.ops) (block_over (stmt_at t) these))
  pub scope_is : scope_at_end (classes_of t) (scope_of t held) (block_over (stmt_at t) rest)
      ≡ scope_at_end (classes_of t) (scope_of t front) (block_over (stmt_at t) these)
  pub kept : take (length front) held ≡ front
  pub held_in : AreHeldIn t held
  pub room : length held + block_names (block_over (stmt_at t) rest) ≤ BODY_NAMES

-- a statement that adds no variable
pub behind-same : (t : Tables) (held : List Held) (s : Stmt) → scope_after (classes_of t) (scope_of t held) s ≡ scope_of t held →
    AreHeldIn t held → IsBehind t held held s
behind-same t held s e h = record { scope = sym e; kept = take-length held; held = h; few = omega arith }

-- there is room for the names of the next statement
pub block-room : (t : Tables) (front : List Held) (old : Code) (these : List ℕ) (held : List Held) (code : Code) (i : ℕ) → i < length these →
    BlockUpTo t front old these held code (drop i these) → length held + stmt_names (stmt_at t (get_or these i 0)) ≤ BODY_NAMES
block-room t front old these held code i l u = let r = rw (drop-cons these i 0 l) at u.room in omega arith

-- behind a block with one more variable in front of it: there are as many variables as in front of that one, and they are the same
pub kept-count : (front held : List Held) → take (length front) held ≡ front → length front ≤ length held
kept-count front held k =
    let e : min (length front) (length held) ≡ length front = sym (length-take (length front) held) ∙ ap length k in omega (arith, e)

pub kept-outside : (front held : List Held) (x : Held) → take (length (front ++ x ∷ [])) held ≡ front ++ x ∷ [] → take (length front) held ≡ front
kept-outside front held x k =
    sym (take-take (length front) (length (front ++ x ∷ [])) held (omega (arith, length-append front (x ∷ []))))
    ∙ ap (take (length front)) k ∙ take-append-le (length front) front (x ∷ []) (omega arith) ∙ take-length front
