-- A body that ends in a `return` does so as a block with numbers.
use Rattle.std.proofs.Common.{◌≡◌, refl, ap, ℕ, Bool as Truth, true, false, if◌then◌else◌, List}
use Rattle.std.proofs.lemmas.Bool.{false≢true}
use Rattle.rg_tree.specs.Tree.{stmt, StmtKind, declare, assign, assign_element, call, swap, branch, while, enter, print, collect, return, Block}
use Rattle.rg_tree.specs.Tree.{empty, then as next, Class}
use Rattle.rg_rules.specs.Bodies.{is_return, last_is_return, ends_in_return}
use Rattle.rg_code.specs.Lowering.{Scope, scope_behind}
use Rattle.rg_verify_expressions.specs.Blocks.{is_last}
use Rattle.rg_verify_expressions.specs.Standing.{returns}
use Rattle.rg_numbered.specs.Numbered.{numbered_kind, numbered_block}

kind-last : (cs : List Class) (ss : Scope) (k : StmtKind) → is_return k ≡ true → is_last (numbered_kind cs ss k) ≡ true
kind-last cs ss (declare x t r) h = absurd (false≢true h)
kind-last cs ss (assign p r) h = absurd (false≢true h)
kind-last cs ss (assign_element q e r) h = absurd (false≢true h)
kind-last cs ss (call c) h = absurd (false≢true h)
kind-last cs ss (swap y p) h = absurd (false≢true h)
kind-last cs ss (branch e b other) h = absurd (false≢true h)
kind-last cs ss (while e b) h = absurd (false≢true h)
kind-last cs ss (enter p z b giving) h = absurd (false≢true h)
kind-last cs ss (print e) h = absurd (false≢true h)
kind-last cs ss collect h = absurd (false≢true h)
kind-last cs ss (return e) h = refl

either : (t r : Truth) → r ≡ true → (if t then true else r) ≡ true
either true r h = refl
either false r h = h

last-returns : (cs : List Class) (ss : Scope) (line : ℕ) (k : StmtKind) (b : Block) → last_is_return k b ≡ true →
    returns (numbered_block cs ss (next (stmt line k) b)) ≡ true
last-returns cs ss line k empty h = ap (λ (t : Truth). if t then true else false) (kind-last cs ss k h)
last-returns cs ss line k (next (stmt other o) b) h =
    let behind = scope_behind cs ss k in
    either (is_last (numbered_kind cs ss k)) (returns (numbered_block cs behind (next (stmt other o) b))) (last-returns cs behind other o b h)

pub block-returns : (cs : List Class) (ss : Scope) (b : Block) → ends_in_return b ≡ true → returns (numbered_block cs ss b) ≡ true
block-returns cs ss empty h = absurd (false≢true h)
block-returns cs ss (next (stmt line k) b) h = last-returns cs ss line k b h
