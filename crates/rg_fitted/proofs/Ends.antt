-- How the bodies of a program end.
use Rattle.std.proofs.Common.{◌≡◌, refl, sym, ap, ◌∙◌, ℕ, suc, ◌+◌, Bool as Truth, true, false, if◌then◌else◌, List, ◌∷◌, drop, Option}
use Rattle.std.proofs.Common.{Some, arith}
use Rattle.std.proofs.lemmas.Bool.{false≢true}
use Rattle.std.proofs.lemmas.List.{drop-drop}
use Rattle.rg_tree.specs.Tree.{stmt, StmtKind, declare, assign, assign_element, call, swap, branch, while, enter}
use Rattle.rg_tree.specs.Tree.{print, collect, return, Block, empty}
use Rattle.rg_tree.specs.Tree.{then as next, Class}
use Rattle.rg_rules.specs.Bodies.{is_return, last_is_return}
use Rattle.rg_code.specs.declared.op.Op.{Op}
use Rattle.rg_code.specs.declared.op.Op.TheVariants as i
use Rattle.rg_code.specs.Lowering.{Scope, scope_behind}
use Rattle.rg_verify_expressions.specs.Signs.{mark_of, closing_of}
use Rattle.rg_verify_expressions.specs.Blocks.{◌>>=◌, is_last}
use Rattle.rg_verify_expressions.specs.Standing.{returns, Closes}
use Rattle.rg_numbered.specs.Numbered.{numbered_kind, numbered_block}
use Rattle.rg_fitted.proofs.Laid.{drop-is}

-- A `return` at the end

kind-last : (cs : List Class) (ss : Scope) (k : StmtKind) → is_return k ≡ true → is_last (numbered_kind cs ss k) ≡ true
kind-last cs ss (declare x t r) h = absurd (false≢true h)
kind-last cs ss (assign p r) h = absurd (false≢true h)
kind-last cs ss (assign_element q e r) h = absurd (false≢true h)
kind-last cs ss (call c) h = absurd (false≢true h)
kind-last cs ss (swap y p) h = absurd (false≢true h)
kind-last cs ss (branch e b other) h = absurd (false≢true h)
kind-last cs ss (while e b) h = absurd (false≢true h)
kind-last cs ss (enter p z b giving) h = absurd (false≢true h)
kind-last cs ss (print e) h = absurd (false≢true h)
kind-last cs ss collect h = absurd (false≢true h)
kind-last cs ss (return e) h = refl

either : (t r : Truth) → r ≡ true → (if t then true else r) ≡ true
either true r h = refl
either false r h = h

pub ends-returns : (cs : List Class) (ss : Scope) (line : ℕ) (k : StmtKind) (b : Block) → last_is_return k b ≡ true →
    returns (numbered_block cs ss (next (stmt line k) b)) ≡ true
ends-returns cs ss line k empty h = ap (λ (t : Truth). if t then true else false) (kind-last cs ss k h)
ends-returns cs ss line k (next (stmt l o) b) h =
    either (is_last (numbered_kind cs ss k)) (returns (numbered_block cs (scope_behind cs ss k) (next (stmt l o) b)))
    (ends-returns cs (scope_behind cs ss k) l o b h)

-- A mark at the end

pub closes-by-return : (ops : List Op) (end : ℕ) (r : Truth) → r ≡ true → Closes ops end r
closes-by-return ops end true h = tt
closes-by-return ops end false h = absurd (false≢true h)

pub closes-by-mark : (ops : List Op) (end line : ℕ) (o : Op) (rest : List Op) (r : Truth) → drop end ops ≡ i.Mark line ∷ o ∷ rest →
    closing_of o ≡ Some tt → Closes ops end r
closes-by-mark ops end line o rest true h e = tt
closes-by-mark ops end line o rest false h e =
    let first = drop-is ops end (i.Mark line) (o ∷ rest) h in
    let one : end + 1 ≡ suc end = omega arith in
    let behind : drop (suc end) ops ≡ o ∷ rest = ap (λ (n : ℕ). drop n ops) (sym one) ∙ sym (drop-drop 1 end ops) ∙ ap (drop 1) h in
    let second = drop-is ops (suc end) o rest behind in
    ((line, ap (λ (q : Option Op). ◌>>=◌ q mark_of) first), ap (λ (q : Option Op). ◌>>=◌ q closing_of) second ∙ e)
