-- The step of a statement.
use Rattle.std.proofs.Common.{◌≡◌, ℕ, List, ◌∷◌, ◌∙◌, ap}
use Rattle.rg_tree.specs.Tree.{StmtKind, stmt, Class}
use Rattle.rg_tree.specs.Rows.Tables.{Tables}
use Rattle.rg_tree.specs.Rows.RowTrees.{stmt_at}
use Rattle.rg_rules.specs.Items.{Item, Do}
use Rattle.rg_rules.specs.Steps.{next, step_first, stepped, step_kind}
use Rattle.rg_values.specs.Kept.{Kept, plain_of, shown}

-- the step of the statement that comes next
pub next-at : (t : Tables) (cs : List Class) (k : Kept) (input : List ℕ) (number line : ℕ) (kind : StmtKind) (rest : List Item) →
    shown t k.items ≡ Do (stmt_at t number) ∷ rest → stmt_at t number ≡ stmt line kind →
    next cs (plain_of t k input) ≡ stepped line (step_kind cs (record (plain_of t k input) { items = rest }) line kind)
next-at t cs k input number line kind rest shown_is tree =
    ap (step_first cs (plain_of t k input)) (shown_is ∙ ap (λ q. Do q ∷ rest) tree)
