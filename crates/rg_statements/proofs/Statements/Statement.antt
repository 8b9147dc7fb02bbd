-- The step of the statement that comes next.
use Rattle.std.proofs.Common.{◌≡◌, ℕ, List, ◌∷◌, Result, sym, ◌∙◌, ap, subst}
use Rattle.rg_values.specs.declared.refusal.Refusal.{Refusal}
use Rattle.rg_tree.specs.Tree.{stmt, StmtKind}
use Rattle.rg_tree.specs.Rows.Tables.{Tables}
use Rattle.rg_tree.specs.Rows.RowTrees.{classes_of, stmt_at}
use Rattle.rg_rules.specs.Items.{Item, Do}
use Rattle.rg_rules.specs.Steps.{stepped, step_first, step_kind, next}
use Rattle.rg_values.specs.Kept.{Kept, plain_of, shown}
use Rattle.rg_values.specs.Steps.{Does}

-- the next step is that of the first statement
pub statement-is : (t : Tables) (old new : Kept) (input : List ℕ) (rest : List Item) (number line : ℕ) (k : StmtKind) (r : Result (Unit {0}) Refusal)
    →
    shown t old.items ≡ Do (stmt_at t number) ∷ rest → stmt_at t number ≡ stmt line k →
    Does (stepped line (step_kind (classes_of t) (record (plain_of t old input) { items = rest }) line k)) (plain_of t old input)
    (plain_of t new input) line r →
    Does (next (classes_of t) (plain_of t old input)) (plain_of t old input) (plain_of t new input) line r
statement-is t old new input rest number line k r top kind done =
    let is : shown t old.items ≡ Do (stmt line k) ∷ rest = top ∙ ap (λ s. Do s ∷ rest) kind in
    let Is : List Item → Type 0 = λ items.
    Does (step_first (classes_of t) (plain_of t old input) items) (plain_of t old input) (plain_of t new input) line r in
    subst Is (sym is) done
