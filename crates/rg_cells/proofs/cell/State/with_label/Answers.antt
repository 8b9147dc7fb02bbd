use Rattle.std.proofs.Common.{◌∙◌, ℕ, ap}
use Rattle.rg_base.specs.declared.object.Label.{Label}
use Rattle.rg_cells.specs.Inner.Layout.{number_in_label}
use Rattle.rg_cells.proofs.cell.State.with_label.Goals as goal

pub returns-then-is_linked-clause-label : goal.returns-then-is_linked-clause-label
returns-then-is_linked-clause-label c =
    ap (λ (f : ℕ → Label). f (number_in_label c.args.label)) c.linked.ensures.label ∙ c.state_of-state.ensures.label
