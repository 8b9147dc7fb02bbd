use Rattle.std.proofs.Common.{sym, ap, ◌∙◌}
use Rattle.rg_tree.specs.Rows.RowTrees.{stmt_at}
use Rattle.rg_rules.specs.Bodies.{is_return}
use Rattle.rg_check.proofs.BlockSteps.{kind_of, ends_in_return-last}
use Rattle.rg_check.proofs.statements.ends_in_return.Goals as goal

pub returns-in-len1-up : goal.returns-in-len1-up
returns-in-len1-up c =
    let t = c.args.program.now in
    c.is_return.ensures t (stmt_at t) ∙ ap (λ s. is_return (kind_of s)) (sym c.stmt.ensures.tree)
    ∙ sym (ends_in_return-last (stmt_at t) c.args.these.now c.in-len1-up.len_at_least)
