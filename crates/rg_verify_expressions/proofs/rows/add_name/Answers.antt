use Rattle.rg_tree.proofs.Adding.{name-put}
use Rattle.std.proofs.Common.{◌∙◌}
use Rattle.rg_verify_expressions.proofs.rows.add_name.Goals as goal

pub returns-clause-adds : goal.returns-clause-adds
returns-clause-adds c =
    let e = c.in_ok-number.ensures in
    name-put _ e.keeps e.program _ (e.name ∙ c.bytes.ensures ∙ c.in_ok-text.ensures) e.there
