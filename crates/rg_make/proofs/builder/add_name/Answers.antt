use Rattle.rg_tree.proofs.Adding.{name-put}
use Rattle.std.proofs.Common.{◌∙◌}
use Rattle.rg_make.proofs.builder.add_name.Goals as goal

pub returns : goal.returns
returns c =
    let e = c.in_ok-number.ensures in
    name-put _ e.keeps e.program _ (e.name ∙ c.text.ensures) e.there
