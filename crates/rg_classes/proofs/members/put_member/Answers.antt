use Rattle.rg_tree.proofs.Adding.{extends-by}
use Rattle.rg_classes.proofs.Adding.{member-put}
use Rattle.rg_classes.proofs.members.put_member.Goals as goal

pub returns-clause-adds : goal.returns-clause-adds
returns-clause-adds c =
    let e = c.in_ok-number.ensures in
    member-put _ e.keeps e.program _ e.number e.tree e.row

pub returns-clause-grows : goal.returns-clause-grows
returns-clause-grows c =
    let e = c.in_ok-number.ensures in
    extends-by e.keeps e.program
