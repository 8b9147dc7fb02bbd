use Rattle.rg_make.proofs.Numbers.{member-put}
use Rattle.rg_make.proofs.builder.put_member.Goals as goal

pub returns : goal.returns
returns c =
    let e = c.in_ok-number.ensures in
    member-put _ e.keeps e.program _ e.number e.tree e.row
