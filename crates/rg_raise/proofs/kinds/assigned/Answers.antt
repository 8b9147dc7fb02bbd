use Rattle.std.proofs.Common.{[]}
use Rattle.rg_raise.proofs.Rows.{names-none}
use Rattle.rg_raise.proofs.KindParts.{assigned-made}
use Rattle.rg_raise.proofs.kinds.assigned.Goals as goal

pub returns-clause-told : goal.returns-clause-told
returns-clause-told c n r is =
    assigned-made c.args.body.in_method c.args.program.now r c.args.right is c.path_row.new.program n c.args.slot c.in-Ok.path
    (c.in-Ok.ensures.adds [] (names-none c.args.program.now))
