use Rattle.std.proofs.lemmas.Result.{err_from_is_err_and}
use Rattle.rg_tree.proofs.Adding.{extends-trans}
use Rattle.rg_raise.specs.Telling.{given}
use Rattle.rg_blocks.proofs.Exprs.{open-refused, open-taken}
use Rattle.rg_blocks.proofs.blocks.made_taken.Goals as goal

pub returns-in_err-right-clause-told : goal.returns-in_err-right-clause-told
returns-in_err-right-clause-told c inner line =
    let p = err_from_is_err_and c.from_residual.result c.from_residual.ensures.1 in
    let types = c.args.types.now.items in
    rw (p.1, p.2) (open-refused c.args.source.now.body.in_method (given c.args.source.now) inner types line c.args.at c.args.program.now
    c.made_behind.new.program c.in_err-right.field-0.0 (c.in_err-right.ensures.told types))

pub returns-clause-told : goal.returns-clause-told
returns-clause-told c inner line =
    let types = c.args.types.now.items in
    open-taken c.args.source.now.body.in_method (given c.args.source.now) inner types line c.args.at c.args.program.now c.made_behind.new.program
    c.taken.new.program c.in_ok-right.right c.in_ok-right.behind c.taken.result (c.in_ok-right.ensures.told types) c.taken.ensures.told

pub returns-clause-grows : goal.returns-clause-grows
returns-clause-grows c = extends-trans c.in_ok-right.ensures.grows c.taken.ensures.grows
