use Rattle.std.proofs.lemmas.Result.{err_from_is_err_and}
use Rattle.rg_tree.proofs.Adding.{extends-trans}
use Rattle.rg_raise.specs.Telling.{given}
use Rattle.rg_blocks.proofs.Exprs.{array-refused, array-taken}
use Rattle.rg_blocks.proofs.blocks.array_taken.Goals as goal

pub returns-in_err-right-clause-told : goal.returns-in_err-right-clause-told
returns-in_err-right-clause-told c e is =
    let p = err_from_is_err_and c.from_residual.result c.from_residual.ensures.1 in
    rw (p.1, p.2) (array-refused c.args.source.now.body.in_method (given c.args.source.now) c.args.types.now.items e c.args.at c.args.walk
    c.args.program.now c.array_row.new.program c.in_err-right.field-0.0 (c.in_err-right.ensures.told e is))

pub returns-clause-told : goal.returns-clause-told
returns-clause-told c e is =
    array-taken c.args.source.now.body.in_method (given c.args.source.now) c.args.types.now.items e c.args.at c.args.walk c.args.program.now
    c.array_row.new.program c.taken.new.program c.in_ok-right.right c.taken.result (c.in_ok-right.ensures.told e is) c.taken.ensures.told

pub returns-clause-grows : goal.returns-clause-grows
returns-clause-grows c = extends-trans c.in_ok-right.ensures.grows c.taken.ensures.grows
