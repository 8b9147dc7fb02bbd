use Rattle.std.proofs.Common.{[]}
use Rattle.rg_verify_expressions.specs.Raised.{path}
use Rattle.rg_verify_expressions.proofs.Path.{for-variable}
use Rattle.rg_verify_expressions.proofs.stack.put_path.Goals as goal

pub settle-requires-clause-tree : goal.settle-requires-clause-tree
settle-requires-clause-tree c =
    let fields = c.new-fields in
    (path c.args.slot [], for-variable c.args.program.now c.args.body.in_method c.args.slot fields.result fields.ensures.items)

pub returns-clause-makes : goal.returns-clause-makes
returns-clause-makes c items p =
    let fields = c.new-fields in
    c.settle.ensures.makes items (path c.args.slot []) p
    (for-variable c.args.program.now c.args.body.in_method c.args.slot fields.result fields.ensures.items)
