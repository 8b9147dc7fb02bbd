use Rattle.rg_verify_expressions.specs.Blocks.{path_in}
use Rattle.rg_raise.proofs.Rows.{means-there}
use Rattle.rg_blocks.proofs.Put.{path-found, path-lost, no-path}
use Rattle.rg_blocks.proofs.parts.path_in.Goals as goal

pub expr-requires : goal.expr-requires
expr-requires c = let (e, is) = c.requires in means-there is

pub returns-in_default : goal.returns-in_default
returns-in_default c e is =
    no-path c.args.program.now c.args.body.in_method (path_in e) (path-lost c.args.program.now c.args.body.in_method c.args.row c.expr.result e
    c.in_default.not-Path c.expr.ensures.tree is)

pub returns : goal.returns
returns c e is =
    path-found c.args.program.now c.args.body.in_method c.args.row c.expr.result c.in-Path.path e c.in-Path.is c.expr.ensures.tree
    c.expr.ensures.below is
