use Rattle.std.proofs.Common.{arith}
use Rattle.rg_tree.specs.Rows.RowTrees.{expr_at}
use Rattle.rg_values.specs.Shown.{locals_of}
use Rattle.rg_values.proofs.Expressions.Using.{cleared-more}
use Rattle.rg_values.proofs.values.arguments.use_up_all.Goals as goal

pub loop-e-preserved : goal.loop-e-preserved
loop-e-preserved c = record {
  cleared = cleared-more (expr_at c.args.book.now.program) c.args.args.now c.loop-e.e-index (locals_of c.args.book.now.program c.args.locals.now)
      (locals_of c.args.book.now.program c.loop-e.locals) (locals_of c.args.book.now.program c.use_up.new.locals) (omega arith)
      c.loop-e.invariant.cleared c.use_up.ensures.cleared;
  named = c.use_up.ensures.named;
}
