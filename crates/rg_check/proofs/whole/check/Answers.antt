use Rattle.std.proofs.Common.{◌∙◌}
use Rattle.std.proofs.lemmas.Result.{err_from_is_err_and}
use Rattle.rg_tree.specs.Rows.RowTrees.{program_of}
use Rattle.rg_names.proofs.Fails.{FailsAs-same}
use Rattle.rg_check.proofs.WholeSteps.{main-is, headers-fault, methods-fault, main-fault, passed, accepted}
use Rattle.rg_check.proofs.whole.check.Goals as goal

pub returns-in_err-classes-clause-judged : goal.returns-in_err-classes-clause-judged
returns-in_err-classes-clause-judged c =
    let p = err_from_is_err_and c.from_residual.result c.from_residual.ensures.1 in
    rw (p.1, p.2) (headers-fault (program_of c.args.program) _ c.in_err-classes.ensures.judged)

pub returns-in_err-judge_methods-clause-judged : goal.returns-in_err-judge_methods-clause-judged
returns-in_err-judge_methods-clause-judged c =
    let p = err_from_is_err_and c.from_residual-in_err-judge_methods.result c.from_residual-in_err-judge_methods.ensures.1 in
    rw (p.1, p.2) (methods-fault (program_of c.args.program) c.in_ok-classes.ensures.judged _ c.in_err-judge_methods.ensures)

pub returns-in_err-judge_block-clause-judged : goal.returns-in_err-judge_block-clause-judged
returns-in_err-judge_block-clause-judged c =
    let p = err_from_is_err_and c.from_residual-in_err-judge_block.result c.from_residual-in_err-judge_block.ensures.1 in
    let is = main-is c.args.program c.new-env.result c.main_body.result c.order-main.result.now c.new-env.ensures c.main_body.ensures.row
    c.order-main.ensures in
    rw (p.1, p.2) (main-fault (program_of c.args.program) c.in_ok-classes.ensures.judged c.in_ok-judge_methods.ensures _
    (FailsAs-same _ _ _ is c.in_err-judge_block.ensures))

pub new-requires : goal.new-requires
new-requires c =
    let is = main-is c.args.program c.new-env.result c.main_body.result c.order-main.result.now c.new-env.ensures c.main_body.ensures.row
    c.order-main.ensures in record {
      table = c.in_ok-classes.ensures.table;
      accepted = accepted (program_of c.args.program) c.in_ok-classes.ensures.judged c.in_ok-judge_methods.ensures _
          (is ∙ c.in_ok-judge_block.ensures);
      names = c.requires;
    }

pub returns-clause-judged : goal.returns-clause-judged
returns-clause-judged c =
    let is = main-is c.args.program c.new-env.result c.main_body.result c.order-main.result.now c.new-env.ensures c.main_body.ensures.row
    c.order-main.ensures in
    passed (program_of c.args.program) c.in_ok-classes.ensures.judged c.in_ok-judge_methods.ensures _ (is ∙ c.in_ok-judge_block.ensures)
