use Rattle.rg_plain.proofs.Statements.Unasked.{does-unasked, goes-on}
use Rattle.rg_plain.proofs.steps.row_step.Goals as goal

pub returns-in-EndAt : goal.returns-in-EndAt
returns-in-EndAt g c =
    goes-on _ _ _ c.args.book.now.program c.args.m.now c.end_step.new.m _ _ c.end_step.ensures.step c.end_step.ensures.quiet c.end_step.ensures.fit
    c.requires.follows

pub returns-in-LeaveAt : goal.returns-in-LeaveAt
returns-in-LeaveAt g c =
    goes-on _ _ _ c.args.book.now.program c.args.m.now c.leave_step.new.m _ _ c.leave_step.ensures.step c.leave_step.ensures.quiet
    c.leave_step.ensures.fit c.requires.follows

pub returns-in-Back : goal.returns-in-Back
returns-in-Back g c =
    goes-on _ _ _ c.args.book.now.program c.args.m.now c.back_step.new.m _ _ c.back_step.ensures.step c.back_step.ensures.quiet c.back_step.ensures.fit
    c.requires.follows

pub returns-in-LeaveGiving : goal.returns-in-LeaveGiving
returns-in-LeaveGiving g c =
    does-unasked _ _ _ c.args.book.now.program c.args.m.now c.leave_giving_step.new.m _ _ c.in-LeaveGiving.line c.leave_giving_step.result
    c.outcome.result c.leave_giving_step.ensures.step c.leave_giving_step.ensures.quiet c.leave_giving_step.ensures.fit c.outcome.ensures.is
    c.outcome.ensures.asks_nothing c.requires.follows
