use Rattle.rg_type.proofs.statements.assign.assign_variable.Goals as goal

pub returns-clause-scope : goal.returns-clause-scope
returns-clause-scope c = c.mark.ensures.within c.args.book.now.program c.in_ok-right_side.ensures.scope
