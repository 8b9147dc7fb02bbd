use Rattle.rg_type.proofs.statements.enter.leave.Goals as goal

pub returns-then-is_empty-clause-scope : goal.returns-then-is_empty-clause-scope
returns-then-is_empty-clause-scope c = c.mark.ensures.within c.args.book.now.program c.requires.scope
