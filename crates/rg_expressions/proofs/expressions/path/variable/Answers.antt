use Rattle.rg_expressions.proofs.expressions.path.variable.Goals as goal

pub returns-then-is_iso-clause-scope : goal.returns-then-is_iso-clause-scope
returns-then-is_iso-clause-scope c = c.mark.ensures.within c.args.book.now.program c.requires.scope
