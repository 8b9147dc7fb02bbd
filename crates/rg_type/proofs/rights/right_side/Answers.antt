use Rattle.rg_flow.specs.Scope.{env_of}
use Rattle.rg_type.proofs.rights.right_side.Goals as goal

pub returns-in-Read-clause-judged : goal.returns-in-Read-clause-judged
returns-in-Read-clause-judged c = rw c.in-Read.is (c.against.ensures.judged (env_of c.args.book.now.program c.args.env.now))

pub returns-in-More-clause-judged : goal.returns-in-More-clause-judged
returns-in-More-clause-judged c = rw c.in-More.is (c.against-in-More.ensures.judged (env_of c.args.book.now.program c.args.env.now))
