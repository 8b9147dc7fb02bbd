use Rattle.rg_sources.proofs.Read.{generated-found}
use Rattle.rg_sources.proofs.asked.program_of_size.Goals as goal

pub returns-in-Ok-clause-brings : goal.returns-in-Ok-clause-brings
returns-in-Ok-clause-brings c = λ told. generated-found told c.args.size _ c.in-Ok.ensures.tree c.in-Ok.ensures.accepted
