use Rattle.rg_flow.specs.Scope.{env_of}
use Rattle.rg_type.proofs.RightSteps.{TypedAs-result}
use Rattle.rg_type.proofs.rights.result_of.Goals as goal

pub returns-clause-judged : goal.returns-clause-judged
returns-clause-judged c =
    let new = env_of c.args.book.now.program c.call.new.env in
    TypedAs-result _ new c.args.wanted c.in-Some.ty _ c.against.result c.in_ok-ty.ensures.judged c.in-Some.is (c.against.ensures.judged new)
