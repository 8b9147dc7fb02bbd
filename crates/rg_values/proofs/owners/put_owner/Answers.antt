use Rattle.std.proofs.Common.{Some, ap, sym, ◌∙◌}
use Rattle.rg_rules.specs.Steps.{put_at}
use Rattle.rg_values.specs.Kept.{kept_of, plain_of}
use Rattle.rg_values.proofs.owners.put_owner.Goals as goal

pub returns-in-Var-clause-put : goal.returns-in-Var-clause-put
returns-in-Var-clause-put c input =
    c.put_variable.ensures.put input
    ∙ ap (λ place. put_at place (plain_of c.args.book.now.program (kept_of c.args.m.now) input) c.args.v)
    (sym (c.in-Some.is ∙ ap Some c.in-Var.is))
