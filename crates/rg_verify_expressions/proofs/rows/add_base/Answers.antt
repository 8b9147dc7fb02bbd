use Rattle.std.proofs.Common.{sym, ◌∙◌}
use Rattle.rg_verify_expressions.proofs.Row.{base-put, base-self}
use Rattle.rg_verify_expressions.proofs.rows.add_base.Goals as goal

pub returns-then-is_self-clause-adds : goal.returns-then-is_self-clause-adds
returns-then-is_self-clause-adds c = base-self _ c.args.body.in_method c.args.slot (sym c.is_self.ensures ∙ c.if-is_self.true)

pub returns-clause-adds : goal.returns-clause-adds
returns-clause-adds c = base-put c.args.body.in_method c.args.slot (sym c.is_self.ensures ∙ c.if-is_self.false) c.in_ok-number.ensures.adds
