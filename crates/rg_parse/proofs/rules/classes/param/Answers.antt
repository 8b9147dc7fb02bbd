use Rattle.rg_reader.specs.declared.reader.limits.Role.TheVariants as role
use Rattle.rg_reader.proofs.Halting.{halts-here, halts-took, halts-declared}
use Rattle.rg_reader.proofs.Tokens.{exit}
use Rattle.rg_parse.proofs.ClassRows.{param-found, param-there}
use Rattle.rg_parse.proofs.rules.classes.param.Goals as goal

pub returns-in_err-take-clause-fault : goal.returns-in_err-take-clause-fault
returns-in_err-take-clause-fault c = exit _ c.from_residual-in_err-take.ensures.1 (halts-declared role.Param _ c.in_ok-name.ensures.ok
    (halts-here _ c.in_err-take.ensures.fault))

pub returns-in_err-ty-clause-fault : goal.returns-in_err-ty-clause-fault
returns-in_err-ty-clause-fault c = exit _ c.from_residual-in_err-ty.ensures.1 (halts-declared role.Param _ c.in_ok-name.ensures.ok
    (halts-took _ c.in_ok-take.ensures.ok (halts-here _ c.in_err-ty.ensures.fault)))

pub add_param-requires : goal.add_param-requires
add_param-requires c = param-there c.in_ok-name.ensures.ok c.in_ok-take.ensures.ok c.in_ok-ty.ensures.ok

pub returns-clause-ok : goal.returns-clause-ok
returns-clause-ok c = param-found c.in_ok-name.ensures.ok c.in_ok-take.ensures.ok c.in_ok-ty.ensures.ok c.in_ok-number.ensures.kept
    c.in_ok-number.ensures.means
