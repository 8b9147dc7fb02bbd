use Rattle.std.proofs.Common.{rules}
use Rattle.rg_expressions.proofs.PathSteps.{swapped_field-append}
use Rattle.rg_expressions.proofs.paths.writable.Goals as goal

pub returns-in_err-found-clause-judged : goal.returns-in_err-found-clause-judged
returns-in_err-found-clause-judged c = rw swapped_field-append (search rules)

pub returns-in_err-ty-clause-judged : goal.returns-in_err-ty-clause-judged
returns-in_err-ty-clause-judged c = rw swapped_field-append (search rules)

pub returns-in_err-field-clause-judged : goal.returns-in_err-field-clause-judged
returns-in_err-field-clause-judged c = rw swapped_field-append (search rules)

pub returns-then-not-may_write-clause-judged : goal.returns-then-not-may_write-clause-judged
returns-then-not-may_write-clause-judged c = rw swapped_field-append (search rules)

pub returns-clause-judged : goal.returns-clause-judged
returns-clause-judged c = rw swapped_field-append (search rules)
