use Rattle.std.proofs.Common.{ap, arith}
use Rattle.rg_reader.specs.Steps.{classed}
use Rattle.rg_reader.proofs.Exits.{no-ok, no-memory}
use Rattle.rg_reader.proofs.reader.Reader.add_class.Goals as goal

pub returns-clause-classed : goal.returns-clause-classed
returns-clause-classed c = rw (← c.self.view_is) (classed (ap (λ r. r.classes) c.in_ok-_number.ensures.program))

pub add_class-requires : goal.add_class-requires
add_class-requires c = rw (← c.self.view_is) at c.requires

pub returns-in_err-_number-clause-classed : goal.returns-in_err-_number-clause-classed
returns-in_err-_number-clause-classed c = no-ok _ _ c.from_residual.ensures.0

pub returns-in_err-_number-clause-shorter : goal.returns-in_err-_number-clause-shorter
returns-in_err-_number-clause-shorter c = no-ok _ _ c.from_residual.ensures.0

pub returns-in_err-_number-clause-fault : goal.returns-in_err-_number-clause-fault
returns-in_err-_number-clause-fault c = no-memory _ c.from_residual.ensures.1

pub returns-clause-shorter : goal.returns-clause-shorter
returns-clause-shorter c = rw (← c.self.view_is) (omega arith)

pub returns-clause-fault : goal.returns-clause-fault
returns-clause-fault c = tt
