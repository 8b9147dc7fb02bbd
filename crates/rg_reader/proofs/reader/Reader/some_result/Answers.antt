use Rattle.std.proofs.Common.{ap}
use Rattle.rg_tree.specs.Phrases as p
use Rattle.rg_tree.specs.Table.{row}
use Rattle.rg_reader.proofs.Tokens.{exit}
use Rattle.rg_reader.proofs.Halting.{halts-here, halts-row, halts-took}
use Rattle.rg_reader.proofs.TypeRows.{some_result-found}
use Rattle.rg_reader.proofs.reader.Reader.some_result.Goals as goal

pub returns-in_err-take-clause-fault : goal.returns-in_err-take-clause-fault
returns-in_err-take-clause-fault c = exit _ c.from_residual.ensures.1 (halts-row _ _ (ap (row p.Result) c.requires)
    (halts-here _ c.in_err-take.ensures.fault))

pub returns-in_err-ty-clause-fault : goal.returns-in_err-ty-clause-fault
returns-in_err-ty-clause-fault c = exit _ c.from_residual-in_err-ty.ensures.1 (halts-row _ _ (ap (row p.Result) c.requires)
    (halts-took _ c.in_ok-take.ensures.ok (halts-here _ c.in_err-ty.ensures.fault)))

pub returns-clause-ok : goal.returns-clause-ok
returns-clause-ok c = some_result-found c.in_ok-take.ensures.ok c.in_ok-ty.ensures.ok
