use Rattle.std.proofs.Common.{ap}
use Rattle.rg_tree.specs.Phrases as p
use Rattle.rg_tree.specs.Table.{row}
use Rattle.rg_reader.proofs.Tokens.{exit}
use Rattle.rg_reader.proofs.Halting.{halts-here, halts-row}
use Rattle.rg_reader.proofs.TypeRows.{bool-found}
use Rattle.rg_reader.proofs.reader.Reader.bool_type.Goals as goal

pub returns-in_err-take-clause-fault : goal.returns-in_err-take-clause-fault
returns-in_err-take-clause-fault c = exit _ c.from_residual.ensures.1 (halts-row _ _ (ap (row p.Type') c.requires)
    (halts-here _ c.in_err-take.ensures.fault))

pub returns-clause-ok : goal.returns-clause-ok
returns-clause-ok c = bool-found c.in_ok-take.ensures.ok
