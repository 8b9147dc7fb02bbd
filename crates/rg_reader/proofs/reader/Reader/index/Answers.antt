use Rattle.std.proofs.Common.{ap}
use Rattle.rg_tree.specs.Phrases as p
use Rattle.rg_tree.specs.Table.{row}
use Rattle.rg_reader.proofs.Tokens.{exit}
use Rattle.rg_reader.proofs.Halting.{halts-row}
use Rattle.rg_reader.proofs.ExprRows.{index-found, no_index-found}
use Rattle.rg_reader.proofs.reader.Reader.index.Goals as goal

pub returns-in_err-index-clause-fault : goal.returns-in_err-index-clause-fault
returns-in_err-index-clause-fault c = exit _ c.from_residual.ensures.1 (halts-row _ _ (ap (row p.At) c.if-is_next.ensures)
    c.in_err-index.ensures.fault)

pub returns-in_ok-index-clause-ok : goal.returns-in_ok-index-clause-ok
returns-in_ok-index-clause-ok c = index-found c.in_ok-index.ensures.ok

pub returns-else-is_next-clause-ok : goal.returns-else-is_next-clause-ok
returns-else-is_next-clause-ok c = no_index-found _ c.if-is_next.ensures
