use Rattle.rg_reader.proofs.Tokens.{exit}
use Rattle.rg_reader.proofs.Halting.{halts-here, halts-row, halts-took}
use Rattle.rg_reader.proofs.ExprRows.{size-row, size-found}
use Rattle.rg_reader.proofs.Growing.{found-there}
use Rattle.rg_reader.proofs.reader.Reader.size_row.Goals as goal

pub returns-in_err-take-clause-fault : goal.returns-in_err-take-clause-fault
returns-in_err-take-clause-fault c = exit _ c.from_residual.ensures.1 (halts-row _ _ (size-row _ c.requires)
    (halts-here _ c.in_err-take.ensures.fault))

pub returns-in_err-path-clause-fault : goal.returns-in_err-path-clause-fault
returns-in_err-path-clause-fault c = exit _ c.from_residual-in_err-path.ensures.1 (halts-row _ _ (size-row _ c.requires)
    (halts-took _ c.in_ok-take.ensures.ok (halts-here _ c.in_err-path.ensures.fault)))

pub add_expr-requires : goal.add_expr-requires
add_expr-requires c = found-there c.in_ok-path.ensures.ok

pub returns-clause-ok : goal.returns-clause-ok
returns-clause-ok c = size-found c.in_ok-take.ensures.ok c.in_ok-path.ensures.ok c.in_ok-number.ensures.kept c.in_ok-number.ensures.means
