use Rattle.std.proofs.Common.{sym, ◌∙◌, ap}
use Rattle.rg_tree.specs.Phrases as p
use Rattle.rg_tree.specs.Table.{row}
use Rattle.rg_reader.proofs.Tokens.{exit}
use Rattle.rg_reader.proofs.Halting.{halts-none, halts-here, halts-row}
use Rattle.rg_reader.proofs.TypeRows.{manager-found, no-manager}
use Rattle.rg_tree.proofs.ByRows.{manager_of-row}
use Rattle.rg_reader.proofs.reader.Reader.manager.Goals as goal

pub returns-in_default-clause-fault : goal.returns-in_default-clause-fault
returns-in_default-clause-fault c = halts-none _ (no-manager _ (rw c.next.ensures at c.in_default.ensures))

pub returns-in_err-take-clause-fault : goal.returns-in_err-take-clause-fault
returns-in_err-take-clause-fault c = exit _ c.from_residual.ensures.1 (halts-row _ _ (ap (row p.Manager)
    (sym c.next.ensures ∙ c.in-Some.ensures.0) ∙ manager_of-row _ _ c.in-Some.ensures.1) (halts-here _ c.in_err-take.ensures.fault))

pub returns-clause-ok : goal.returns-clause-ok
returns-clause-ok c = manager-found _ _ c.in-Some.ensures.1 c.in_ok-take.ensures.ok
