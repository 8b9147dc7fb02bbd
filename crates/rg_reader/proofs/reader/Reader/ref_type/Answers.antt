use Rattle.rg_tree.specs.Forms as form
use Rattle.rg_reader.proofs.Tokens.{exit}
use Rattle.rg_reader.proofs.Halting.{halts-found, halts-here, halts-row}
use Rattle.rg_reader.proofs.TypeRows.{ref-row, ref-found}
use Rattle.rg_reader.proofs.reader.Reader.ref_type.Goals as goal

pub returns-in_err-cap-clause-fault : goal.returns-in_err-cap-clause-fault
returns-in_err-cap-clause-fault c = exit _ c.from_residual.ensures.1 (halts-row _ _ (ref-row _ c.requires)
    (halts-here _ c.in_err-cap.ensures.fault))

pub returns-in_err-name-clause-fault : goal.returns-in_err-name-clause-fault
returns-in_err-name-clause-fault c = exit _ c.from_residual-in_err-name.ensures.1 (halts-row _ _ (ref-row _ c.requires)
    (halts-found form.Cap _ tt c.in_ok-cap.ensures.ok (halts-here _ c.in_err-name.ensures.fault)))

pub returns-clause-ok : goal.returns-clause-ok
returns-clause-ok c = ref-found c.in_ok-cap.ensures.ok c.in_ok-name.ensures.ok
