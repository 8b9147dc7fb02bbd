use Rattle.std.proofs.Common.{ap}
use Rattle.rg_tree.specs.Forms as form
use Rattle.rg_tree.specs.Phrases as p
use Rattle.rg_tree.specs.Table.{row}
use Rattle.rg_reader.proofs.Tokens.{exit}
use Rattle.rg_reader.proofs.Halting.{halts-found, halts-here, halts-row, halts-took}
use Rattle.rg_reader.proofs.PathRows.{enclosed-found}
use Rattle.rg_reader.proofs.reader.Reader.enclosed_args.Goals as goal

pub returns-in_err-take-clause-fault : goal.returns-in_err-take-clause-fault
returns-in_err-take-clause-fault c = exit _ c.from_residual.ensures.1 (halts-row _ _ (ap (row p.CallRest) c.requires)
    (halts-here _ c.in_err-take.ensures.fault))

pub returns-in_err-args-clause-fault : goal.returns-in_err-args-clause-fault
returns-in_err-args-clause-fault c = exit _ c.from_residual-in_err-args.ensures.1 (halts-row _ _ (ap (row p.CallRest) c.requires)
    (halts-took _ c.in_ok-take.ensures.ok (halts-here _ c.in_err-args.ensures.fault)))

pub returns-in_err-take-2-clause-fault : goal.returns-in_err-take-2-clause-fault
returns-in_err-take-2-clause-fault c = exit _ c.from_residual-in_err-take-2.ensures.1 (halts-row _ _ (ap (row p.CallRest) c.requires)
    (halts-took _ c.in_ok-take.ensures.ok (halts-found form.Args _ tt c.in_ok-args.ensures.ok (halts-here _ c.in_err-take-2.ensures.fault))))

pub returns-clause-ok : goal.returns-clause-ok
returns-clause-ok c = enclosed-found c.in_ok-take.ensures.ok c.in_ok-args.ensures.ok c.in_ok-take-2.ensures.ok
