use Rattle.std.proofs.lemmas.Result.{IfOk-from_err}
use Rattle.rg_reader.proofs.Exits.{no-ok}
use Rattle.rg_reader.proofs.PathRows.{no_args-found}
use Rattle.rg_reader.proofs.reader.Reader.no_args.Goals as goal

pub returns-clause-ok : goal.returns-clause-ok
returns-clause-ok c = no_args-found c.requires c.in_ok-span.ensures.kept c.in_ok-span.ensures.means

pub returns-in_err-span-clause-ok : goal.returns-in_err-span-clause-ok
returns-in_err-span-clause-ok c = IfOk-from_err _ _ c.from_residual.ensures.0

pub returns-in_err-span-clause-shorter : goal.returns-in_err-span-clause-shorter
returns-in_err-span-clause-shorter c = no-ok _ _ c.from_residual.ensures.0

pub returns-clause-shorter : goal.returns-clause-shorter
returns-clause-shorter c = c.in_ok-span.ensures.shorter

pub returns-clause-fault : goal.returns-clause-fault
returns-clause-fault c = tt
