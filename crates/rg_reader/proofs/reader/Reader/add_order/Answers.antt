use Rattle.std.proofs.Common.{ap, arith}
use Rattle.std.proofs.lemmas.Result.{IfOk-from_err}
use Rattle.rg_reader.specs.Steps.{kept}
use Rattle.rg_reader.proofs.Exits.{no-ok, no-memory}
use Rattle.rg_reader.proofs.Growing.{order-means}
use Rattle.rg_reader.proofs.reader.Reader.add_order.Goals as goal

pub returns-clause-kept : goal.returns-clause-kept
returns-clause-kept c =
    let added = c.in_ok-span.ensures in
    rw (← c.self.view_is) (kept (record { keeps = added.keeps; classes = ap (λ t. t.classes) added.numbers }))

pub returns-clause-means : goal.returns-clause-means
returns-clause-means c = order-means c.in_ok-span.span c.args.numbers.now c.in_ok-span.ensures.span

pub returns-in_err-span-clause-kept : goal.returns-in_err-span-clause-kept
returns-in_err-span-clause-kept c = no-ok _ _ c.from_residual.ensures.0

pub returns-in_err-span-clause-means : goal.returns-in_err-span-clause-means
returns-in_err-span-clause-means c = IfOk-from_err _ _ c.from_residual.ensures.0

pub returns-in_err-span-clause-shorter : goal.returns-in_err-span-clause-shorter
returns-in_err-span-clause-shorter c = no-ok _ _ c.from_residual.ensures.0

pub returns-in_err-span-clause-fault : goal.returns-in_err-span-clause-fault
returns-in_err-span-clause-fault c = no-memory _ c.from_residual.ensures.1

pub returns-clause-shorter : goal.returns-clause-shorter
returns-clause-shorter c = rw (← c.self.view_is) (omega arith)

pub returns-clause-fault : goal.returns-clause-fault
returns-clause-fault c = tt
