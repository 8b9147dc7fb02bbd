use Rattle.std.proofs.Common.{sym, arith}
use Rattle.rg_cown.proofs.FieldsHere.{values-past}
use Rattle.rg_cown.proofs.fields.value_at.Goals as goal

pub returns-else-k-count : goal.returns-else-k-count
returns-else-k-count c = sym (values-past c.args.count c.args.kinds.now c.args.numbers.now c.args.k (omega (arith, c.if-k-count.false)))
