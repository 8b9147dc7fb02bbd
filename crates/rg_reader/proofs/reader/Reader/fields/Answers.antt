use Rattle.std.proofs.Common.{arith}
use Rattle.rg_reader.proofs.Halting.{halts-here, halts-took}
use Rattle.rg_reader.proofs.Tokens.{exit}
use Rattle.rg_reader.proofs.PathRows.{fields-start, fields-step, fields-stop, fields-end}
use Rattle.rg_reader.proofs.reader.Reader.fields.Goals as goal

pub loop-self-init : goal.loop-self-init
loop-self-init c = record { read = rw c.new-names.ensures.items (fields-start _); shorter = omega arith }

pub returns-in_err-take-clause-fault : goal.returns-in_err-take-clause-fault
returns-in_err-take-clause-fault c = exit _ c.from_residual.ensures.1 (fields-stop _ c.loop-self.invariant.read c.loop-self-test.ensures
    (halts-here _ c.in_err-take.ensures.fault))

pub returns-in_err-name-clause-fault : goal.returns-in_err-name-clause-fault
returns-in_err-name-clause-fault c = exit _ c.from_residual-in_err-name.ensures.1
    (fields-stop _ c.loop-self.invariant.read c.loop-self-test.ensures (halts-took _ c.in_ok-take.ensures.ok
    (halts-here _ c.in_err-name.ensures.fault)))

pub loop-self-preserved : goal.loop-self-preserved
loop-self-preserved c = record {
  read = rw c.in_ok-keep.ensures.ok
      (fields-step c.loop-self.invariant.read c.in_ok-take.ensures.ok c.in_ok-name.ensures.ok);
  shorter = omega
      (arith, c.in_ok-take.ensures.shorter, c.in_ok-name.ensures.shorter);
}

pub returns-clause-ok : goal.returns-clause-ok
returns-clause-ok c = fields-end c.loop-self.invariant.read c.loop-self-test.ensures c.in_ok-span.ensures.kept
    (rw c.deref.ensures.value at c.in_ok-span.ensures.means)
