use Rattle.std.proofs.Common.{arith}
use Rattle.rg_reader.proofs.Halting.{halts-here, halts-took}
use Rattle.rg_reader.proofs.Tokens.{exit}
use Rattle.rg_reader.proofs.PathRows.{args-first_halts, args-start, args-step, args-stop, args-none, args-end}
use Rattle.rg_reader.proofs.reader.Reader.some_args.Goals as goal

pub returns-in_err-first-clause-fault : goal.returns-in_err-first-clause-fault
returns-in_err-first-clause-fault c = exit _ c.from_residual.ensures.1 (args-first_halts _ c.requires c.in_err-first.ensures.fault)

pub loop-self-init : goal.loop-self-init
loop-self-init c = record {
  read = rw (c.in_ok-keep.ensures.ok, c.new-numbers.ensures.items)
      (args-start c.requires c.in_ok-first.ensures.ok);
  shorter = omega (arith, c.in_ok-first.ensures.shorter);
}

pub returns-in_err-take-clause-fault : goal.returns-in_err-take-clause-fault
returns-in_err-take-clause-fault c = exit _ c.from_residual-in_err-take.ensures.1 (args-stop _ c.loop-self.invariant.read c.loop-self-test.ensures
    (halts-here _ c.in_err-take.ensures.fault))

pub returns-in_err-arg-clause-fault : goal.returns-in_err-arg-clause-fault
returns-in_err-arg-clause-fault c = exit _ c.from_residual-in_err-arg.ensures.1 (args-stop _ c.loop-self.invariant.read c.loop-self-test.ensures
    (halts-took _ c.in_ok-take.ensures.ok (halts-here _ c.in_err-arg.ensures.fault)))

pub loop-self-preserved : goal.loop-self-preserved
loop-self-preserved c = record {
  read = rw c.in_ok-keep-2.ensures.ok
      (args-step c.loop-self.invariant.read c.in_ok-take.ensures.ok c.in_ok-arg.ensures.ok);
  shorter = omega
      (arith, c.in_ok-take.ensures.shorter, c.in_ok-arg.ensures.shorter);
}

pub returns-in_err-closes-clause-fault : goal.returns-in_err-closes-clause-fault
returns-in_err-closes-clause-fault c = exit _ c.from_residual-in_err-closes.ensures.1
    (args-none _ c.loop-self.invariant.read c.loop-self-test.ensures c.in_err-closes.ensures.fault)

pub returns-clause-ok : goal.returns-clause-ok
returns-clause-ok c = args-end c.loop-self.invariant.read c.in_ok-closes.ensures.ok c.in_ok-span.ensures.kept
    (rw c.deref.ensures.value at c.in_ok-span.ensures.means)
