use Rattle.std.proofs.Common.{arith}
use Rattle.rg_reader.proofs.Halting.{halts-here, halts-took}
use Rattle.rg_reader.proofs.Tokens.{exit}
use Rattle.rg_reader.proofs.PathRows.{call-start, call-step, call-stop, call-behind, call-end}
use Rattle.rg_reader.proofs.reader.Reader.call_rest.Goals as goal

pub loop-names-init : goal.loop-names-init
loop-names-init c = record { read = rw c.new-names.ensures.items (call-start _ _ c.args.first c.requires.first); shorter = omega arith }

pub returns-in_err-take-clause-fault : goal.returns-in_err-take-clause-fault
returns-in_err-take-clause-fault c = exit _ c.from_residual-in_err-take.ensures.1
    (call-stop _ c.loop-names.invariant.read c.loop-names-test.ensures (halts-here _ c.in_err-take.ensures.fault))

pub returns-in_err-method-clause-fault : goal.returns-in_err-method-clause-fault
returns-in_err-method-clause-fault c = exit _ c.from_residual-in_err-method.ensures.1
    (call-stop _ c.loop-names.invariant.read c.loop-names-test.ensures (halts-took _ c.in_ok-take.ensures.ok
    (halts-here _ c.in_err-method.ensures.fault)))

pub loop-names-preserved : goal.loop-names-preserved
loop-names-preserved c = record {
  read = rw c.in_ok-keep.ensures.ok
      (call-step c.loop-names.invariant.read c.in_ok-take.ensures.ok c.in_ok-method.ensures.ok);
  shorter = omega
      (arith, c.in_ok-take.ensures.shorter, c.in_ok-method.ensures.shorter);
}

pub returns-in_err-args-clause-fault : goal.returns-in_err-args-clause-fault
returns-in_err-args-clause-fault c = exit _ c.from_residual-in_err-args.ensures.1
    (call-behind _ c.loop-names.invariant.read c.in_ok-fields.ensures.kept c.in_err-args.ensures.fault)

pub returns-clause-ok : goal.returns-clause-ok
returns-clause-ok c = call-end c.args.base c.requires.base c.loop-names.invariant.read c.in_ok-fields.ensures.kept
    (rw c.deref.ensures.value at c.in_ok-fields.ensures.means) c.in_ok-args.ensures.ok
