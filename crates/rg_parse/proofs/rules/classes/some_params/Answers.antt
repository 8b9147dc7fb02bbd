use Rattle.std.proofs.Common.{arith}
use Rattle.rg_reader.proofs.Halting.{halts-here, halts-took}
use Rattle.rg_reader.proofs.Tokens.{exit}
use Rattle.rg_parse.proofs.ClassRows.{params-first_halts, params-start, params-step, params-stop, params-none, params-end, halts-front}
use Rattle.rg_parse.specs.Inner.Readings.{param_symbols}
use Rattle.rg_parse.proofs.rules.classes.some_params.Goals as goal

pub returns-in_err-first-clause-fault : goal.returns-in_err-first-clause-fault
returns-in_err-first-clause-fault c = exit _ c.from_residual.ensures.1 (params-first_halts _ c.requires c.in_err-first.ensures.fault)

pub loop-reader-init : goal.loop-reader-init
loop-reader-init c = record {
  read = rw (c.in_ok-keep.ensures.ok, c.new-numbers.ensures.items)
      (params-start c.requires c.in_ok-first.ensures.ok);
  shorter = omega (arith, c.in_ok-first.ensures.shorter);
}

pub returns-in_err-take-clause-fault : goal.returns-in_err-take-clause-fault
returns-in_err-take-clause-fault c = exit _ c.from_residual-in_err-take.ensures.1
    (params-stop _ c.loop-reader.invariant.read c.loop-reader-test.ensures (halts-here _ c.in_err-take.ensures.fault))

pub returns-in_err-param-clause-fault : goal.returns-in_err-param-clause-fault
returns-in_err-param-clause-fault c = exit _ c.from_residual-in_err-param.ensures.1
    (params-stop _ c.loop-reader.invariant.read c.loop-reader-test.ensures (halts-took _ c.in_ok-take.ensures.ok
    (halts-front param_symbols _ _ c.in_err-param.ensures.fault)))

pub loop-reader-preserved : goal.loop-reader-preserved
loop-reader-preserved c = record {
  read = rw c.in_ok-keep-2.ensures.ok
      (params-step c.loop-reader.invariant.read c.in_ok-take.ensures.ok c.in_ok-param.ensures.ok);
  shorter = omega
      (arith, c.in_ok-take.ensures.shorter, c.in_ok-param.ensures.shorter);
}

pub returns-in_err-closes-clause-fault : goal.returns-in_err-closes-clause-fault
returns-in_err-closes-clause-fault c = exit _ c.from_residual-in_err-closes.ensures.1
    (params-none _ c.loop-reader.invariant.read c.loop-reader-test.ensures c.in_err-closes.ensures.fault)

pub returns-clause-ok : goal.returns-clause-ok
returns-clause-ok c = params-end c.loop-reader.invariant.read c.in_ok-closes.ensures.ok c.in_ok-span.ensures.kept
    (rw c.deref.ensures.value at c.in_ok-span.ensures.means)
