use Rattle.std.proofs.Common.{ap, inl, refl}
use Rattle.rg_run.proofs.Run.{begun-some}
use Rattle.rg_commands.specs.Asked.{status_of_ended}
use Rattle.rg_commands.proofs.Asked.{some-input}
use Rattle.rg_commands.proofs.Ran.{input-ended, on-input, output-ended, plain-on}
use Rattle.rg_commands.proofs.plain.plain_accepted.Goals as goal

pub run_counting-counted-requires-clause-left : goal.run_counting-counted-requires-clause-left
run_counting-counted-requires-clause-left g c = begun-some c.program-program.result.now c.begin.new.self c.in-Ok.ensures.begins

pub returns-clause-settles : goal.returns-clause-settles
returns-clause-settles g c = λ file source m runs fresh.
    rw c.status_of.ensures.is
    (plain-on file c.args.steps c.run_counting-counted.result.steps source (g.I.Source.left c.args.input.now) c.program-program.result.now
    c.args.accepted.now.program c.begin.new.self c.run_counting-counted.new.self m c.run_counting-counted.result.ended _ _ _ _ (λ h. h.1)
    c.program-program.ensures.program runs fresh c.in-Ok.ensures.begins c.run_counting-counted.ensures.within
    (on-input _ _ _ _ _ c.new-numbers.ensures c.run_counting-counted.ensures.follows c.run_counting-counted.ensures.reads_nothing))

pub returns-clause-caused : goal.returns-clause-caused
returns-clause-caused g c =
    let ran = c.run_counting-counted.ensures in
    let e = c.run_counting-counted.result.ended in
    rw c.status_of.ensures.is (record {
      input_fault = λ is. ran.input_fault (input-ended e is);
      input_quiet = λ other. ran.source_quiet (λ is. other (ap status_of_ended is));
      output_fault = λ is. ran.output_fault (output-ended e is);
      input_never_falls = ran.source_never_falls;
      output_never_falls = ran.sink_never_falls;
    })

pub returns-in_default-clause-settles : goal.returns-in_default-clause-settles
returns-in_default-clause-settles g c = λ file source m runs fresh. some-input _ _ (λ bytes. inl (fresh, refl, refl))
