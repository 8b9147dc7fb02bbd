use Rattle.std.proofs.Common.{Some}
use Rattle.rg_words.specs.Commands.{generated}
use Rattle.rg_commands.proofs.Asked.{asked-behind, line-cut, on-empty}
use Rattle.rg_commands.proofs.Generated.{bulk-settles, generated-stops, no-fault}
use Rattle.rg_commands.proofs.setting.Setting.bulk_accepted.Goals as goal

pub returns-in-Done-clause-settles : goal.returns-in-Done-clause-settles
returns-in-Done-clause-settles g c = λ source bytes runs.
    let h = c.run_accepted-ran.ensures.ran (generated c.args.size) source runs in
    let ran = on-empty _ h in record {
      settles = bulk-settles c.args.size source (Some bytes) c.run_accepted-ran.result _ _ _ _ _ _ c.in-Done.is ran.0 c.put_bulk_line.ensures.put;
      asked = asked-behind (generated c.args.size) source _ _ _ _ _ _ (rw c.in-Done.is (line-cut _ _ _ _ c.put_bulk_line.ensures.put)) ran.1;
    }

pub returns-clause-settles : goal.returns-clause-settles
returns-clause-settles g c = λ source bytes runs.
    let h = c.run_accepted-ran.ensures.ran (generated c.args.size) source runs in
    let ran = on-empty _ h in record {
      settles = generated-stops c.args.size source (Some bytes) c.run_accepted-ran.result _ _ _ _ c.in_default.not-Done
          (no-fault _ c.run_accepted-ran.ensures.caused.input_fault) ran.0;
      asked = ran.1;
    }

pub returns-in-Done-clause-yeses : goal.returns-in-Done-clause-yeses
returns-in-Done-clause-yeses g c = c.run_accepted-ran.ensures.yeses

pub returns-clause-yeses : goal.returns-clause-yeses
returns-clause-yeses g c = c.run_accepted-ran.ensures.yeses
