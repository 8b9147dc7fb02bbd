use Rattle.std.proofs.Common.{inl, refl}
use Rattle.rg_words.specs.Commands.{generated}
use Rattle.rg_commands.proofs.Ran.{runs-checked}
use Rattle.rg_commands.proofs.Asked.{unasked, yeses-fresh}
use Rattle.rg_commands.proofs.setting.Setting.bulk_program.Goals as goal

pub returns-in-Ok-clause-settles : goal.returns-in-Ok-clause-settles
returns-in-Ok-clause-settles g c = λ source bytes means.
    c.bulk_accepted.ensures.settles source bytes
    (runs-checked (generated c.args.size) source c.args.program _ c.in-Ok.ensures.program means c.in-Ok.ensures.judged)

pub returns-in-Err-Memory-clause-settles : goal.returns-in-Err-Memory-clause-settles
returns-in-Err-Memory-clause-settles g c = λ source bytes means. record {
  settles = inl (c.requires.fresh, refl, tt);
  asked = inl (unasked _ _ _ c.requires.fresh);
}

pub returns-in-Ok-clause-yeses : goal.returns-in-Ok-clause-yeses
returns-in-Ok-clause-yeses g c = c.bulk_accepted.ensures.yeses

pub returns-in-Err-Memory-clause-yeses : goal.returns-in-Err-Memory-clause-yeses
returns-in-Err-Memory-clause-yeses g c = yeses-fresh _ _ _ _ _ c.requires.fresh refl refl
