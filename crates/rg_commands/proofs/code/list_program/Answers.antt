use Rattle.rg_words.specs.Commands.{in_file}
use Rattle.rg_commands.proofs.Ran.{runs-checked}
use Rattle.rg_commands.proofs.code.list_program.Goals as goal

pub returns-in-Ok-clause-settles : goal.returns-in-Ok-clause-settles
returns-in-Ok-clause-settles g c = λ file source left m means fresh.
    c.list_accepted.ensures.settles file source left m
    (runs-checked (in_file file) source c.args.program _ c.in-Ok.ensures.program means c.in-Ok.ensures.judged) fresh
