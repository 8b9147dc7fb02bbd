use Rattle.std.proofs.Common.{ap, inl, inr, refl}
use Rattle.std.specs.Result.{result_err}
use Rattle.rg_tree.specs.Rows.RowTrees.{program_of}
use Rattle.rg_words.specs.Commands.{in_file}
use Rattle.rg_commands.proofs.Asked.{some-input}
use Rattle.rg_commands.proofs.Ran.{runs-checked}
use Rattle.rg_commands.proofs.plain.plain_program.Goals as goal

pub returns-in-Ok-clause-settles : goal.returns-in-Ok-clause-settles
returns-in-Ok-clause-settles g c = λ file source m means fresh.
    c.plain_accepted.ensures.settles file source m
    (runs-checked (in_file file) source c.args.program _ c.in-Ok.ensures.program means c.in-Ok.ensures.judged) fresh

pub returns-in-Err-Fault-clause-settles : goal.returns-in-Err-Fault-clause-settles
returns-in-Err-Fault-clause-settles g c =
    rw c.in-Err-Fault.field-0-is
    (let judged = rw c.in-Err-Fault.field-0-is at c.in-Err-Fault.ensures.judged in
    λ file source m means fresh. some-input _ _ (λ bytes. (inr (program_of c.args.program, means, ap result_err judged), (fresh, refl, refl))))

pub returns-in-Err-Memory-clause-settles : goal.returns-in-Err-Memory-clause-settles
returns-in-Err-Memory-clause-settles g c = λ file source m means fresh. some-input _ _ (λ bytes. inl (fresh, refl, refl))
