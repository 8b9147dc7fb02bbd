use Rattle.rg_commands.proofs.Meaning.{one-answer}
use Rattle.rg_commands.proofs.laws.answers_are_one.Goals as goal

pub returns : goal.returns
returns c = one-answer c.raised_alike.ensures c.same_runs.ensures c.at_most_one_module.ensures c.loads_come_to_one.ensures
