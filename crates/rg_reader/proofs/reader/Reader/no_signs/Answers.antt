use Rattle.rg_reader.specs.Steps.{reset}
use Rattle.rg_reader.proofs.reader.Reader.no_signs.Goals as goal

pub returns-clause-reset : goal.returns-clause-reset
returns-clause-reset c = rw (← c.self.view_is) reset
