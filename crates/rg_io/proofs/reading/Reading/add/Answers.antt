use Rattle.rg_io.proofs.Shelves.{told-append}
use Rattle.rg_io.proofs.reading.Reading.add.Goals as goal

pub returns-clause-ok : goal.returns-clause-ok
returns-clause-ok c = told-append _ _ _ _ _ c.self.invariant c.self.view_is c.in_ok-add.ensures.ok
