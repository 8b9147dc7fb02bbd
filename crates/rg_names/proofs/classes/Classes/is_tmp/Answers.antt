use Rattle.std.proofs.Common.{ap}
use Rattle.rg_names.specs.Table.{Table}
use Rattle.rg_names.proofs.TypeFacts.{IsHeadsOf-table}
use Rattle.rg_names.proofs.Places.{class-is_tmp}
use Rattle.rg_names.proofs.classes.Classes.is_tmp.Goals as goal

pub returns-clause-tree : goal.returns-clause-tree
returns-clause-tree c program is =
    class-is_tmp program c.args.self.now.heads (IsHeadsOf-table program c.args.self.now is) c.args.class c.at.result
    (rw (ap (λ (v : Table). v.heads) c.self.view_is) at c.at.ensures)
