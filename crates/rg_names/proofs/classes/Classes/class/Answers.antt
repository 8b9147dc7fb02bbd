use Rattle.std.proofs.Common.{ap}
use Rattle.rg_names.specs.Table.{Table}
use Rattle.rg_names.proofs.TypeFacts.{IsHeadsOf-table}
use Rattle.rg_names.proofs.Places.{class-place}
use Rattle.rg_names.proofs.classes.Classes.class.Goals as goal

pub returns-clause-tree : goal.returns-clause-tree
returns-clause-tree c program is l =
    rw (c.place.ensures.place, ap (λ (v : Table). v.heads) c.self.view_is)
    (class-place program c.args.self.now.heads (IsHeadsOf-table program c.args.self.now is) c.args.name l)
