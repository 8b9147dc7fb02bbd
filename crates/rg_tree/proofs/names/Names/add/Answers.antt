use Rattle.std.proofs.Common.{rules}
use Rattle.rg_tree.proofs.Name.{slice_get-number_of}
use Rattle.rg_tree.proofs.names.Names.add.Goals as goal

pub returns-in-Some-clause-stored : goal.returns-in-Some-clause-stored
returns-in-Some-clause-stored c = slice_get-number_of c.args.self.now c.args.bytes.now c.in-Some.number (search rules)
