use Rattle.std.proofs.Common.{◌<◌, length, refl}
use Rattle.std.proofs.lemmas.List.Elements.{All-nil}
use Rattle.rg_tree.proofs.program.Program.members_of.Goals as goal

pub returns-in-None-clause-tree : goal.returns-in-None-clause-tree
returns-in-None-clause-tree c = rw (c.order.ensures, c.in-None.is) refl

pub returns-in-None-clause-below : goal.returns-in-None-clause-below
returns-in-None-clause-below c = rw c.order.ensures c.requires.members.each

pub returns-in-Some-clause-tree : goal.returns-in-Some-clause-tree
returns-in-Some-clause-tree c = rw c.in-Some.is refl

pub returns-in-Some-clause-below : goal.returns-in-Some-clause-below
returns-in-Some-clause-below c = All-nil (λ k. k < length c.args.self.now.members)
