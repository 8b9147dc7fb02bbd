use Rattle.std.proofs.Common.{◌∙◌}
use Rattle.rg_names.proofs.ElementFound.{element_in-tree, element_in-known}
use Rattle.rg_names.proofs.classes.Classes.element.Goals as goal

pub returns-clause-tree : goal.returns-clause-tree
returns-clause-tree c program is = c.elements_of.ensures ∙ element_in-tree program c.args.self.now is c.args.class c.requires

pub returns-clause-known : goal.returns-clause-known
returns-clause-known c program is = rw c.elements_of.ensures (element_in-known program c.args.self.now is c.args.class c.requires)
