use Rattle.std.proofs.Common.{sym}
use Rattle.rg_names.proofs.ClassFound.{method_in-tree}
use Rattle.rg_names.proofs.classes.Classes.method.Goals as goal

pub returns-in-Some-Field-clause-tree : goal.returns-in-Some-Field-clause-tree
returns-in-Some-Field-clause-tree c program is l =
    rw (sym c.in-Some-Field.ensures, c.in-Some-Field.field-0-is) at (method_in-tree program c.args.self.now is c.args.class c.args.name c.requires l)

pub returns-in-Some-Method-clause-tree : goal.returns-in-Some-Method-clause-tree
returns-in-Some-Method-clause-tree c program is l =
    rw (sym c.in-Some-Method.ensures, c.in-Some-Method.field-0-is) at (method_in-tree program c.args.self.now is c.args.class c.args.name c.requires
    l)

pub returns-in-None-clause-tree : goal.returns-in-None-clause-tree
returns-in-None-clause-tree c program is l =
    rw (sym c.in-None.ensures) at (method_in-tree program c.args.self.now is c.args.class c.args.name c.requires l)
