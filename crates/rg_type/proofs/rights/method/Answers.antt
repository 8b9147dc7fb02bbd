use Rattle.std.proofs.Common.{refl, sym}
use Rattle.rg_tree.specs.Rows.RowTrees.{classes_of}
use Rattle.rg_type.proofs.RightSteps.{LeadsAs-class, SigAs-found}
use Rattle.rg_type.proofs.rights.method.Goals as goal

pub method-requires-clause-class : goal.method-requires-clause-class
method-requires-clause-class c =
    LeadsAs-class (classes_of c.args.book.now.program) c.args.receiver c.in_ok-followed.followed.class c.requires.receiver
    (_, sym c.in_ok-followed.ensures.judged, refl)

pub returns : goal.returns
returns c =
    SigAs-found c.args.book.now.program c.in_ok-followed.followed.class c.args.name c.in-Some.sig c.in-Some.ensures.method
    c.in-Some.ensures.params c.args.receiver (_, sym c.in_ok-followed.ensures.judged, refl) (sym c.if-not-below.ensures)
