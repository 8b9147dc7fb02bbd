use Rattle.std.proofs.Common.{List, IfSome, IfNone, subst}
use Rattle.rg_cells.specs.declared.cell.Cell.{Cell}
use Rattle.rg_cells.specs.Inner.Places.{ServesSerial, ServesNone}
use Rattle.rg_cells.proofs.Finding.{find-some, find-none}
use Rattle.rg_cells.proofs.places.Places.find.Goals as goal

pub returns-clause-some : goal.returns-clause-some
returns-clause-some c =
    let P : List Cell → Type 0 = λ xs. IfSome c.find.result (λ slot. ServesSerial xs slot c.args.serial) in
    find-some c.self.inside.cells.items c.self.inside.beside.items c.self.inside.next c.args.serial c.args.self.now c.find.result
    c.self.view_is (subst P c.deref.ensures.value c.find.ensures.some)

pub returns-clause-none : goal.returns-clause-none
returns-clause-none c =
    let P : List Cell → Type 0 = λ xs. IfNone c.find.result (ServesNone xs c.args.serial) in
    find-none c.self.inside.cells.items c.self.inside.beside.items c.self.inside.next c.args.serial c.args.self.now c.find.result
    c.self.view_is (subst P c.deref.ensures.value c.find.ensures.none)
