use Rattle.std.proofs.Common.{◌≡◌, ◌∙◌, Option, Some, None, IfSome, arith}
use Rattle.rg_base.specs.declared.value.Word.{Word}
use Rattle.rg_cells.proofs.Held.{list-within, has-beside}
use Rattle.rg_cells.proofs.places.Places.element_beside.Goals as goal

if-some : (f q : Option Word) → f ≡ q → IfSome q (λ w. f ≡ Some w)
if-some f None e = tt
if-some f (Some w) e = e

pub index-requires : goal.index-requires
index-requires c =
    let s = c.self.inside in
    let l = list-within s.cells.items s.beside.items s.next c.args.slot c.args.self.now c.index-cell.result.now c.in-Some.at c.self.view_is
    c.requires c.index-cell.ensures c.self.invariant.1 c.in-Some.ensures in
    omega (arith, l, s.beside.ok.0)

pub returns : goal.returns
returns c =
    let s = c.self.inside in
    let h = has-beside s.cells.items s.beside.items s.next c.args.slot c.args.self.now c.index-cell.result.now c.in-Some.at c.self.view_is
    c.requires c.index-cell.ensures c.self.invariant.1 c.in-Some.ensures c.index.result.now c.index.ensures in
    if-some _ _ (h.at c.args.index ∙ c.element.ensures)
