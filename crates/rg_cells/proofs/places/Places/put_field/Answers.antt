use Rattle.std.proofs.Common.{◌∙◌, arith, ap, sym}
use Rattle.rg_cells.specs.declared.cell.Cell.{Cell}
use Rattle.rg_cells.specs.Inner.Layout.{index_in}
use Rattle.rg_cells.proofs.Held.{held-wide, list-within, same-read, has-few, has-beside, fielded-few, fielded-set}
use Rattle.rg_cells.proofs.places.Places.put_field.Goals as goal

pub put-requires : goal.put-requires
put-requires c =
    let s = c.self.inside in
    let held = held-wide c.args.self.now c.args.slot c.args.k c.requires in
    let same = same-read s.cells.items s.beside.items s.next c.args.slot c.args.self.now c.index.result.now c.index_mut.result.now c.self.view_is
    held c.index.ensures c.index_mut.ensures.value in
    let h = has-few s.cells.items s.beside.items s.next c.args.slot c.args.self.now c.index_mut.result.now c.self.view_is held
    c.index_mut.ensures.value (sym c.in_default.is ∙ c.beside.ensures ∙ ap (λ (z : Cell). index_in z.kinds z.words) same) in
    omega (arith, h.many, c.requires)

pub invariant_of-self : goal.invariant_of-self
invariant_of-self c =
    let s = c.self.inside in
    let held = held-wide c.args.self.now c.args.slot c.args.k c.requires in
    let same = same-read s.cells.items s.beside.items s.next c.args.slot c.args.self.now c.index.result.now c.index_mut.result.now c.self.view_is
    held c.index.ensures c.index_mut.ensures.value in
    let near = sym c.in_default.is ∙ c.beside.ensures ∙ ap (λ (z : Cell). index_in z.kinds z.words) same in
    let h = has-few s.cells.items s.beside.items s.next c.args.slot c.args.self.now c.index_mut.result.now c.self.view_is held
    c.index_mut.ensures.value near in
    let f = fielded-few s.cells.items s.beside.items s.next c.args.slot c.args.self.now c.index_mut.result.now c.put.new.self c.args.k c.args.w
    c.self.view_is held c.index_mut.ensures.value c.self.invariant.1 near (omega (arith, h.many, c.requires)) c.put.ensures in
    (f.free s.free s.vacant c.self.invariant.0, f.owned)

pub returns-in_default : goal.returns-in_default
returns-in_default c =
    let s = c.self.inside in
    let held = held-wide c.args.self.now c.args.slot c.args.k c.requires in
    let same = same-read s.cells.items s.beside.items s.next c.args.slot c.args.self.now c.index.result.now c.index_mut.result.now c.self.view_is
    held c.index.ensures c.index_mut.ensures.value in
    let near = sym c.in_default.is ∙ c.beside.ensures ∙ ap (λ (z : Cell). index_in z.kinds z.words) same in
    let h = has-few s.cells.items s.beside.items s.next c.args.slot c.args.self.now c.index_mut.result.now c.self.view_is held
    c.index_mut.ensures.value near in
    let f = fielded-few s.cells.items s.beside.items s.next c.args.slot c.args.self.now c.index_mut.result.now c.put.new.self c.args.k c.args.w
    c.self.view_is held c.index_mut.ensures.value c.self.invariant.1 near (omega (arith, h.many, c.requires)) c.put.ensures in
    f.shown

pub index_mut-requires-2 : goal.index_mut-requires-2
index_mut-requires-2 c =
    let s = c.self.inside in
    let l = list-within s.cells.items s.beside.items s.next c.args.slot c.args.self.now c.index.result.now c.in-Some.at c.self.view_is
    (held-wide c.args.self.now c.args.slot c.args.k c.requires) c.index.ensures c.self.invariant.1 c.in-Some.ensures in
    omega (arith, l, s.beside.ok.0)

pub set-requires : goal.set-requires
set-requires c =
    let s = c.self.inside in
    let h = has-beside s.cells.items s.beside.items s.next c.args.slot c.args.self.now c.index.result.now c.in-Some.at c.self.view_is
    (held-wide c.args.self.now c.args.slot c.args.k c.requires) c.index.ensures c.self.invariant.1 c.in-Some.ensures c.index_mut-2.result.now
    c.index_mut-2.ensures.value in
    omega (arith, h.many, c.requires)

pub invariant_of-self-2 : goal.invariant_of-self-2
invariant_of-self-2 c =
    let s = c.self.inside in
    let f = fielded-set s.cells.items s.beside.items s.next c.args.slot c.args.self.now c.index.result.now c.in-Some.at c.args.k c.args.w
    c.index_mut-2.result.now c.set.new.self c.self.view_is (held-wide c.args.self.now c.args.slot c.args.k c.requires) c.index.ensures
    c.self.invariant.1 c.in-Some.ensures c.index_mut-2.ensures.value c.set.ensures in
    (c.self.invariant.0, f.owned)

pub returns : goal.returns
returns c =
    let s = c.self.inside in
    let f = fielded-set s.cells.items s.beside.items s.next c.args.slot c.args.self.now c.index.result.now c.in-Some.at c.args.k c.args.w
    c.index_mut-2.result.now c.set.new.self c.self.view_is (held-wide c.args.self.now c.args.slot c.args.k c.requires) c.index.ensures
    c.self.invariant.1 c.in-Some.ensures c.index_mut-2.ensures.value c.set.ensures in
    f.shown
