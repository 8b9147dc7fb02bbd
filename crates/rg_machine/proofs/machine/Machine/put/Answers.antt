use Rattle.std.proofs.Common.{sym, subst}
use Rattle.rg_view.proofs.Callers.Instructions.{can-write}
use Rattle.rg_view.proofs.Callers.Read.{field-within}
use Rattle.rg_machine.specs.Parts.{Parts}
use Rattle.rg_machine.specs.Stands.{Leads}
use Rattle.rg_machine.proofs.Write.Field.{core-written, lead-written, put-region, puts, stands-written, topmost, written}
use Rattle.rg_machine.proofs.Callers.High.{none-written}
use Rattle.rg_machine.proofs.machine.Machine.put.Goals as goal

pub write-requires-clause-width : goal.write-requires-clause-width
write-requires-clause-width c =
    let x = c.self.inside in
    let s = c.in-Slot.slot in
    let q = c.is_forest.ensures.serials in
    let a = puts _ _ c.self.view_is s c.args.index c.args.r c.args.w q c.in-Slot.is c.requires.object c.requires.given in
    field-within x.heap x.frames x.at s c.args.index a.body q a.there a.within

pub write-requires-clause-place : goal.write-requires-clause-place
write-requires-clause-place c =
    let x = c.self.inside in
    let s = c.in-Slot.slot in
    let w = c.args.w in
    let q = c.is_forest.ensures.serials in
    let a = puts _ _ c.self.view_is s c.args.index c.args.r w q c.in-Slot.is c.requires.object c.requires.given in
    let l = subst (λ (y : Parts). Leads y.heap y.frames w) (sym c.self.view_is) c.requires.leads in
    can-write x.heap x.frames x.at q c.is_forest.ensures.forest c.self.invariant.0.opened s a.body w a.there a.writable l.held a.stand

pub invariant_of-self : goal.invariant_of-self
invariant_of-self c =
    let x = c.self.inside in
    let s = c.in-Slot.slot in
    let w = c.args.w in
    let q = c.is_forest.ensures.serials in
    let g = c.is_forest.ensures.forest in
    let h = c.self.invariant.0 in
    let a = puts _ _ c.self.view_is s c.args.index c.args.r w q c.in-Slot.is c.requires.object c.requires.given in
    let l = subst (λ (y : Parts). Leads y.heap y.frames w) (sym c.self.view_is) c.requires.leads in
    let t = written x.heap.cells.heap c.write.new.self.cells.heap s c.args.index w a.body a.there c.write.ensures.heap in
    let y : Parts = record { heap = x.heap; frames = x.frames; words = x.stack.items; at = x.at; printed = x.printed } in (
      stands-written x.heap c.write.new.self x.frames s w t c.write.ensures.regions q g h l (put-region y s c.args.index w q g h l a)
          (topmost x.heap x.frames x.at s a.body h a.there a.writable),
      lead-written x.heap c.write.new.self x.frames s w t c.write.ensures.regions x.stack.items c.self.invariant.1,
    )

pub returns : goal.returns
returns c =
    let x = c.self.inside in
    let s = c.in-Slot.slot in
    let q = c.is_forest.ensures.serials in
    let a = puts _ _ c.self.view_is s c.args.index c.args.r c.args.w q c.in-Slot.is c.requires.object c.requires.given in
    let y : Parts = record { heap = x.heap; frames = x.frames; words = x.stack.items; at = x.at; printed = x.printed } in
    rw (← c.self.view_is, c.in-Slot.is)
    (record {
      put = core-written y c.write.new.self s c.args.index c.args.w a.body a.there c.write.ensures.heap c.write.ensures.regions q;
      high = none-written x.heap c.write.new.self s c.args.index c.args.w c.write.ensures.heap;
    })
