-- An element that is written where it is: what the write needs, and what stands behind it.
use Rattle.std.proofs.Common.{◌≡◌, ◌⊎◌, ◌<◌, ◌∷◌, [], ℕ, ◌∙◌, ap, refl, sym}
use Rattle.rg_base.specs.declared.value.Word.{Word}
use Rattle.rg_cells.specs.Table.{body_at, width, with_field}
use Rattle.rg_code.specs.declared.op.Op.TheVariants as i
use Rattle.rg_heap.specs.Parts.{Parts}
use Rattle.rg_heap.specs.Writes.{InActive, Stays}
use Rattle.rg_heap.specs.Ends.{IsTemp}
use Rattle.rg_stack.specs.Effects.{put_element, put_in}
use Rattle.rg_view.proofs.Callers.Instructions.{can-write}
use Rattle.rg_machine.specs.Among.{IsAmong}
use Rattle.rg_machine.specs.Core.{Has, with_machine}
use Rattle.rg_machine.specs.Cores.{core_of}
use Rattle.rg_machine.specs.Parts.{Parts as Whole, machine_in, val_in}
use Rattle.rg_machine.specs.Stands.{AllLead, Leads, Stands}
use Rattle.rg_machine.proofs.Indexed.{put-element, put-given}
use Rattle.rg_machine.proofs.Placed.{Located, among-at, place-at}
use Rattle.rg_machine.proofs.Write.Field.{Puts, core-written, lead-written, put-region, puts, stands-written, topmost, written}

-- what stands in front of a write
pub record MayPut (p : Whole) (r x w : Word) (slot n : ℕ) : Type 0 where
  pub located : Located p r x slot n
  pub leads : Leads p.heap p.frames w
  pub given : IsAmong (machine_in p) (val_in p r) (val_in p x)
      → Has i.PutElement (record (core_of p) { stack = val_in p w ∷ val_in p x ∷ val_in p r ∷ [] })

module _ (p : Whole) (r x w : Word) (slot n : ℕ) (m : MayPut p r x w slot n) (t : n < width (body_at p.heap.cells.heap slot)) where
  element-puts : Puts p slot n w
  element-puts =
      let l = m.located in
      puts p p refl slot n r w l.known.serials l.is l.leads
      (put-given (core_of p) (val_in p r) (val_in p x) (val_in p w) n (m.given (among-at p r x slot n l t)) (place-at p r x slot n l t))

  pub element-may : InActive p.heap.cells.heap p.heap.regions p.frames slot (λ n. Stays p.heap.cells.heap n w) ⊎ IsTemp p.heap.cells.heap slot
  element-may =
      let k = m.located.known in
      let a = element-puts in
      can-write p.heap p.frames p.at k.serials k.forest k.stands.opened slot a.body w a.there a.writable m.leads.held a.stand

  module _ (new : Parts) (heap : new.cells.heap ≡ with_field p.heap.cells.heap slot n w) (regions : new.regions ≡ p.heap.regions) where
    pub element-stands : Stands new p.frames × AllLead new p.frames p.words
    element-stands =
        let k = m.located.known in
        let a = element-puts in
        let f = written p.heap.cells.heap new.cells.heap slot n w a.body a.there heap in (
          stands-written p.heap new p.frames slot w f regions k.serials k.forest k.stands m.leads
              (put-region p slot n w k.serials k.forest k.stands m.leads a) (topmost p.heap p.frames p.at slot a.body k.stands a.there a.writable),
          lead-written p.heap new p.frames slot w f regions p.words k.lead,
        )

    pub element-core : core_of (record p { heap = new }) ≡ with_machine (core_of p) (record (machine_in p) {
      store = put_element (machine_in p).store (val_in p r) (val_in p x) (val_in p w);
    })
    element-core =
        let l = m.located in
        let a = element-puts in
        core-written p new slot n w a.body a.there heap regions l.known.serials
        ∙ ap (λ store. with_machine (core_of p) (record (machine_in p) { store = store }))
        (ap (λ y. put_in (machine_in p).store (val_in p y) n (val_in p w)) (sym l.is)
        ∙ put-element (machine_in p).store (val_in p r) (val_in p x) (val_in p w) n (place-at p r x slot n l t))
