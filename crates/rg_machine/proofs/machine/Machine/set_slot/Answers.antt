use Rattle.std.proofs.Common.{◌≡◌, true, sym, subst}
use Rattle.rg_stack.specs.Needs.{may_keep}
use Rattle.rg_machine.specs.Parts.{Parts, machine_in, val_in}
use Rattle.rg_machine.specs.Stands.{Leads}
use Rattle.rg_machine.proofs.Write.Slot.{core-slot, lead-slot, slot-backs, stands-slot}
use Rattle.rg_machine.proofs.machine.Machine.set_slot.Goals as goal

pub invariant_of-self : goal.invariant_of-self
invariant_of-self c =
    let p = c.self.inside.heap in
    let v = c.self.inside.frames in
    let s = c.args.s in
    let w = c.args.w in
    rw c.set_word.ensures (
      stands-slot p v c.self.inside.at c.is_forest.ensures.serials c.is_forest.ensures.forest c.self.invariant.0 s w c.lie.ensures.bases
          (subst (λ (x : Parts). Leads x.heap x.frames w) (sym c.self.view_is) c.requires.leads)
          (subst (λ (x : Parts). may_keep (machine_in x) s (val_in x w) ≡ true) (sym c.self.view_is) c.requires.keeps),
      lead-slot p v s w c.self.inside.stack.items c.self.invariant.1,
    )

pub returns-clause-put : goal.returns-clause-put
returns-clause-put c =
    let x = c.self.inside in
    rw (c.set_word.ensures, ← c.self.view_is)
    (core-slot (record { heap = x.heap; frames = x.frames; words = x.stack.items; at = x.at; printed = x.printed }) c.args.s c.args.w)

pub returns-clause-backs : goal.returns-clause-backs
returns-clause-backs c =
    rw (c.set_word.ensures, ← c.self.view_is) (slot-backs c.self.inside.heap.cells.heap c.self.inside.frames c.args.s c.args.w)
