use Rattle.std.proofs.Common.{sym, subst}
use Rattle.rg_heap.specs.Reads.{CanRead, Reads}
use Rattle.rg_machine.specs.Parts.{Parts}
use Rattle.rg_machine.proofs.Callers.Word.{Known, word-reads, word-shown, word-leads}
use Rattle.rg_machine.proofs.machine.Machine.field.Goals as goal

-- what is known of the machine at a word that leads to a slot
known : (c : goal.In-Slot) → Known c.args.self.now
known c = subst Known c.self.view_is (record {
  forest = c.is_forest.ensures.forest;
  serials = c.is_forest.ensures.serials;
  stands = c.self.invariant.0;
  lead = c.self.invariant.1;
})

read-known : (c : goal.After-read) → Known c.args.self.now
read-known c = subst Known c.self.view_is (record {
  forest = c.is_forest.ensures.forest;
  serials = c.is_forest.ensures.serials;
  stands = c.self.invariant.0;
  lead = c.self.invariant.1;
})

read : (c : goal.After-read) → Reads c.args.self.now.heap.cells.heap c.args.r c.args.index c.read.result
read c =
    let P : Parts → Type 0 = λ n. Reads n.heap.cells.heap c.args.r c.args.index c.read.result in
    subst P c.self.view_is c.read.ensures

pub read-requires : goal.read-requires
read-requires c =
    let P : Parts → Type 0 = λ n. CanRead n.heap.cells.heap c.args.r c.args.index in
    subst P (sym c.self.view_is)
    (word-reads c.args.self.now c.args.r c.in-Slot.field-0 c.args.index c.in-Slot.is (known c) c.requires.leads c.requires.there)

pub returns-in-Slot-clause-ok : goal.returns-in-Slot-clause-ok
returns-in-Slot-clause-ok c =
    word-shown c.args.self.now c.args.r c.in-Slot.field-0 c.args.index c.read.result c.in-Slot.is (read-known c) c.requires.leads (read c)

pub returns-in-Slot-clause-leads : goal.returns-in-Slot-clause-leads
returns-in-Slot-clause-leads c =
    word-leads c.args.self.now c.args.r c.in-Slot.field-0 c.args.index c.read.result c.in-Slot.is (read-known c) c.requires.leads
    c.requires.there (read c)
