use Rattle.std.proofs.Common.{◌≡◌, ◌∙◌, ◌+◌, sym, ap, subst}
use Rattle.rg_stack.specs.Machine.{slot_at}
use Rattle.rg_machine.specs.Parts.{Parts, val_in, machine_in}
use Rattle.rg_machine.specs.Stands.{Leads}
use Rattle.rg_machine.proofs.Call.Top.{slot-any}
use Rattle.rg_machine.proofs.Callers.Word.{slot-leads}
use Rattle.rg_machine.proofs.machine.Machine.near.Goals as goal

pub returns-clause-value : goal.returns-clause-value
returns-clause-value c =
    let m = c.self.inside in
    let P : Parts → Type 0 = λ n. val_in n c.near.result ≡ slot_at (machine_in n) c.args.s in
    subst P c.self.view_is (ap (val_in (record {
      heap = m.heap;
      frames = m.frames;
      words = m.stack.items;
      at = m.at;
      printed = m.printed;
    })) c.near.ensures
    ∙ slot-any m.heap m.frames m.at c.args.s c.self.invariant.0.lain)

pub returns-clause-leads : goal.returns-clause-leads
returns-clause-leads c =
    let m = c.self.inside in
    let P : Parts → Type 0 = λ n. Leads n.heap n.frames c.near.result in
    subst P c.self.view_is (subst (Leads m.heap m.frames) (sym c.near.ensures)
    (slot-leads m.heap m.frames (m.frames.first + c.args.s) c.is_forest.ensures.forest c.self.invariant.0))

pub near-requires : goal.near-requires
near-requires c = c.self.invariant.0.some
