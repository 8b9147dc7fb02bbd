use Rattle.std.proofs.Common.{◌≡◌, [], List, None, ap, subst, sym, ◌∙◌, is_some, count_by}
use Rattle.std.proofs.lemmas.Option.{none-some}
use Rattle.rg_base.specs.declared.value.Word.{Word}
use Rattle.rg_frames.specs.Stack.{Stack}
use Rattle.rg_cells.specs.Table.{Table}
use Rattle.rg_stack.specs.Machine.{Machine}
use Rattle.rg_view.specs.View.{machine_of, values_of}
use Rattle.rg_machine.specs.Core.{Core}
use Rattle.rg_machine.specs.Stands.{AllLead, Stands}
use Rattle.rg_machine.proofs.Begin.{begin-machine, begin-stands, first-stack}
use Rattle.rg_machine.proofs.machine.Machine.begin.Goals as goal

no-slots : (c : goal.After-new-2) → c.begin.new.self.cells.heap.slots ≡ []
no-slots c = ap (λ (t : Table). t.heap.slots) c.in_ok-key.ensures.cells ∙ c.new-heap.ensures.slots

no-serials : (c : goal.After-new-2) → c.begin.new.self.cells.heap.next ≡ 0
no-serials c = ap (λ (t : Table). t.heap.next) c.in_ok-key.ensures.cells ∙ c.new-heap.ensures.serials

stands : (c : goal.After-new-2) → Stands c.begin.new.self c.begin-2.new.self
stands c = subst (λ (v : Stack). Stands c.begin.new.self v) (sym c.in_ok-begin.ensures.ok)
    (begin-stands c.begin.new.self c.new-heap.result.regions c.in_ok-key.key c.args.slots c.begin-2.new.self.frame_room c.begin-2.new.self.slot_room
    c.args.manager (no-slots c) (no-serials c) c.new-heap.ensures.records c.new-heap.ensures.numbers c.in_ok-key.ensures.added)

pub invariant_of-result : goal.invariant_of-result
invariant_of-result c =
    (stands c, subst (AllLead c.begin.new.self c.begin-2.new.self) (sym c.new.ensures.items) (λ k w e. absurd (none-some w e)))

pub returns-clause-high : goal.returns-clause-high
returns-clause-high c = ap (count_by is_some) (no-slots c)

pub returns-clause-core : goal.returns-clause-core
returns-clause-core c =
    let shown : Machine → List Word → Core = λ m ws. record { machine = m; stack = values_of c.begin.new.self.cells.heap ws; printed = None } in
    let v = first-stack c.in_ok-key.key c.args.slots c.begin-2.new.self.frame_room c.begin-2.new.self.slot_room in
    ap (λ (v : Stack). shown (machine_of c.begin.new.self v 0) c.new.result.items) c.in_ok-begin.ensures.ok
    ∙ ap (shown (machine_of c.begin.new.self v 0)) c.new.ensures.items
    ∙ ap (λ m. shown m [])
    (begin-machine c.begin.new.self c.new-heap.result.regions c.in_ok-key.key c.args.slots c.begin-2.new.self.frame_room c.begin-2.new.self.slot_room
    c.args.manager (no-slots c) (no-serials c) c.new-heap.ensures.records c.new-heap.ensures.numbers c.in_ok-key.ensures.added)
