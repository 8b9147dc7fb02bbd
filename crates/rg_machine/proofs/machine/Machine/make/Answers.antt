use Rattle.std.proofs.Common.{◌≡◌, ◌∷◌, ◌++◌, [], List, map, ap, subst, sym, ◌∙◌}
use Rattle.rg_base.specs.declared.object.Label.TheVariants.{Region}
use Rattle.rg_base.specs.declared.value.Word.{Word}
use Rattle.rg_base.specs.declared.value.Word.TheVariants.{Slot}
use Rattle.rg_stack.specs.Machine.{value_of_word}
use Rattle.rg_stack.specs.Tops.{top_region}
use Rattle.rg_view.specs.View.{machine_of, managers_of, windows_of}
use Rattle.rg_machine.specs.Core.{with_made}
use Rattle.rg_machine.specs.Parts.{Parts, machine_in}
use Rattle.rg_machine.specs.Cores.{core_of}
use Rattle.rg_machine.specs.Stands.{AllLead, Stands}
use Rattle.rg_machine.specs.contracts.machine.Machine.{the_view}
use Rattle.rg_machine.proofs.New.Cells.{nowhere}
use Rattle.rg_machine.proofs.New.Object.{Pushed, make-pushed}
use Rattle.rg_machine.proofs.New.Refused.{Refused, make-refused, on-err}
use Rattle.rg_machine.proofs.Callers.High.{one-active}
use Rattle.rg_machine.proofs.machine.Machine.make.Goals as goal

pub make-requires-clause-plain : goal.make-requires-clause-plain
make-requires-clause-plain c = nowhere c.args.words.now c.requires

refused : (c : goal.After-from_residual) → Refused c.self.inside.heap c.make.new.self c.self.inside.frames c.self.inside.stack.items
    c.self.inside.at
refused c = make-refused c.self.inside.heap c.make.new.self c.self.inside.frames c.self.inside.stack.items c.self.inside.at
    c.is_forest.ensures.forest c.is_forest.ensures.serials c.self.invariant.0 c.self.invariant.1 c.in_err-slot.ensures.cells
    c.in_err-slot.ensures.regions

pub invariant_of-self-in_err-slot : goal.invariant_of-self-in_err-slot
invariant_of-self-in_err-slot c =
    let r = refused c in
    subst (λ (ws : List Word). Stands c.make.new.self c.self.inside.frames × AllLead c.make.new.self c.self.inside.frames ws)
    (sym c.reserve.ensures.items) (r.stands, r.lead)

pub returns-in_err-slot-clause-err : goal.returns-in_err-slot-clause-err
returns-in_err-slot-clause-err c =
    on-err c.from_residual.result _ (subst (λ (m : Parts). machine_of c.make.new.self c.self.inside.frames c.self.inside.at ≡ machine_in m)
    c.self.view_is (refused c).machine)

pushed : (c : goal.After-push_reserved) → Pushed c.self.inside.heap c.make.new.self c.self.inside.frames c.self.inside.frames
    c.self.inside.stack.items c.in_ok-slot.slot c.args.class (Region (top_region (windows_of c.self.inside.heap.regions c.self.inside.frames)))
    c.args.words.now (managers_of c.self.inside.heap.regions) c.self.inside.at c.self.inside.printed
pushed c = make-pushed c.self.inside.heap c.make.new.self c.self.inside.frames c.self.inside.stack.items c.self.inside.at c.self.inside.printed
    c.in_ok-slot.slot c.args.class c.args.words.now c.is_forest.ensures.forest c.is_forest.ensures.serials c.self.invariant.0 c.self.invariant.1
    (nowhere c.args.words.now c.requires) c.in_ok-slot.ensures.cell c.in_ok-slot.ensures.member

items : (c : goal.After-push_reserved) → c.push_reserved.new.self.items ≡ c.self.inside.stack.items ++ Slot c.in_ok-slot.slot ∷ []
items c = c.push_reserved.ensures.items ∙ ap (λ (ws : List Word). ws ++ Slot c.in_ok-slot.slot ∷ []) c.reserve.ensures.items

pub invariant_of-self-2 : goal.invariant_of-self-2
invariant_of-self-2 c =
    let p = pushed c in
    subst (λ (ws : List Word). Stands c.make.new.self c.self.inside.frames × AllLead c.make.new.self c.self.inside.frames ws)
    (sym (items c)) (p.stands, p.lead)

pub returns-clause-ok : goal.returns-clause-ok
returns-clause-ok c =
    let made : List Word → Parts = λ ws. record (the_view c.self.inside) { heap = c.make.new.self; words = ws } in
    let P : Parts → Type 0 = λ m.
    core_of (made (c.self.inside.stack.items ++ Slot c.in_ok-slot.slot ∷ []))
    ≡ with_made (core_of m) c.args.class (map value_of_word c.args.words.now) (Region (top_region (windows_of m.heap.regions m.frames))) in
    ap (λ ws. core_of (made ws)) (items c) ∙ subst P c.self.view_is (pushed c).core

pub returns-clause-high : goal.returns-clause-high
returns-clause-high c =
    rw (← c.self.view_is)
    (one-active c.self.inside.heap c.make.new.self c.self.inside.frames c.self.invariant.0 c.in_ok-slot.slot c.args.class c.args.words.now
    c.in_ok-slot.ensures.cell)
