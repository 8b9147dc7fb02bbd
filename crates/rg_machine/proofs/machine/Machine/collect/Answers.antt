use Rattle.std.proofs.Common.{◌≡◌, [], sym, subst, true}
use Rattle.rg_stack.specs.Needs.{owned_once}
use Rattle.rg_machine.specs.Parts.{Parts, machine_in}
use Rattle.rg_machine.proofs.Collect.Effect.{asks-leads, asks-temps, collected-gathers, collected-high, collected-stands, none-lead}
use Rattle.rg_machine.proofs.machine.Machine.collect.Goals as goal

pub collect-told-requires-clause-temps : goal.collect-told-requires-clause-temps
collect-told-requires-clause-temps g c =
    let x = c.self.inside in asks-temps x.heap x.frames c.is_forest.ensures.forest c.self.invariant.0

pub collect-told-requires-clause-temps_lead : goal.collect-told-requires-clause-temps_lead
collect-told-requires-clause-temps_lead g c =
    let x = c.self.inside in asks-leads x.heap x.frames c.self.invariant.0

pub invariant_of-self : goal.invariant_of-self
invariant_of-self g c =
    let x = c.self.inside in
    let once = subst (λ (p : Parts). owned_once (machine_in p) ≡ true) (sym c.self.view_is) c.requires.once in
    let bare = subst (λ (p : Parts). p.words ≡ []) (sym c.self.view_is) c.requires.bare in (
      collected-stands x.heap c.collect-told.new.self x.frames x.at c.is_forest.ensures.serials c.is_forest.ensures.forest
          c.self.invariant.0 once _ c.collect-told.ensures.collects,
      none-lead c.collect-told.new.self x.frames x.stack.items bare,
    )

pub returns-clause-gathers : goal.returns-clause-gathers
returns-clause-gathers g c =
    let x = c.self.inside in
    let once = subst (λ (p : Parts). owned_once (machine_in p) ≡ true) (sym c.self.view_is) c.requires.once in
    rw (← c.self.view_is)
    (collected-gathers x.heap c.collect-told.new.self x.frames x.at c.is_forest.ensures.serials c.is_forest.ensures.forest
    c.self.invariant.0 once _ c.collect-told.ensures.collects c.is_forest-2.ensures.forest x.stack.items x.printed)

pub returns-clause-high : goal.returns-clause-high
returns-clause-high g c =
    let x = c.self.inside in
    let once = subst (λ (p : Parts). owned_once (machine_in p) ≡ true) (sym c.self.view_is) c.requires.once in
    rw (← c.self.view_is)
    (collected-high x.heap c.collect-told.new.self x.frames x.at c.is_forest.ensures.serials c.is_forest.ensures.forest c.self.invariant.0
    once _ c.collect-told.ensures.collects)
