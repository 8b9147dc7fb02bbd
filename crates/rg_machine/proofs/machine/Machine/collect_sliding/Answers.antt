use Rattle.std.proofs.Common.{◌≡◌, [], sym, subst, true}
use Rattle.rg_stack.specs.Needs.{owned_once}
use Rattle.rg_machine.specs.Parts.{Parts, machine_in}
use Rattle.rg_machine.proofs.Collect.Effect.{asks-leads, asks-temps, none-lead}
use Rattle.rg_machine.proofs.Collect.Sliding.{sliding-gathers, sliding-high, sliding-stands}
use Rattle.rg_machine.proofs.machine.Machine.collect_sliding.Goals as goal

pub collect_sliding-told-requires-clause-temps : goal.collect_sliding-told-requires-clause-temps
collect_sliding-told-requires-clause-temps g c =
    let x = c.self.inside in asks-temps x.heap x.frames c.is_forest.ensures.forest c.self.invariant.0

pub collect_sliding-told-requires-clause-temps_lead : goal.collect_sliding-told-requires-clause-temps_lead
collect_sliding-told-requires-clause-temps_lead g c =
    let x = c.self.inside in asks-leads x.heap x.frames c.self.invariant.0

pub invariant_of-self : goal.invariant_of-self
invariant_of-self g c =
    let x = c.self.inside in
    let y = c.collect_sliding-told.new in
    let once = subst (λ (p : Parts). owned_once (machine_in p) ≡ true) (sym c.self.view_is) c.requires.once in
    let bare = subst (λ (p : Parts). p.words ≡ []) (sym c.self.view_is) c.requires.bare in (
      sliding-stands x.heap y.self x.frames y.frames x.at c.is_forest.ensures.serials c.is_forest.ensures.forest c.self.invariant.0 once
          c.is_forest-2.ensures.serials c.is_forest-2.ensures.forest _ c.collect_sliding-told.ensures.slides,
      none-lead y.self y.frames x.stack.items bare,
    )

pub returns-clause-gathers : goal.returns-clause-gathers
returns-clause-gathers g c =
    let x = c.self.inside in
    let y = c.collect_sliding-told.new in
    let once = subst (λ (p : Parts). owned_once (machine_in p) ≡ true) (sym c.self.view_is) c.requires.once in
    rw (← c.self.view_is)
    (sliding-gathers x.heap y.self x.frames y.frames x.at c.is_forest.ensures.serials c.is_forest.ensures.forest c.self.invariant.0 once
    c.is_forest-2.ensures.serials c.is_forest-2.ensures.forest _ c.collect_sliding-told.ensures.slides x.stack.items x.printed)

pub returns-clause-high : goal.returns-clause-high
returns-clause-high g c =
    let x = c.self.inside in
    let y = c.collect_sliding-told.new in
    let once = subst (λ (p : Parts). owned_once (machine_in p) ≡ true) (sym c.self.view_is) c.requires.once in
    rw (← c.self.view_is)
    (sliding-high x.heap y.self x.frames y.frames x.at c.is_forest.ensures.serials c.is_forest.ensures.forest c.self.invariant.0 once
    c.is_forest-2.ensures.serials c.is_forest-2.ensures.forest _ c.collect_sliding-told.ensures.slides)
