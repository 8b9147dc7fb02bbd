use Rattle.std.proofs.Common.{◌≤◌, ◌<◌, ◌^◌, length, refl, ◌∙◌, sym, ap, subst, arith, rules}
use Rattle.rg_cells.specs.Table.{Serials}
use Rattle.rg_regions.specs.Grove.{Grove}
use Rattle.rg_machine.specs.Core.{work_of}
use Rattle.rg_machine.specs.Cores.{core_of}
use Rattle.rg_machine.specs.High.{NoneMade}
use Rattle.rg_machine.specs.Keeps.{backs}
use Rattle.rg_machine.specs.Parts.{Parts, machine_in, val_in}
use Rattle.rg_machine.specs.Stands.{Leads, Stands}
use Rattle.rg_machine.specs.contracts.machine.Machine.{the_view}
use Rattle.rg_machine.proofs.Callers.High.{none-then}
use Rattle.rg_machine.proofs.Collect.Effect.{none-lead}
use Rattle.rg_machine.proofs.Giving.Needs.{giving-leave}
use Rattle.rg_machine.proofs.Giving.Whole.{Leaving, given-alone, given-backs, given-can, given-effect, given-leave, given-nil, given-none, given-open, given-slot}
use Rattle.rg_machine.proofs.Giving.Whole.{given-stands}
use Rattle.rg_machine.proofs.Leave.Given.{leave-words}
use Rattle.rg_machine.proofs.machine.Machine.leave_giving.Goals as goal

pub end_beside-requires-clause-open : goal.end_beside-requires-clause-open
end_beside-requires-clause-open c =
    given-open c.args.self.now c.args.given c.args.s c.slot-w.result c.in-Slot.field-0 c.requires.given
    (subst (λ (x : Parts). Stands x.heap x.frames) c.self.view_is c.self.invariant.0) c.in-Slot.is c.slot-w.ensures.leads c.slot-w.ensures.value

pub leave_giving-requires-clause-temps : goal.leave_giving-requires-clause-temps
leave_giving-requires-clause-temps c =
    given-leave c.args.self.now (the_view c.self-2.inside) c.args.given c.args.s c.slot-w.result (record {
      serials_before = subst (λ (x : Parts). Serials x.heap.cells.heap) c.self.view_is c.is_forest.ensures.serials;
      forest_before = subst (λ (x : Parts). Grove x.heap.cells x.heap.regions) c.self.view_is c.is_forest.ensures.forest;
      stands_before = subst (λ (x : Parts). Stands x.heap x.frames) c.self.view_is c.self.invariant.0;
      given = c.requires.given;
      ends = ap core_of c.self-2.view_is ∙ c.in-Ok.ensures.ended;
      to = c.in-Slot.field-0;
      is = c.in-Slot.is;
      leads = subst (λ (x : Parts). Leads x.heap x.frames c.slot-w.result) (sym c.self-2.view_is) c.in-Ok.ensures.leads;
      value =
          ap (λ (x : Parts). val_in x c.slot-w.result) c.self-2.view_is ∙ c.in-Ok.ensures.value ∙ c.slot-w.ensures.value;
      serials = c.is_forest-2.ensures.serials;
      forest = c.is_forest-2.ensures.forest;
      stands = c.self-2.invariant.0;
    }) c.lie.ensures.marks (omega (arith, c.if-open_count-ge2.true, c.open_count.ensures))

pub leave_giving-requires-clause-given : goal.leave_giving-requires-clause-given
leave_giving-requires-clause-given c =
    given-can c.args.self.now (the_view c.self-2.inside) c.args.given c.args.s c.slot-w.result (record {
      serials_before = subst (λ (x : Parts). Serials x.heap.cells.heap) c.self.view_is c.is_forest.ensures.serials;
      forest_before = subst (λ (x : Parts). Grove x.heap.cells x.heap.regions) c.self.view_is c.is_forest.ensures.forest;
      stands_before = subst (λ (x : Parts). Stands x.heap x.frames) c.self.view_is c.self.invariant.0;
      given = c.requires.given;
      ends = ap core_of c.self-2.view_is ∙ c.in-Ok.ensures.ended;
      to = c.in-Slot.field-0;
      is = c.in-Slot.is;
      leads = subst (λ (x : Parts). Leads x.heap x.frames c.slot-w.result) (sym c.self-2.view_is) c.in-Ok.ensures.leads;
      value =
          ap (λ (x : Parts). val_in x c.slot-w.result) c.self-2.view_is ∙ c.in-Ok.ensures.value ∙ c.slot-w.ensures.value;
      serials = c.is_forest-2.ensures.serials;
      forest = c.is_forest-2.ensures.forest;
      stands = c.self-2.invariant.0;
    }) c.lie.ensures.marks (omega (arith, c.if-open_count-ge2.true, c.open_count.ensures))

-- what is known behind the heap's call
leaving : (c : goal.After-is_forest-then-open_count-ge2) → Leaving c.args.self.now (the_view c.self-2.inside) c.args.given c.args.s c.slot-w.result
leaving c = record {
  serials_before = subst (λ (x : Parts). Serials x.heap.cells.heap) c.self.view_is c.is_forest.ensures.serials;
  forest_before = subst (λ (x : Parts). Grove x.heap.cells x.heap.regions) c.self.view_is c.is_forest.ensures.forest;
  stands_before = subst (λ (x : Parts). Stands x.heap x.frames) c.self.view_is c.self.invariant.0;
  given = c.requires.given;
  ends = ap core_of c.self-2.view_is ∙ c.in-Ok.ensures.ended;
  to = c.in-Slot.field-0;
  is = c.in-Slot.is;
  leads = subst (λ (x : Parts). Leads x.heap x.frames c.slot-w.result) (sym c.self-2.view_is) c.in-Ok.ensures.leads;
  value = ap (λ (x : Parts). val_in x c.slot-w.result) c.self-2.view_is ∙ c.in-Ok.ensures.value ∙ c.slot-w.ensures.value;
  serials = c.is_forest-2.ensures.serials;
  forest = c.is_forest-2.ensures.forest;
  stands = c.self-2.invariant.0;
}

pub invariant_of-self : goal.invariant_of-self
invariant_of-self c =
    let old = c.args.self.now in
    let mid = the_view c.self-2.inside in
    let new : Parts = record mid { heap = c.leave_giving.new.self; frames = c.leave_giving.new.frames } in
    let l = leaving c in
    let two : 2 ≤ length mid.frames.windows = omega (arith, c.if-open_count-ge2.true, c.open_count.ensures) in
    let words = ap (λ (x : Parts). x.words) c.self-2.view_is ∙ c.end_beside.ensures.words in (
      given-stands old mid c.args.given c.args.s c.slot-w.result l c.lie.ensures.marks two
          (omega (arith, c.next_number.type_inv, c.next_number.ensures)) new
          (c.leave_giving.ensures.gives _ (given-slot old mid c.args.given c.args.s c.slot-w.result l c.lie.ensures.marks two)),
      none-lead c.leave_giving.new.self c.leave_giving.new.frames mid.words
          (words ∙ leave-words old c.args.s (giving-leave (core_of old) c.args.given c.args.s c.requires.given)),
    )

pub returns-then-open_count-ge2 : goal.returns-then-open_count-ge2
returns-then-open_count-ge2 c at =
    let old = c.args.self.now in
    let mid = the_view c.self-2.inside in
    let new : Parts = record mid { heap = c.leave_giving.new.self; frames = c.leave_giving.new.frames } in
    let l = leaving c in
    let two : 2 ≤ length mid.frames.windows = omega (arith, c.if-open_count-ge2.true, c.open_count.ensures) in
    let fits : mid.frames.next < 2 ^ 64 = omega (arith, c.next_number.type_inv, c.next_number.ensures) in
    let gives = c.leave_giving.ensures.gives _ (given-slot old mid c.args.given c.args.s c.slot-w.result l c.lie.ensures.marks two) in
    record {
      effect = given-effect old mid c.args.given c.args.s c.slot-w.result l c.lie.ensures.marks two fits new gives refl refl refl at;
      keeps =
          given-backs old mid c.args.given c.args.s c.slot-w.result l c.lie.ensures.marks two fits new gives
          ∙ ap (λ (x : Parts). backs (machine_in x).frames) c.self-2.view_is ∙ c.end_beside.ensures.backs;
      high =
          none-then old.heap c.end_beside.new.self.heap new.heap c.end_beside.ensures.high
          (subst (λ (x : Parts). NoneMade x.heap new.heap) c.self-2.view_is
          (given-none old mid c.args.given c.args.s c.slot-w.result l c.lie.ensures.marks two fits new gives));
    }

pub returns-else-open_count-ge2 : goal.returns-else-open_count-ge2
returns-else-open_count-ge2 c at =
    let old = c.args.self.now in
    let mid = the_view c.self-2.inside in
    let few : length mid.frames.windows < 2 = omega (arith, c.if-open_count-ge2.false, c.open_count.ensures) in
    record {
      effect = λ go input.
          given-alone old mid c.args.given c.args.s c.slot-w.result (record {
            serials_before = subst (λ (x : Parts). Serials x.heap.cells.heap) c.self.view_is c.is_forest.ensures.serials;
            forest_before = subst (λ (x : Parts). Grove x.heap.cells x.heap.regions) c.self.view_is c.is_forest.ensures.forest;
            stands_before = subst (λ (x : Parts). Stands x.heap x.frames) c.self.view_is c.self.invariant.0;
            given = c.requires.given;
            ends = ap core_of c.self-2.view_is ∙ c.in-Ok.ensures.ended;
            to = c.in-Slot.field-0;
            is = c.in-Slot.is;
            leads = subst (λ (x : Parts). Leads x.heap x.frames c.slot-w.result) (sym c.self-2.view_is) c.in-Ok.ensures.leads;
            value =
                ap (λ (x : Parts). val_in x c.slot-w.result) c.self-2.view_is ∙ c.in-Ok.ensures.value ∙ c.slot-w.ensures.value;
            serials = c.is_forest-2.ensures.serials;
            forest = c.is_forest-2.ensures.forest;
            stands = c.self-2.invariant.0;
          }) few at go input
          ∙ ap (λ (x : Parts). go 0 (core_of x).stack (work_of (core_of x) input)) c.self-2.view_is;
      keeps = search rules;
      high = search rules;
    }

pub returns-in_default : goal.returns-in_default
returns-in_default c at =
    record {
      effect = given-nil c.args.self.now c.args.given c.args.s c.slot-w.result c.in_default.not-Slot c.slot-w.ensures.value at;
      keeps = search rules;
      high = search rules;
    }
