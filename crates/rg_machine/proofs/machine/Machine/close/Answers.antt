use Rattle.std.proofs.Common.{◌≡◌, ◌<◌, length, refl, ◌∙◌, sym, ap, subst, arith, rules}
use Rattle.rg_code.specs.Code.{empty}
use Rattle.rg_code.specs.declared.op.Op.TheVariants as i
use Rattle.rg_frames.specs.Layers.{layers}
use Rattle.rg_held.specs.Frees.{free_act}
use Rattle.rg_machine.specs.Core.{work_of}
use Rattle.rg_machine.specs.High.{NoneMade}
use Rattle.rg_machine.specs.Keeps.{backs}
use Rattle.rg_machine.specs.Parts.{Parts, machine_in}
use Rattle.rg_machine.specs.Cores.{core_of}
use Rattle.rg_machine.specs.Stands.{Stands}
use Rattle.rg_machine.specs.contracts.machine.Machine.{the_view}
use Rattle.rg_machine.proofs.Leave.Given.{backs-same, leave-alone, leave-words, mid-effect, mid-ended, mid-given, mid-may-leave, mid-stands}
use Rattle.rg_machine.proofs.Callers.High.{none-released, none-then}
use Rattle.rg_machine.proofs.machine.Machine.close.Goals as goal
use Rattle.rg_machine.proofs.Collect.Effect.{none-lead}

pub leave-requires-clause-temps : goal.leave-requires-clause-temps
leave-requires-clause-temps c =
    mid-may-leave (the_view c.self.inside) _ (the_view c.self-2.inside) _ c.args.s c.self.view_is c.self-2.view_is c.end_from.ensures.ended
    c.requires.given c.is_forest-then-open_count-ge2.ensures.serials c.is_forest-then-open_count-ge2.ensures.forest c.self-2.invariant.0
    (omega (arith, c.if-open_count-ge2.true, c.open_count.ensures)) c.lie.ensures.marks

pub invariant_of-self : goal.invariant_of-self
invariant_of-self c =
    let p = the_view c.self.inside in
    let mid = the_view c.self-2.inside in
    let new : Parts = record mid { heap = c.leave.new.self; frames = c.leave.new.frames } in
    let given = mid-given p _ mid _ c.args.s c.self.view_is c.self-2.view_is c.end_from.ensures.ended c.requires.given in
    let words = ap (λ (x : Parts). x.words) c.self-2.view_is ∙ c.end_from.ensures.words ∙ ap (λ (x : Parts). x.words) (sym c.self.view_is) in (
      subst (Stands c.leave.new.self) (sym c.leave.ensures.window)
          (mid-stands p _ mid _ c.args.s c.self.view_is c.self-2.view_is c.end_from.ensures.ended c.requires.given
          c.is_forest-then-open_count-ge2.ensures.serials c.is_forest-then-open_count-ge2.ensures.forest c.self-2.invariant.0
          (omega (arith, c.if-open_count-ge2.true, c.open_count.ensures)) c.lie.ensures.marks
          (omega (arith, c.next_number.type_inv, c.next_number.ensures)) c.is_forest.ensures.serials c.is_forest.ensures.forest c.self.invariant.0
          new c.is_forest-then-open_count-ge2-2.ensures.forest c.leave.ensures.released),
      none-lead c.leave.new.self c.leave.new.frames mid.words (words ∙ leave-words p c.args.s given),
    )

pub returns-then-open_count-ge2-clause-does : goal.returns-then-open_count-ge2-clause-does
returns-then-open_count-ge2-clause-does c at =
    let p = the_view c.self.inside in
    let mid = the_view c.self-2.inside in
    let new : Parts = record mid { heap = c.leave.new.self; frames = c.leave.new.frames } in
    record {
      effect = λ go input.
          subst (λ (x : Parts). free_act empty at (i.Leave c.args.s) go (core_of x).stack (work_of (core_of x) input)
          ≡ go 0 (core_of new).stack (work_of (core_of new) input)) c.self.view_is
          (mid-effect p _ mid _ c.args.s c.self.view_is c.self-2.view_is c.end_from.ensures.ended c.requires.given
          c.is_forest-then-open_count-ge2.ensures.serials c.is_forest-then-open_count-ge2.ensures.forest c.self-2.invariant.0
          (omega (arith, c.if-open_count-ge2.true, c.open_count.ensures)) c.lie.ensures.marks
          (omega (arith, c.next_number.type_inv, c.next_number.ensures)) c.is_forest.ensures.serials c.is_forest.ensures.forest c.self.invariant.0
          new c.is_forest-then-open_count-ge2-2.ensures.forest c.leave.ensures.released c.leave.ensures.window refl refl refl at go input);
      keeps =
          backs-same mid.heap.cells.heap c.leave.new.self.cells.heap mid.frames c.leave.new.frames (ap layers c.leave.ensures.window)
          ∙ ap (λ (x : Parts). backs (machine_in x).frames) c.self-2.view_is ∙ c.end_from.ensures.backs;
      high =
          none-then c.args.self.now.heap c.end_from.new.self.heap new.heap c.end_from.ensures.high
          (subst (λ (x : Parts). NoneMade x.heap new.heap) c.self-2.view_is (none-released mid.heap new.heap _ _ c.leave.ensures.released));
    }

pub returns-else-open_count-ge2-clause-does : goal.returns-else-open_count-ge2-clause-does
returns-else-open_count-ge2-clause-does c at =
    let p = the_view c.self.inside in
    let mid = the_view c.self-2.inside in
    let e = mid-ended p _ mid _ c.args.s c.self.view_is c.self-2.view_is c.end_from.ensures.ended c.requires.given in
    let few : length mid.frames.windows < 2 = omega (arith, c.if-open_count-ge2.false, c.open_count.ensures) in
    record {
      effect = λ go input.
          subst (λ (x : Parts). free_act empty at (i.Leave c.args.s) go (core_of c.args.self.now).stack (work_of (core_of c.args.self.now) input)
          ≡ go 0 (core_of x).stack (work_of (core_of x) input)) c.self-2.view_is
          (subst (λ (x : Parts). free_act empty at (i.Leave c.args.s) go (core_of x).stack (work_of (core_of x) input)
          ≡ go 0 (core_of mid).stack (work_of (core_of mid) input)) c.self.view_is (leave-alone p mid c.args.s e few at go input));
      keeps = search rules;
      high = search rules;
    }
