use Rattle.std.proofs.Common.{◌∙◌, arith}
use Rattle.std.proofs.lemmas.Bool.{le-leb as le-true, lt-leb as le-false}
use Rattle.rg_machine.proofs.Enter.Place.{past-top, in-top}
use Rattle.rg_machine.proofs.machine.Machine.base_at.Goals as goal

pub returns-then-z-size-clause-none : goal.returns-then-z-size-clause-none
returns-then-z-size-clause-none c =
    let m = c.self.inside in
    λ e. rw (← c.self.view_is) (past-top m.heap m.frames m.at c.args.z c.self.invariant.0.lain (omega (arith, c.if-z-size.true, c.size.ensures)))

pub returns-then-top-place-clause-some : goal.returns-then-top-place-clause-some
returns-then-top-place-clause-some c =
    let m = c.self.inside in
    let x = in-top m.heap m.frames m.at c.args.z c.place-place.result c.top.result c.self.invariant.0.lain
    (omega (arith, c.if-z-size.false, c.size.ensures)) c.place-place.ensures c.top.ensures in
    rw (← c.self.view_is) (
      x.1 ∙ le-true c.top.result.base c.place-place.result (omega (arith, c.if-top-place.true)),
      x.0,
      (c.top.result, c.top.ensures, omega (arith, c.if-top-place.true)),
      omega (arith, c.if-z-size.false, c.size.ensures, c.place-place.ensures),
    )

pub returns-else-top-place-clause-none : goal.returns-else-top-place-clause-none
returns-else-top-place-clause-none c =
    let m = c.self.inside in
    let x = in-top m.heap m.frames m.at c.args.z c.place-place.result c.top.result c.self.invariant.0.lain
    (omega (arith, c.if-z-size.false, c.size.ensures)) c.place-place.ensures c.top.ensures in
    λ e. rw (← c.self.view_is) (x.1 ∙ le-false c.top.result.base c.place-place.result (omega (arith, c.if-top-place.false)))
