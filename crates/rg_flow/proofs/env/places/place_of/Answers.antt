use Rattle.std.proofs.Common.{refl, sym, ◌∙◌, length}
use Rattle.std.proofs.lemmas.Option.{slice_get_past, slice_get_read}
use Rattle.rg_flow.proofs.Place.{noted-past, noted-same, noted-other}
use Rattle.rg_flow.proofs.env.places.place_of.Goals as goal

pub returns-in_err-var-clause-place : goal.returns-in_err-var-clause-place
returns-in_err-var-clause-place c =
    c.from_residual-in_err-var.ensures
    ∙ sym (noted-past c.args.places.now c.args.vars.now c.args.name c.in_ok-place.place c.requires (sym c.in_ok-place.ensures)
    (slice_get_past c.args.vars.now c.in_ok-place.place c.in_err-var.ensures.lookup.3))

pub returns-then-eq-clause-place : goal.returns-then-eq-clause-place
returns-then-eq-clause-place c =
    let l = c.in_ok-var.ensures.lookup in
    sym (noted-same c.args.places.now c.args.vars.now c.args.name c.in_ok-place.place c.in_ok-var.var.now c.requires (sym c.in_ok-place.ensures)
    (slice_get_read c.args.vars.now (length c.args.vars.now) c.in_ok-place.place c.in_ok-var.var.now refl l.3.0 l.1)
    (sym c.eq.ensures ∙ c.if-eq.true))

pub returns-else-eq-clause-place : goal.returns-else-eq-clause-place
returns-else-eq-clause-place c =
    let l = c.in_ok-var.ensures.lookup in
    sym (noted-other c.args.places.now c.args.vars.now c.args.name c.in_ok-place.place c.in_ok-var.var.now c.requires (sym c.in_ok-place.ensures)
    (slice_get_read c.args.vars.now (length c.args.vars.now) c.in_ok-place.place c.in_ok-var.var.now refl l.3.0 l.1)
    (sym c.eq.ensures ∙ c.if-eq.false))
