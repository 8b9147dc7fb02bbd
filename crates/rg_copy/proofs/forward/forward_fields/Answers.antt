use Rattle.std.proofs.Common.{◌≡◌, ap, sym, ◌∙◌, subst, arith, ℕ, Some}
use Rattle.rg_cells.specs.Table.{width, body_at}
use Rattle.rg_copy.specs.Inner.Moves.{ForwardsFirst}
use Rattle.rg_copy.proofs.Fields.{first-begin, first-width, first-field, first-held, first-next, first-whole}
use Rattle.rg_copy.proofs.forward.forward_fields.Goals as goal

pub loop-k-init : goal.loop-k-init
loop-k-init g c = (first-begin c.args.region c.args.slot c.args.cells.now, omega arith)

pub look-w-requires : goal.look-w-requires
look-w-requires g c =
    let w = first-width c.args.region c.args.slot c.loop-k.k c.args.cells.now c.loop-k.cells c.loop-k.invariant.0 in
    omega (arith, w, c.loop-k-test.true, c.field_count-k-end.ensures)

pub forward-v-requires : goal.forward-v-requires
forward-v-requires g c s e =
    let f = first-field c.args.region c.args.slot c.loop-k.k c.args.cells.now c.loop-k.cells c.loop-k.invariant.0 in
    first-held c.args.region c.args.slot c.loop-k.k c.args.cells.now c.loop-k.cells c.loop-k.invariant.0 s
    (c.requires.lead c.loop-k.k s (sym f ∙ c.look-w.ensures.value ∙ ap Some e))

pub set_field-requires : goal.set_field-requires
set_field-requires g c =
    let w = first-width c.args.region c.args.slot c.loop-k.k c.args.cells.now c.loop-k.cells c.loop-k.invariant.0 in
    omega (arith, w, c.loop-k-test.true, c.field_count-k-end.ensures)

pub loop-k-preserved : goal.loop-k-preserved
loop-k-preserved g c = (
  first-next c.args.region c.args.slot c.loop-k.k c.args.cells.now c.loop-k.cells c.loop-k.invariant.0 c.look-w.result
      c.forward-v.result c.set_field.new.self c.look-w.ensures.value c.forward-v.ensures c.set_field.ensures,
  omega (arith, c.loop-k.invariant.1, c.look-w.ensures.cost),
)

pub returns-clause-forwards : goal.returns-clause-forwards
returns-clause-forwards g c =
    let P : ℕ → Type 0 = λ n. ForwardsFirst c.args.region c.args.slot n c.args.cells.now c.loop-k.cells in
    let q : c.loop-k.k ≡ width (body_at c.args.cells.now.heap c.args.slot) =
    omega (arith, c.loop-k-test.false, c.field_count-k-end.ensures, c.loop-k.auto.k-end) in
    first-whole c.args.region c.args.slot c.args.cells.now c.loop-k.cells (subst P q c.loop-k.invariant.0)
