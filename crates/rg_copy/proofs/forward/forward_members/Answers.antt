use Rattle.std.proofs.Common.{◌≡◌, ◌≢◌, ap, sym, ◌∙◌, arith, ℕ, get_or, slice_get, Some}
use Rattle.std.proofs.lemmas.Option.{slice_get-get_or}
use Rattle.std.proofs.lemmas.List.Sums.{sum_by_more}
use Rattle.rg_cells.specs.Table.{width, body_at, mark_at}
use Rattle.rg_copy.proofs.Passes.{members-skip, members-forward}
use Rattle.rg_copy.proofs.forward.forward_members.Goals.{then-mark-ne0, else-mark-ne0}
use Rattle.rg_copy.proofs.forward.forward_members.Goals as goal

pub loop-slot-preserved : goal.loop-slot-preserved
loop-slot-preserved g c =
    let i = c.loop-slot.slot-index in
    let slot : ℕ = get_or c.args.members.now i 0 in
    let at : slice_get c.args.members.now i ≡ Some slot =
    slice_get-get_or c.args.members.now i 0 c.loop-slot-test.true in
    let p = c.args.cells.now in
    let t = c.loop-slot.cells in
    let more = sum_by_more (λ s. width (body_at c.args.cells.now.heap s)) c.args.members.now i 0
    c.loop-slot-test.true in
    elim c.if-mark-ne0.branch [
      | then-mark-ne0 w ↦
          let m : mark_at c.loop-slot.cells slot ≢ 0 = λ q. w.if-mark-ne0.true (c.mark.ensures ∙ q) in
          let z = ap width (c.loop-slot.invariant.0.left i slot (omega arith) at) in
          rw (w.cells-is, w.steps-is) (
            members-forward p t w.forward_fields.new.cells c.args.region c.args.members.now i slot c.requires.members at
                m w.forward_fields.ensures.forwards c.loop-slot.invariant.0,
            omega (arith, c.loop-slot.invariant.1, w.forward_fields.ensures.cost, more, z),
          )
      | else-mark-ne0 w ↦
          let m : mark_at c.loop-slot.cells slot ≡ 0 = sym c.mark.ensures ∙ w.if-mark-ne0.false in
          rw (w.cells-is, w.steps-is) (
            members-skip p t c.args.region c.args.members.now i slot at m c.loop-slot.invariant.0,
            omega (arith, c.loop-slot.invariant.1, more),
          )
    ]
