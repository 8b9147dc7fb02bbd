use Rattle.std.proofs.Common.{◌≡◌, ◌≢◌, ap, sym, ◌∙◌, arith, ℕ, get_or, slice_get, Some}
use Rattle.std.proofs.lemmas.Option.{slice_get-get_or}
use Rattle.std.proofs.lemmas.List.Sums.{sum_by_more}
use Rattle.rg_cells.specs.Table.{width, body_at, mark_at}
use Rattle.rg_copy.proofs.Passes.{temps-skip, temps-again, temps-forward, temp-kept}
use Rattle.rg_copy.proofs.forward.forward_marked.Goals.{then-is_temp+then-mark-eq0, then-is_temp+else-mark-eq0, else-is_temp}
use Rattle.rg_copy.proofs.forward.forward_marked.Goals as goal

pub loop-temp-preserved : goal.loop-temp-preserved
loop-temp-preserved g c =
    let i = c.loop-temp.temp-index in
    let slot : ℕ = get_or c.args.temps.now i 0 in
    let at : slice_get c.args.temps.now i ≡ Some slot = slice_get-get_or c.args.temps.now i 0 c.loop-temp-test.true in
    let p = c.args.cells.now in
    let t = c.loop-temp.cells in
    let more = sum_by_more (λ s. width (body_at c.args.cells.now.heap s)) c.args.temps.now i 0 c.loop-temp-test.true in
    elim c.if-is_temp.branch [
      | then-is_temp+then-mark-eq0 w ↦
          let m : mark_at c.loop-temp.cells slot ≡ 0 = sym w.mark.ensures ∙ w.if-mark-eq0.true in
          let k = temp-kept p t c.args.region c.args.temps.now i slot m c.loop-temp.invariant.0 in
          let z = ap width k in
          rw (w.cells-is, w.steps-is) (
            temps-forward p t w.forward_fields.new.cells w.set_mark.new.self c.args.region c.args.temps.now i slot at
                (c.is_temp.ensures.yes w.if-is_temp.true) m w.forward_fields.ensures.forwards w.set_mark.ensures.set
                w.set_mark.ensures.within c.loop-temp.invariant.0,
            omega (arith, c.loop-temp.invariant.1, w.forward_fields.ensures.cost, more, z),
          )
      | then-is_temp+else-mark-eq0 w ↦
          let m : mark_at c.loop-temp.cells slot ≢ 0 = λ q. w.if-mark-eq0.false (w.mark.ensures ∙ q) in
          rw (w.cells-is, w.steps-is) (
            temps-again p t c.args.region c.args.temps.now i slot c.requires.clean at
                (c.is_temp.ensures.yes w.if-is_temp.true) m c.loop-temp.invariant.0,
            omega (arith, c.loop-temp.invariant.1, more),
          )
      | else-is_temp w ↦ rw (w.cells-is, w.steps-is) (
        temps-skip p t c.args.region c.args.temps.now i slot at (c.is_temp.ensures.no w.if-is_temp.false)
            c.loop-temp.invariant.0,
        omega (arith, c.loop-temp.invariant.1, more),
      )
    ]
