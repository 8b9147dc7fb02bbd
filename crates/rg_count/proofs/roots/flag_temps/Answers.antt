use Rattle.std.proofs.Common.{◌≡◌, ℕ, ◌+◌, arith, subst, get_or}
use Rattle.std.proofs.lemmas.Option.{slice_get-get_or}
use Rattle.std.proofs.lemmas.List.Sums.{sum_by_more}
use Rattle.rg_cells.specs.Table.{Heap, field_at, body_at, width}
use Rattle.rg_count.specs.Inner.Flags.{Flagged, Among}
use Rattle.rg_count.proofs.RootsFlagged.{temps-more}
use Rattle.rg_count.proofs.roots.flag_temps.Goals as goal

pub loop-temp-preserved : goal.loop-temp-preserved
loop-temp-preserved g c =
    let temp : ℕ = get_or c.args.temps.now c.loop-temp.temp-index 0 in
    let S : Heap → Type 0 = λ h. Flagged h c.args.region (Among (λ k. field_at h temp k)
    (width (body_at h temp))) c.loop-temp.cells c.flag_fields.new.cells in
    let W : Heap → Type 0 = λ h. c.flag_fields.new.steps ≡ c.loop-temp.steps + width (body_at h temp) in
    let cost = subst W c.loop-temp.invariant.0.heap c.flag_fields.ensures.cost in
    let more = sum_by_more (λ t. width (body_at c.args.cells.now.heap t)) c.args.temps.now c.loop-temp.temp-index 0
    c.loop-temp-test.true in (
      temps-more c.args.cells.now.heap c.args.region c.args.temps.now c.loop-temp.temp-index temp c.args.cells.now
          c.loop-temp.cells c.flag_fields.new.cells
          (slice_get-get_or c.args.temps.now c.loop-temp.temp-index 0 c.loop-temp-test.true) c.loop-temp.invariant.0
          (subst S c.loop-temp.invariant.0.heap c.flag_fields.ensures.flagged),
      omega (arith, c.loop-temp.invariant.1, cost, more),
    )
