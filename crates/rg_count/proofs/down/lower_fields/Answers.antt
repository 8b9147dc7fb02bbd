use Rattle.std.proofs.Common.{◌≡◌, ℕ, ◌+◌, List, Option, Some, ap, sym, ◌∙◌, arith, subst}
use Rattle.rg_base.specs.declared.value.Word.TheVariants.{Slot}
use Rattle.rg_cells.specs.Table.{Heap, field_at, body_at, width}
use Rattle.rg_regions.specs.Reach.{LiesIn}
use Rattle.rg_regions.specs.Table.{Record}
use Rattle.rg_regions.specs.Chains.{Follows, AllInTable}
use Rattle.rg_regions.specs.Owned.{Every, FollowsFields}
use Rattle.rg_regions.proofs.Callers.OwnedFound.{fields_more}
use Rattle.rg_count.specs.Inner.Counting.{Lowered, owed}
use Rattle.rg_count.proofs.CountsLowered.{count-above, lowered-more, owed-next, lowers-heap}
use Rattle.rg_count.proofs.down.lower_fields.Goals as goal

pub lower-zero-requires-clause-above : goal.lower-zero-requires-clause-above
lower-zero-requires-clause-above g c = λ s e l.
    let h = c.args.cells.now.heap in
    let i = c.loop-k.invariant.0 in
    let y = c.requires.ready in
    let d = i.counts y.roots y.first y.done y.zeros y.is in
    let at : field_at h c.args.slot c.loop-k.k ≡ Some (Slot s) = ap (λ (z : Heap). field_at z c.args.slot c.loop-k.k)
    (sym i.heap) ∙ c.look-w.ensures.value ∙ ap Some e in
    let L : Heap → Type 0 = λ z. LiesIn z c.args.region s in
    count-above h c.args.region y.roots y.first (owed h c.args.slot c.loop-k.k)
    (owed h c.args.slot (c.loop-k.k + 1)) y.done d.0 c.loop-k.cells c.loop-k.zero s
    (owed-next h c.args.slot c.loop-k.k (Slot s) at s) d.1 (subst L i.heap l)

pub chain_word-orphans-requires-clause-labels : goal.chain_word-orphans-requires-clause-labels
chain_word-orphans-requires-clause-labels g c =
    let h = c.args.cells.now.heap in
    let same : c.lower-zero.new.cells.heap ≡ h =
    lowers-heap c.args.region c.look-w.result c.loop-k.zero c.lower-zero.result c.loop-k.cells
    c.lower-zero.new.cells c.lower-zero.ensures ∙ c.loop-k.invariant.0.heap in
    let T : List (Option Record) → Type 0 = λ rs. AllInTable h (record c.loop-k.regions { records = rs }) in
    let L : Heap → Type 0 = λ z. AllInTable z c.loop-k.regions in
    subst L (sym same) (subst T (sym c.loop-k.invariant.1.records) c.requires.labels)

pub loop-k-preserved : goal.loop-k-preserved
loop-k-preserved g c =
    let h = c.args.cells.now.heap in
    let i = c.loop-k.invariant.0 in
    let at : field_at h c.args.slot c.loop-k.k ≡ Some c.look-w.result =
    ap (λ (z : Heap). field_at z c.args.slot c.loop-k.k) (sym i.heap) ∙ c.look-w.ensures.value in
    let same : c.lower-zero.new.cells.heap ≡ h =
    lowers-heap c.args.region c.look-w.result c.loop-k.zero c.lower-zero.result c.loop-k.cells
    c.lower-zero.new.cells c.lower-zero.ensures ∙ i.heap in
    let K : Heap → Type 0 = λ z. Follows z c.args.region c.look-w.result c.loop-k.orphans c.chain_word-orphans.result
    c.loop-k.regions c.chain_word-orphans.new.regions in (
      lowered-more h c.args.region c.args.slot c.loop-k.k c.args.cells.now c.loop-k.cells c.lower-zero.new.cells
          c.args.heads.zero c.loop-k.zero c.lower-zero.result c.look-w.result at c.lower-zero.ensures i,
      fields_more h Every c.args.region c.args.slot c.loop-k.k c.args.regions.now c.loop-k.regions
          c.chain_word-orphans.new.regions c.args.heads.orphans c.loop-k.orphans c.chain_word-orphans.result c.look-w.result
          at (subst K same c.chain_word-orphans.ensures) c.loop-k.invariant.1,
      omega (arith, c.loop-k.invariant.2, c.look-w.ensures.cost),
    )

pub returns-clause-lowered : goal.returns-clause-lowered
returns-clause-lowered g c =
    let e : c.loop-k.k ≡ width (body_at c.args.cells.now.heap c.args.slot) =
    omega (arith, c.loop-k-test.false, c.loop-k.auto.k-end, c.field_count-k-end.ensures) in
    let P : ℕ → Type 0 = λ n. Lowered c.args.cells.now.heap c.args.region c.args.slot n c.args.cells.now c.loop-k.cells
    c.args.heads.zero c.loop-k.zero in
    subst P e c.loop-k.invariant.0

pub returns-clause-fields : goal.returns-clause-fields
returns-clause-fields g c =
    let e : c.loop-k.k ≡ width (body_at c.args.cells.now.heap c.args.slot) =
    omega (arith, c.loop-k-test.false, c.loop-k.auto.k-end, c.field_count-k-end.ensures) in
    let P : ℕ → Type 0 = λ n. FollowsFields c.args.cells.now.heap Every c.args.region c.args.slot n c.args.regions.now
    c.loop-k.regions c.args.heads.orphans c.loop-k.orphans in
    subst P e c.loop-k.invariant.1
