use Rattle.std.proofs.Common.{◌≡◌, ◌<◌, ◌≤◌, true, false, ap, refl, subst, sym}
use Rattle.rg_cells.specs.Table.{Table, IsHeld, body_at, width, with_field}
use Rattle.rg_regions.specs.Grove.{Grove}
use Rattle.rg_regions.proofs.Callers.Told.{field_within}
use Rattle.rg_heap.specs.Inner.Marks.{MayWrite}
use Rattle.rg_heap.proofs.Marked.{grove_replaced}
use Rattle.rg_heap.proofs.writing.write_element.Goals as goal

pub returns-then-replace_plain-clause-put : goal.returns-then-replace_plain-clause-put
returns-then-replace_plain-clause-put c = λ e.
    let p = c.if-replace_plain.ensures in
    (field_within c.args.cells.now.heap c.args.slot c.args.index p.0 p.1, ap (λ (z : Table). z.heap) p.3)

pub returns-then-replace_plain-clause-grove : goal.returns-then-replace_plain-clause-grove
returns-then-replace_plain-clause-grove c =
    grove_replaced true c.args.cells.now c.replace_plain.new.self c.args.regions.now c.args.key c.args.slot c.args.index c.args.w
    c.requires.grove c.if-replace_plain.ensures (c.if-not-leads_nowhere.ensures refl) c.requires.place

pub write_within-requires-2-clause-grove : goal.write_within-requires-2-clause-grove
write_within-requires-2-clause-grove c =
    let P : Table → Type 0 = λ z. Grove z c.args.regions.now in subst P (sym c.if-replace_plain.ensures) c.requires.grove

pub write_within-requires-2-clause-held : goal.write_within-requires-2-clause-held
write_within-requires-2-clause-held c =
    let P : Table → Type 0 = λ z. IsHeld z.heap c.args.slot in subst P (sym c.if-replace_plain.ensures) c.requires.held

pub write_within-requires-2-clause-place : goal.write_within-requires-2-clause-place
write_within-requires-2-clause-place c =
    let P : Table → Type 0 = λ z. c.args.index < width (body_at z.heap c.args.slot)
    → MayWrite z.heap c.args.regions.now c.args.key c.args.slot c.args.w in
    subst P (sym c.if-replace_plain.ensures) c.requires.place

pub returns-clause-put : goal.returns-clause-put
returns-clause-put c =
    let P : Table → Type 0 = λ z. c.write_within-2.result ≡ true
    → (c.args.index < width (body_at z.heap c.args.slot))
    × (c.write_within-2.new.cells.heap ≡ with_field z.heap c.args.slot c.args.index c.args.w) in
    subst P c.if-replace_plain.ensures c.write_within-2.ensures.put

pub returns-clause-lacks : goal.returns-clause-lacks
returns-clause-lacks c =
    let P : Table → Type 0 = λ z. c.write_within-2.result ≡ false
    → (width (body_at z.heap c.args.slot) ≤ c.args.index) × (c.write_within-2.new.cells ≡ z) in
    subst P c.if-replace_plain.ensures c.write_within-2.ensures.lacks
