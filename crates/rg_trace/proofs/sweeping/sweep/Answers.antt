use Rattle.std.proofs.Common.{◌≡◌, ◌≢◌, ◌-◌, get_or, sym, ◌∙◌, subst, arith}
use Rattle.rg_cells.specs.Table.{Table, mark_at}
use Rattle.rg_regions.specs.Dropped.{MembersLeft}
use Rattle.rg_trace.specs.Sweeping.{Swept}
use Rattle.rg_regions.proofs.Callers.MembersSwept.{Turn, sweep_begins, turn_of, turn_drops, turn_keeps}
use Rattle.rg_trace.proofs.CellsSwept.{swept-lists, swept-free, swept-keep}
use Rattle.rg_trace.proofs.sweeping.sweep.Goals as goal
use Rattle.rg_trace.proofs.sweeping.sweep.Goals.{After-members}

-- the record of a turn and its member
turn : (c : After-members) → Turn c.loop-place.cells.heap c.loop-place.regions c.args.key c.loop-place.place
    (get_or c.members.result.now (c.loop-place.place - 1) 0)
turn c = turn_of (Swept c.args.cells.now) c.args.regions.now c.args.key c.requires.0 c.requires.1 c.loop-place.cells
    c.loop-place.regions c.loop-place.place c.loop-place.invariant (omega arith)
    (λ ms s. (s.fits, swept-lists c.args.cells.now c.requires.0.number ms c.loop-place.place c.loop-place.cells s)) c.members.result.now
    c.members.ensures

pub loop-place-init : goal.loop-place-init
loop-place-init c = sweep_begins (Swept c.args.cells.now) c.args.regions.now c.args.key c.requires.0 c.requires.1
    c.args.cells.now c.members-place.result.now c.members-place.ensures c.requires.2

pub mark-requires : goal.mark-requires
mark-requires c = (turn (goal.at.mark-requires c).After-members).held

pub free-requires : goal.free-requires
free-requires c = (turn (goal.at.free-requires c).After-members).held

pub drop_member-requires : goal.drop_member-requires
drop_member-requires c = let x = turn (goal.at.drop_member-requires c).After-members in (x.now, x.there, x.within)

pub set_mark-requires : goal.set_mark-requires
set_mark-requires c = (turn (goal.at.set_mark-requires c).After-members).held

pub loop-place-preserved-then-mark-eq0 : goal.loop-place-preserved-then-mark-eq0
loop-place-preserved-then-mark-eq0 c =
    let first = c.args.cells.now in
    let slot = get_or c.members.result.now (c.loop-place.place - 1) 0 in
    let white : mark_at c.loop-place.cells slot ≡ 0 = sym c.mark.ensures ∙ c.if-mark-eq0.true in
    turn_drops (Swept first) c.args.regions.now c.args.key c.requires.0 c.requires.1 c.loop-place.cells c.loop-place.regions
    c.loop-place.place c.loop-place.invariant (omega arith) slot
    (turn (goal.at.loop-place-preserved-then-mark-eq0 c).After-members) c.drop_member.new.self c.free.new.self
    c.drop_member.ensures c.free.ensures (λ ms p is s. swept-free first c.requires.0.number ms p slot c.loop-place.cells is white s)

pub loop-place-preserved : goal.loop-place-preserved
loop-place-preserved c =
    let first = c.args.cells.now in
    let slot = get_or c.members.result.now (c.loop-place.place - 1) 0 in
    let black : mark_at c.loop-place.cells slot ≢ 0 = λ q. c.if-mark-eq0.false (c.mark.ensures ∙ q) in
    let N : Table → Type 0 = λ z. MembersLeft c.args.regions.now c.args.key
    (λ r ms. Swept first r ms (c.loop-place.place - 1) z) c.loop-place.regions in
    subst N (sym c.set_mark.ensures.set) (turn_keeps (Swept first) c.args.regions.now c.args.key c.requires.0 c.requires.1
    c.loop-place.cells c.loop-place.regions c.loop-place.place c.loop-place.invariant (omega arith) slot
    (turn (goal.at.loop-place-preserved c).After-members) _
    (λ ms p is s. swept-keep first c.requires.0.number ms p slot c.loop-place.cells is black c.requires.3 s))
