use Rattle.std.proofs.Common.{◌≡◌, ◌≢◌, ◌⊎◌, ◌-◌, get_or, inl, inr, Some, sym, ◌∙◌, arith}
use Rattle.rg_cells.specs.Table.{mark_at, link_at}
use Rattle.rg_count.specs.Inner.Sweeping.{Swept, Sweeps}
use Rattle.rg_regions.proofs.Callers.MembersSwept.{Turn, sweep_begins, turn_of, turn_drops, turn_keeps}
use Rattle.rg_count.proofs.CellsSwept.{swept-lists, swept-free, swept-keep}
use Rattle.rg_count.proofs.sweeping.sweep.Goals as goal
use Rattle.rg_count.proofs.sweeping.sweep.Goals.{After-members}

-- the record of a turn and its member
turn : (c : After-members) → Turn c.loop-place.cells.heap c.loop-place.regions c.args.key c.loop-place.place
    (get_or c.members.result.now (c.loop-place.place - 1) 0)
turn c = turn_of (Swept c.args.cells.now) c.args.regions.now c.args.key c.requires.0 c.requires.1 c.loop-place.cells
    c.loop-place.regions c.loop-place.place c.loop-place.invariant (omega arith)
    (λ ms s. (s.fits, swept-lists c.args.cells.now c.requires.0.number ms c.loop-place.place c.loop-place.cells s))
    c.members.result.now c.members.ensures

-- a member with a count or a flag is kept
keeps : (c : After-members) → ((mark_at c.loop-place.cells (get_or c.members.result.now (c.loop-place.place - 1) 0) ≢ 0)
    ⊎ (link_at c.loop-place.cells (get_or c.members.result.now (c.loop-place.place - 1) 0)
    ≡ Some (get_or c.members.result.now (c.loop-place.place - 1) 0)))
    → Sweeps c.args.cells.now c.args.regions.now c.args.key c.loop-place.cells c.loop-place.regions (c.loop-place.place - 1)
keeps c why =
    let slot = get_or c.members.result.now (c.loop-place.place - 1) 0 in
    turn_keeps (Swept c.args.cells.now) c.args.regions.now c.args.key c.requires.0 c.requires.1 c.loop-place.cells
    c.loop-place.regions c.loop-place.place c.loop-place.invariant (omega arith) slot (turn c) c.loop-place.cells
    (λ ms p is s. swept-keep c.args.cells.now c.requires.0.number ms p slot c.loop-place.cells is why s)

pub loop-place-init : goal.loop-place-init
loop-place-init c = sweep_begins (Swept c.args.cells.now) c.args.regions.now c.args.key c.requires.0 c.requires.1
    c.args.cells.now c.members-place.result.now c.members-place.ensures c.requires.2

pub mark-requires : goal.mark-requires
mark-requires c = (turn (goal.at.mark-requires c).After-members).held

pub is_root-requires : goal.is_root-requires
is_root-requires c = (turn (goal.at.is_root-requires c).After-members).held

pub free-requires : goal.free-requires
free-requires c = (turn (goal.at.free-requires c).After-members).held

pub drop_member-requires : goal.drop_member-requires
drop_member-requires c = let x = turn (goal.at.drop_member-requires c).After-members in (x.now, x.there, x.within)

pub loop-place-preserved : goal.loop-place-preserved
loop-place-preserved c =
    let slot = get_or c.members.result.now (c.loop-place.place - 1) 0 in
    turn_drops (Swept c.args.cells.now) c.args.regions.now c.args.key c.requires.0 c.requires.1 c.loop-place.cells
    c.loop-place.regions c.loop-place.place c.loop-place.invariant (omega arith) slot
    (turn (goal.at.loop-place-preserved c).After-members) c.drop_member.new.self c.free.new.self c.drop_member.ensures
    c.free.ensures (λ ms p is s. swept-free c.args.cells.now c.requires.0.number ms p slot c.loop-place.cells is
    (sym c.mark.ensures ∙ c.if-mark-ne0.false) c.if-is_root.ensures.no s)

pub loop-place-preserved-then-mark-ne0 : goal.loop-place-preserved-then-mark-ne0
loop-place-preserved-then-mark-ne0 c = keeps (goal.at.loop-place-preserved-then-mark-ne0 c).After-members
    (inl (λ q. c.if-mark-ne0.true (c.mark.ensures ∙ q)))

pub loop-place-preserved-then-is_root : goal.loop-place-preserved-then-is_root
loop-place-preserved-then-is_root c = keeps (goal.at.loop-place-preserved-then-is_root c).After-members
    (inr c.if-is_root.ensures.yes)
