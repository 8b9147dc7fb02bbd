use Rattle.rg_heap.proofs.Holders.{members_held, not_near}
use Rattle.rg_heap.proofs.giving.holder.Goals as goal

pub with_serial-requires : goal.with_serial-requires
with_serial-requires c =
    members_held c.args.cells.now c.args.regions.now c.top-key.result.region c.members.result.now c.requires.grove
    (c.requires.key c.top-key.result c.top-key.ensures) c.members.ensures

pub unreachable-requires : goal.unreachable-requires
unreachable-requires c =
    let there = c.requires.there in
    not_near c.args.cells.now c.args.regions.now c.args.frames.now c.top-key.result c.members.result.now c.temps.result.now c.args.serial
    c.requires.grove c.top-key.ensures (c.requires.key c.top-key.result c.top-key.ensures) c.members.ensures c.temps.ensures
    (c.with_serial.ensures.none c.in_default.is) (c.with_serial-2.ensures.none c.in_default-with_serial.is) there.0 there.1 there.2
