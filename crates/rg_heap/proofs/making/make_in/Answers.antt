use Rattle.rg_heap.proofs.Comes.{rewritten_same, grove_roomed, rewritten_room, rewritten_member, grove_member, room_made}
use Rattle.rg_heap.proofs.making.make_in.Goals as goal

pub returns-in_default-clause-regions : goal.returns-in_default-clause-regions
returns-in_default-clause-regions c = rewritten_same c.args.regions.now c.reserve.new.self c.args.key c.in_default.ensures.err

pub returns-in_default-make-clause-grove : goal.returns-in_default-make-clause-grove
returns-in_default-make-clause-grove c =
    let t = c.args.regions.now in
    let mid = c.reserve.new.self in
    grove_roomed c.args.cells.now t c.make.new.self mid c.args.key c.requires.grove c.requires.key c.in_default-make.ensures.err
    (rewritten_room t mid c.args.key 1 c.in-Ok.ensures.ok)

pub push_member-requires : goal.push_member-requires
push_member-requires c = room_made c.args.regions.now c.reserve.new.self c.args.key 0 c.requires.key c.in-Ok.ensures.ok

pub returns-clause-member : goal.returns-clause-member
returns-clause-member c =
    rewritten_member c.args.regions.now c.reserve.new.self c.push_member.new.self c.args.key 1 c.in-Ok-make.slot c.in-Ok.ensures.ok
    c.push_member.ensures

pub returns-clause-grove : goal.returns-clause-grove
returns-clause-grove c =
    let t = c.args.regions.now in
    let mid = c.reserve.new.self in
    let key = c.args.key in
    let x = c.in-Ok-make.ensures in
    let slot = c.in-Ok-make.slot in
    grove_member c.args.cells.now t c.make.new.self c.push_member.new.self key c.number-number.result slot c.args.class c.args.fields.now
    c.requires.grove c.number-number.ensures
    c.requires.plain (record { takes = x.takes; made = x.made; next = x.next; high = x.high })
    (rewritten_member t mid c.push_member.new.self key 1 slot c.in-Ok.ensures.ok c.push_member.ensures) c.requires.key
