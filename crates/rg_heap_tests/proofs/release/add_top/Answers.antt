use Rattle.std.proofs.Common.{refl}
use Rattle.rg_heap_tests.proofs.TopsMade.{has_room, grove_made, top_made, top_in}
use Rattle.rg_heap_tests.proofs.release.add_top.Goals as goal

pub push_member-requires : goal.push_member-requires
push_member-requires c =
    let w = c.in_ok-reserve.ensures.ok in
    has_room c.args.cells.now c.make.new.self c.args.regions.now c.add.new.self c.reserve.new.self c.set_bridge.new.self c.set_bridge.new.self
    c.in_ok-key.key c.in_ok-bridge.bridge c.number-number.result w.0 c.args.word _ c.in_ok-key.ensures.added w.2 c.set_bridge.ensures w.1

pub returns-clause-grove : goal.returns-clause-grove
returns-clause-grove c =
    let w = c.in_ok-reserve.ensures.ok in
    let made = c.in_ok-bridge.ensures.made in
    grove_made c.args.cells.now c.make.new.self c.args.regions.now c.add.new.self c.reserve.new.self c.set_bridge.new.self c.push_member.new.self
    c.in_ok-key.key c.in_ok-bridge.bridge c.number-number.result w.0 c.args.word _ c.in_ok-key.ensures.added w.2 c.set_bridge.ensures
    _ c.requires.grove c.requires.owns c.in_ok-key.ensures.fresh c.number-number.ensures c.push_member.ensures c.in_ok-bridge.ensures.takes.vacant
    made refl refl

pub returns-clause-top : goal.returns-clause-top
returns-clause-top c =
    let w = c.in_ok-reserve.ensures.ok in
    let made = c.in_ok-bridge.ensures.made in
    top_made c.args.cells.now c.make.new.self c.args.regions.now c.add.new.self c.reserve.new.self c.set_bridge.new.self c.push_member.new.self
    c.in_ok-key.key c.in_ok-bridge.bridge c.number-number.result w.0 c.args.word _ c.in_ok-key.ensures.added w.2 c.set_bridge.ensures
    _ c.requires.grove c.requires.owns c.in_ok-key.ensures.fresh c.number-number.ensures c.push_member.ensures c.in_ok-bridge.ensures.takes.vacant
    made refl refl

pub returns-clause-cell : goal.returns-clause-cell
returns-clause-cell c =
    let w = c.in_ok-reserve.ensures.ok in
    let made = c.in_ok-bridge.ensures.made in
    top_in c.args.cells.now c.make.new.self c.args.regions.now c.add.new.self c.reserve.new.self c.set_bridge.new.self c.push_member.new.self
    c.in_ok-key.key c.in_ok-bridge.bridge c.number-number.result w.0 c.args.word _ c.in_ok-key.ensures.added w.2 c.set_bridge.ensures
    _ c.requires.grove c.requires.owns c.in_ok-key.ensures.fresh c.number-number.ensures c.push_member.ensures c.in_ok-bridge.ensures.takes.vacant
    made refl refl refl
