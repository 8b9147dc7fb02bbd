use Rattle.std.proofs.Common.{refl}
use Rattle.rg_heap_tests.proofs.CellsTraced.{cell_room, cell_grove, cell_in, cells_stay}
use Rattle.rg_heap_tests.proofs.collections.add_cell.Goals as goal

pub push_member-requires : goal.push_member-requires
push_member-requires c =
    let w = c.in_ok-reserve.ensures.ok in
    let r = c.requires.traced in
    cell_room c.args.cells.now c.make.new.self c.args.regions.now c.reserve.new.self c.reserve.new.self c.args.key
    c.in_ok-slot.slot c.number-number.result w.0 c.args.word r.0 r.1 r.2 c.number-number.ensures w.2 w.1

pub returns-clause-grove : goal.returns-clause-grove
returns-clause-grove c =
    let w = c.in_ok-reserve.ensures.ok in
    let r = c.requires.traced in
    cell_grove c.args.cells.now c.make.new.self c.args.regions.now c.reserve.new.self c.push_member.new.self c.args.key
    c.in_ok-slot.slot c.number-number.result w.0 c.args.word r.0 r.1 r.2 c.number-number.ensures w.2 _
    c.push_member.ensures c.in_ok-slot.ensures.takes.vacant c.in_ok-slot.ensures.made refl refl c.requires.leads c.requires.grove

pub returns-clause-cell : goal.returns-clause-cell
returns-clause-cell c =
    let w = c.in_ok-reserve.ensures.ok in
    let r = c.requires.traced in
    cell_in c.args.cells.now c.make.new.self c.args.regions.now c.reserve.new.self c.push_member.new.self c.args.key
    c.in_ok-slot.slot c.number-number.result w.0 c.args.word r.0 r.1 r.2 c.number-number.ensures w.2 _
    c.push_member.ensures c.in_ok-slot.ensures.takes.vacant c.in_ok-slot.ensures.made refl refl c.requires.leads c.requires.grove

pub returns-clause-others : goal.returns-clause-others
returns-clause-others c =
    let w = c.in_ok-reserve.ensures.ok in
    let r = c.requires.traced in
    cells_stay c.args.cells.now c.make.new.self c.args.regions.now c.reserve.new.self c.push_member.new.self c.args.key
    c.in_ok-slot.slot c.number-number.result w.0 c.args.word r.0 r.1 r.2 c.number-number.ensures w.2 _
    c.push_member.ensures c.in_ok-slot.ensures.takes.vacant c.in_ok-slot.ensures.made refl refl c.requires.leads c.requires.grove
