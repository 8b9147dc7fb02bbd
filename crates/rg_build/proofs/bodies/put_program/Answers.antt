use Rattle.rg_build.proofs.Walking.{program-lays}
use Rattle.rg_build.proofs.bodies.put_program.Goals as goal

pub returns : goal.returns
returns c =
    program-lays c.args.book.now.program c.new-slots.result c.main_body.result c.args.laying.now c.put_block.new.laying c.put_methods.new.laying
    c.new-slots.ensures c.main_body.ensures.row c.in_ok-put_block.ensures.maps c.in_ok-put_methods.ensures
