use Rattle.std.proofs.Common.{length, refl, Some, None}
use Rattle.rg_raise.specs.Telling.{given}
use Rattle.rg_bodies.proofs.Making.{end-refused, body-made}
use Rattle.rg_bodies.proofs.bodies.raise_body.Goals as goal

pub returns-in_default-clause-told : goal.returns-in_default-clause-told
returns-in_default-clause-told c =
    let reads = rw c.code.ensures at c.in_default.ensures in
    end-refused (given c.args.source.now) c.args.depth c.args.types.items c.args.ending c.args.at c.args.source.now.body.in_method
    (length c.args.types.items) c.args.program.now c.raise_block.new.program c.in_ok-block.block c.in_ok-block.behind None
    c.in_ok-block.ensures.told reads refl

pub returns-clause-told : goal.returns-clause-told
returns-clause-told c =
    let reads = rw c.code.ensures at c.in-Some.ensures in
    body-made (given c.args.source.now) c.args.depth c.args.types.items c.args.ending c.args.at c.args.source.now.body.in_method
    (length c.args.types.items) c.args.program.now c.raise_block.new.program c.in_ok-block.block c.in_ok-block.behind
    (Some (c.in-Some.line, c.in-Some.end)) c.in_ok-block.ensures.told reads c.in-Some.line c.in-Some.end refl
