use Rattle.rg_tree.specs.Rows.RowTrees.{program_of}
use Rattle.rg_tests.proofs.Worlds.{stands-behind}
use Rattle.rg_tests.proofs.paths.text_behind.Goals as goal

pub world_text-requires : goal.world_text-requires
world_text-requires c =
    let t = program_of c.args.two.accepted.program in
    let ran = stands-behind t c.in_ok-code.code c.args.two.plan c.args.two.images.items c.in_ok-world.world _ _ _ _ _ _
    c.in_ok-world.ensures.follows c.in_ok-world.ensures.run in
    (t, c.in_ok-code.code, c.args.two.images.items, ran.0, ran.1)
