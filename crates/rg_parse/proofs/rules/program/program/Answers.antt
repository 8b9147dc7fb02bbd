use Rattle.rg_reader.proofs.Growing.{found-there}
use Rattle.rg_parse.proofs.ProgramRows.{program-start, program-step}
use Rattle.rg_parse.proofs.rules.program.program.Goals as goal

pub loop-reader-init : goal.loop-reader-init
loop-reader-init c = program-start _ c.requires

pub add_class-requires : goal.add_class-requires
add_class-requires c = found-there c.in_ok-class.ensures.ok

pub loop-reader-preserved : goal.loop-reader-preserved
loop-reader-preserved c = program-step c.loop-reader.invariant c.in_ok-class.ensures.row c.in_ok-class.ensures.ok c.in_ok-add_class.ensures.classed
