use Rattle.rg_begin.specs.Inner.Laid.{Laid}
use Rattle.rg_begin.proofs.contents.take_contents.Given as goal

abbrev pub invariant-loop-field : goal.invariant-loop-field
invariant-loop-field l = Laid l.heap l.frames l.object l.class l.given l.field
