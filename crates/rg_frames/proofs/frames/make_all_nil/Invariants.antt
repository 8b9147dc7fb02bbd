use Rattle.std.proofs.Common.{length}
use Rattle.rg_frames.specs.Inner.Layout.{NilFrom}
use Rattle.rg_frames.proofs.Nils.{Fronted}
use Rattle.rg_frames.proofs.frames.make_all_nil.Given as goal

abbrev pub invariant-nil : goal.invariant-nil
invariant-nil l = Fronted l.fn.part l.part 7 × NilFrom l.part l.at (length l.part)

abbrev pub decreases-nil : goal.decreases-nil
decreases-nil l = l.at
