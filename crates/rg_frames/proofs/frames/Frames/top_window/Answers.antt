use Rattle.std.proofs.Common.{subst}
use Rattle.rg_frames.specs.Stack.{Stack}
use Rattle.rg_frames.specs.Changes.{MarksLie}
use Rattle.rg_frames.proofs.frames.Frames.top_window.Goals as goal

pub returns-clause-marks : goal.returns-clause-marks
returns-clause-marks c =
    let l = c.self.invariant.0 in
    let P : Stack → Type 0 = λ v. MarksLie v in
    subst P c.self.view_is (record { as_many = l.as_many; rise = l.marks.rise; within = l.marks.within })
