use Rattle.std.proofs.Common.{length, subst}
use Rattle.rg_frames.specs.Stack.{Stack}
use Rattle.rg_frames.specs.Changes.{MarksLie, BasesRise}
use Rattle.rg_frames.proofs.frames.Frames.lie.Goals as goal

pub returns-clause-marks : goal.returns-clause-marks
returns-clause-marks c =
    let l = c.self.invariant.0 in
    let P : Stack → Type 0 = λ v. MarksLie v in
    subst P c.self.view_is (record { as_many = l.as_many; rise = l.marks.rise; within = l.marks.within })

pub returns-clause-bases : goal.returns-clause-bases
returns-clause-bases c =
    let P : Stack → Type 0 = λ v. BasesRise (length v.slots) v.windows in
    subst P c.self.view_is c.self.invariant.0.bases
