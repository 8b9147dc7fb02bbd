use Rattle.std.proofs.Common.{false, refl, inl}
use Rattle.rg_top.proofs.NoteLines.{took-fault, took-status, gave-becomes}
use Rattle.rg_top.proofs.notes.tell.Goals as goal

pub returns-in-OutputFault-clause-took : goal.returns-in-OutputFault-clause-took
returns-in-OutputFault-clause-took g c = λ m.
    rw c.tell_output_fault.ensures.is (took-fault _ false _ m _ _ _ refl c.tell_output_fault.ensures.part)

pub returns-clause-took : goal.returns-clause-took
returns-clause-took g c = λ m.
    took-status _ false c.args.steps m c.args.status _ _ _ _ c.in_default.not-OutputFault refl (inl refl) refl c.give.ensures.gave

pub returns-clause-told : goal.returns-clause-told
returns-clause-told g c = gave-becomes _ _ _ _ _ c.give.ensures.gave
