use Rattle.std.proofs.Common.{inl, inr, refl, sym, ◌∙◌}
use Rattle.rg_top.proofs.NoteLines.{took-fault, fault-told, took-status, took-report, becomes-told, becomes-end, no-fault-told}
use Rattle.rg_top.proofs.notes.tell_behind.Goals as goal

pub returns-in-OutputFault-clause-took : goal.returns-in-OutputFault-clause-took
returns-in-OutputFault-clause-took g c = λ old h.
    rw c.tell_output_fault.ensures.is
    (took-fault _ c.args.report _ c.args.setting.now.machine.now old _ _ (rw c.in-OutputFault.is at h) c.tell_output_fault.ensures.part)

pub returns-in-OutputFault-clause-output_fault_told : goal.returns-in-OutputFault-clause-output_fault_told
returns-in-OutputFault-clause-output_fault_told g c = λ old h e n.
    fault-told c.args.report c.args.setting.now.machine.now.stepper.events old _ _ (rw c.in-OutputFault.is at h) (c.tell_output_fault.ensures.whole n)

pub returns-then-not-report-clause-told : goal.returns-then-not-report-clause-told
returns-then-not-report-clause-told g c = becomes-told _ c.args.status _ _ _ c.give.ensures.gave

pub returns-then-not-report-clause-took : goal.returns-then-not-report-clause-took
returns-then-not-report-clause-took g c = λ old h.
    took-status _ c.args.report c.args.steps c.args.setting.now.machine.now c.args.status _ old _ _ c.in_default.not-OutputFault (inl refl)
    (inl c.if-not-report.true) h c.give.ensures.gave

pub returns-then-not-report-clause-output_fault_told : goal.returns-then-not-report-clause-output_fault_told
returns-then-not-report-clause-output_fault_told g c = λ old h e n.
    no-fault-told c.args.status _ _ c.in_default.not-OutputFault n (c.give.ensures.failed e)

pub returns-then-not-ends_run-clause-told : goal.returns-then-not-ends_run-clause-told
returns-then-not-ends_run-clause-told g c = becomes-told _ c.args.status _ _ _ c.give-then-not-ends_run.ensures.gave

pub returns-then-not-ends_run-clause-took : goal.returns-then-not-ends_run-clause-took
returns-then-not-ends_run-clause-took g c = λ old h.
    took-status _ c.args.report c.args.steps c.args.setting.now.machine.now c.args.status _ old _ _ c.in_default.not-OutputFault (inl refl)
    (inr (sym c.ends_run.ensures ∙ c.if-not-ends_run.true)) h c.give-then-not-ends_run.ensures.gave

pub returns-then-not-ends_run-clause-output_fault_told : goal.returns-then-not-ends_run-clause-output_fault_told
returns-then-not-ends_run-clause-output_fault_told g c = λ old h e n.
    no-fault-told c.args.status _ _ c.in_default.not-OutputFault n (c.give-then-not-ends_run.ensures.failed e)

pub returns-clause-told : goal.returns-clause-told
returns-clause-told g c = becomes-end _ _ c.args.status _ _ _ c.give_end.ensures.gave

pub returns-clause-took : goal.returns-clause-took
returns-clause-took g c = λ old h.
    took-report _ c.args.report c.args.steps c.args.setting.now.machine.now c.args.status _ old _ _ c.in_default.not-OutputFault (inl refl) (inr refl)
    c.if-not-report.false (sym c.ends_run.ensures ∙ c.if-not-ends_run.false) h c.give_end.ensures.gave

pub returns-clause-output_fault_told : goal.returns-clause-output_fault_told
returns-clause-output_fault_told g c = λ old h e n.
    no-fault-told c.args.status _ _ c.in_default.not-OutputFault n (c.give_end.ensures.failed e)
