use Rattle.std.proofs.Common.{inl, inr, refl, ap, ◌∙◌}
use Rattle.rg_base.specs.Report.{end_line}
use Rattle.rg_top.proofs.NoteLines.{cut-front, cut-behind, both-whole}
use Rattle.rg_top.proofs.notes.give_end.Goals as goal

pub returns-in_default-put_text-clause-gave : goal.returns-in_default-put_text-clause-gave
returns-in_default-put_text-clause-gave g c =
    inl (inr (c.tell_output_fault.ensures.is, cut-front _ _ _ _ _ c.in_default-put_text.ensures.part c.tell_output_fault.ensures.part))

pub returns-in-Ok-put_all-clause-gave : goal.returns-in-Ok-put_all-clause-gave
returns-in-Ok-put_all-clause-gave g c =
    inl (inl (
      refl,
      both-whole _ _ _ _ _ _ (c.bytes.ensures ∙ c.in-Ok.ensures ∙ ap end_line c.numbers.ensures) c.in-Ok-put_text.ensures.ok
          c.in-Ok-put_all.ensures.ok,
    ))

pub returns-clause-gave : goal.returns-clause-gave
returns-clause-gave g c =
    inl (inr (
      c.tell_output_fault-in-Err.ensures.is,
      cut-behind _ _ _ _ _ _ _ (c.bytes.ensures ∙ c.in-Ok.ensures ∙ ap end_line c.numbers.ensures) c.in-Ok-put_text.ensures.ok c.in-Err.ensures.part
          c.tell_output_fault-in-Err.ensures.part,
    ))
