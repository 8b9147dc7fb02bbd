use Rattle.std.proofs.Common.{refl}
use Rattle.std.proofs.lemmas.Result.{IfErr-weaker}
use Rattle.rg_reader.proofs.Halting.{halts-none}
use Rattle.rg_parse.proofs.ProgramRows.{no-class, by-class_halts}
use Rattle.rg_parse.proofs.rules.program.class.Goals as goal

pub returns-then-is_next-clause-fault : goal.returns-then-is_next-clause-fault
returns-then-is_next-clause-fault c = IfErr-weaker c.class_row.result _ _
    (λ e h. by-class_halts _ e c.if-is_next.ensures refl h) c.class_row.ensures.fault

pub returns-then-is_next-2-clause-fault : goal.returns-then-is_next-2-clause-fault
returns-then-is_next-2-clause-fault c = IfErr-weaker c.tmp_class_row.result _ _
    (λ e h. by-class_halts _ e c.if-is_next-2.ensures refl h) c.tmp_class_row.ensures.fault

pub returns-else-is_next-2-clause-fault : goal.returns-else-is_next-2-clause-fault
returns-else-is_next-2-clause-fault c = halts-none _ (no-class _ c.requires c.if-is_next.ensures c.if-is_next-2.ensures)
