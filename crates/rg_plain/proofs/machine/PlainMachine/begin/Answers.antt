use Rattle.std.proofs.Common.{refl, subst}
use Rattle.rg_names.specs.Book.{Known}
use Rattle.rg_plain.specs.Machine.{BegunWith}
use Rattle.rg_values.specs.Kept.{kept_of}
use Rattle.rg_plain.proofs.Rows.Machine.{begins}
use Rattle.rg_plain.proofs.machine.PlainMachine.begin.Goals as goal

pub returns-clause-begins : goal.returns-clause-begins
returns-clause-begins c =
    begins c.args.program.now c.in_ok-classes.classes (kept_of c.begin_parts.new.m) _ c.in_ok-classes.ensures
    (subst (λ (b : Known). BegunWith b.program (kept_of c.begin_parts.new.m)) c.new.ensures c.in_ok-begin_parts.ensures.begun) refl
