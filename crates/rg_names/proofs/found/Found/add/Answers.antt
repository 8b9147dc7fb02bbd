use Rattle.std.proofs.Common.{sym, subst, ◌∙◌}
use Rattle.rg_tree.specs.declared.rows.MemberRow.{MemberRow}
use Rattle.rg_names.specs.Judged.{JudgedAs}
use Rattle.rg_names.proofs.MemberSteps.{header}
use Rattle.rg_names.proofs.found.Found.add.Goals as goal

pub returns-in-Method-clause-judged : goal.returns-in-Method-clause-judged
returns-in-Method-clause-judged c =
    subst (λ (m : MemberRow). JudgedAs (header c.args.program.now c.requires.heads.rows.names c.args.class c.args.self.now.entries c.requires.named m)
    c.add_method.result) (c.method_row-method.ensures ∙ sym c.in-Method.is) c.add_method.ensures.judged
