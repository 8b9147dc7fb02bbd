use Rattle.std.proofs.Common.{sym, subst}
use Rattle.rg_tree.specs.Rows.RowTrees.{stmt_at, kind_over}
use Rattle.rg_tree.specs.declared.rows.StmtKind.{StmtKind}
use Rattle.rg_plain.specs.Inner.Says.{SaysIs}
use Rattle.rg_plain.proofs.steps.says.said.Goals as goal

pub returns-in-Let-clause-is : goal.returns-in-Let-clause-is
returns-in-Let-clause-is c t =
    subst (λ (k : StmtKind). SaysIs t (kind_over t (stmt_at t) k) c.said_right.result) (sym c.in-Let.is) (c.said_right.ensures.is t)

pub returns-in-Set-clause-is : goal.returns-in-Set-clause-is
returns-in-Set-clause-is c t =
    subst (λ (k : StmtKind). SaysIs t (kind_over t (stmt_at t) k) c.said_right-in-Set.result) (sym c.in-Set.is) (c.said_right-in-Set.ensures.is t)

pub returns-in-SetAt-clause-is : goal.returns-in-SetAt-clause-is
returns-in-SetAt-clause-is c t =
    subst (λ (k : StmtKind). SaysIs t (kind_over t (stmt_at t) k) c.said_right-in-SetAt.result) (sym c.in-SetAt.is) (c.said_right-in-SetAt.ensures.is t)
