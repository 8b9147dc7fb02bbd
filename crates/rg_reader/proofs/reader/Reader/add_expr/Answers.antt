use Rattle.std.proofs.Common.{ap, arith}
use Rattle.rg_base.proofs.Callers.Lists.{below}
use Rattle.rg_reader.proofs.Growing.{kept-with}
use Rattle.rg_tree.proofs.Adding.{expr-means}
use Rattle.rg_reader.proofs.reader.Reader.add_expr.Goals as goal

pub add_expr-requires : goal.add_expr-requires
add_expr-requires c = rw (← c.self.view_is) at c.requires

pub returns-clause-kept : goal.returns-clause-kept
returns-clause-kept c = rw (← c.self.view_is) (kept-with c.in-Ok.ensures.keeps (ap (λ t. t.classes) c.in-Ok.ensures.row))

pub returns-clause-means : goal.returns-clause-means
returns-clause-means c =
    let added = c.in-Ok.ensures in
    rw (← c.self.view_is) (expr-means _ _ added.tree (below _ _ _ c.in-Ok.number (ap (λ t. t.exprs) added.row) added.number))

pub returns-clause-shorter : goal.returns-clause-shorter
returns-clause-shorter c = rw (← c.self.view_is) (omega arith)
