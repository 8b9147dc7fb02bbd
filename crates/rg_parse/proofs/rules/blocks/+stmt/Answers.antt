use Rattle.std.proofs.Common.{ap, arith}
use Rattle.rg_tree.specs.Forms as form
use Rattle.rg_reader.specs.declared.reader.limits.Role.TheVariants as role
use Rattle.rg_tree.specs.Phrases as p
use Rattle.rg_tree.specs.Table.{row}
use Rattle.rg_parse.specs.Inner.Starts.{stmt_start}
use Rattle.rg_reader.proofs.Tokens.{exit, started}
use Rattle.rg_reader.proofs.Halting.{halts-none, halts-row, halts-here, halts-took, halts-found, halts-declared, took-next}
use Rattle.rg_reader.proofs.Growing.{found-there}
use Rattle.rg_reader.proofs.Loops.{along-stops}
use Rattle.rg_parse.proofs.StmtRows.{block-found, block-halts, else-found, no_else-found, no_else-row, if-row, if-found, while-row, while-found}
use Rattle.rg_parse.proofs.StmtRows.{enter-row, enter-found, no-stmt, stmt-found, stmts-start, stmts-step, stmts-stop, stmts-end}
use Rattle.rg_parse.proofs.rules.blocks.+stmt.Goals as goal

pub behind_if-returns-else-is_next-clause-ok : goal.behind_if-returns-else-is_next-clause-ok
behind_if-returns-else-is_next-clause-ok t c = no_else-found _ (no_else-row _ c.if-is_next.ensures)

pub kind-returns-in-Nothing-clause-fault : goal.kind-returns-in-Nothing-clause-fault
kind-returns-in-Nothing-clause-fault t c = halts-none _ (no-stmt _ (started stmt_start c.next.ensures c.in-Nothing.ensures))

pub stmt-add_stmt-requires : goal.stmt-add_stmt-requires
stmt-add_stmt-requires t c = found-there c.in_ok-kind.ensures.ok

pub stmt-returns-clause-ok : goal.stmt-returns-clause-ok
stmt-returns-clause-ok t c = stmt-found _ c.no_signs.ensures.reset c.line-line.ensures c.in_ok-kind.ensures.ok c.in_ok-number.ensures.kept
    c.in_ok-number.ensures.means

pub stmts-loop-reader-init : goal.stmts-loop-reader-init
stmts-loop-reader-init t c = record { read = rw c.new-numbers.ensures.items (stmts-start _); shorter = omega arith }

pub stmts-returns-in_err-number-clause-fault : goal.stmts-returns-in_err-number-clause-fault
stmts-returns-in_err-number-clause-fault t c = exit _ c.from_residual.ensures.1 (along-stops _ c.loop-reader.invariant.read
    (stmts-stop _ _ c.loop-reader-test.ensures c.in_err-number.ensures.fault))

pub stmts-loop-reader-preserved : goal.stmts-loop-reader-preserved
stmts-loop-reader-preserved t c = record {
  read = rw c.in_ok-keep.ensures.ok
      (stmts-step c.loop-reader.invariant.read c.loop-reader-test.ensures c.in_ok-number.ensures.ok);
  shorter = omega
      (arith, c.in_ok-number.ensures.shorter);
}

pub stmts-returns-clause-ok : goal.stmts-returns-clause-ok
stmts-returns-clause-ok t c = stmts-end c.loop-reader.invariant.read c.loop-reader-test.ensures c.no_signs.ensures.reset c.in_ok-span.ensures.kept
    (rw c.deref.ensures.value at c.in_ok-span.ensures.means)

pub block-returns-in_err-take-clause-fault : goal.block-returns-in_err-take-clause-fault
block-returns-in_err-take-clause-fault t c = exit _ c.from_residual.ensures.1 (block-halts _ _ c.in_err-take.ensures.fault)

pub block-returns-in_err-body-clause-fault : goal.block-returns-in_err-body-clause-fault
block-returns-in_err-body-clause-fault t c = exit _ c.from_residual-in_err-body.ensures.1 (halts-row _ _ (ap (row p.Block)
    (took-next c.in_ok-take.ensures.ok)) (halts-took _ c.in_ok-take.ensures.ok (halts-here _ c.in_err-body.ensures.fault)))

pub block-returns-in_err-take-2-clause-fault : goal.block-returns-in_err-take-2-clause-fault
block-returns-in_err-take-2-clause-fault t c = exit _ c.from_residual-in_err-take-2.ensures.1 (halts-row _ _ (ap (row p.Block)
    (took-next c.in_ok-take.ensures.ok)) (halts-took _ c.in_ok-take.ensures.ok (halts-found form.Stmts _ tt c.in_ok-body.ensures.ok
    (halts-here _ c.in_err-take-2.ensures.fault))))

pub block-returns-clause-ok : goal.block-returns-clause-ok
block-returns-clause-ok t c = block-found c.in_ok-take.ensures.ok c.in_ok-body.ensures.ok c.in_ok-take-2.ensures.ok

pub else_row-returns-in_err-take-clause-fault : goal.else_row-returns-in_err-take-clause-fault
else_row-returns-in_err-take-clause-fault t c = exit _ c.from_residual.ensures.1 (halts-row _ _ (ap (row p.Else) c.requires)
    (halts-here _ c.in_err-take.ensures.fault))

pub else_row-returns-in_err-body-clause-fault : goal.else_row-returns-in_err-body-clause-fault
else_row-returns-in_err-body-clause-fault t c = exit _ c.from_residual-in_err-body.ensures.1 (halts-row _ _ (ap (row p.Else) c.requires)
    (halts-took _ c.in_ok-take.ensures.ok (halts-here _ c.in_err-body.ensures.fault)))

pub else_row-returns-clause-ok : goal.else_row-returns-clause-ok
else_row-returns-clause-ok t c = else-found c.in_ok-take.ensures.ok c.in_ok-body.ensures.ok

pub if_row-returns-in_err-take-clause-fault : goal.if_row-returns-in_err-take-clause-fault
if_row-returns-in_err-take-clause-fault t c = exit _ c.from_residual.ensures.1 (halts-row _ _ (if-row _ c.requires)
    (halts-here _ c.in_err-take.ensures.fault))

pub if_row-returns-in_err-test-clause-fault : goal.if_row-returns-in_err-test-clause-fault
if_row-returns-in_err-test-clause-fault t c = exit _ c.from_residual-in_err-test.ensures.1 (halts-row _ _ (if-row _ c.requires)
    (halts-took _ c.in_ok-take.ensures.ok (halts-here _ c.in_err-test.ensures.fault)))

pub if_row-returns-in_err-yes-clause-fault : goal.if_row-returns-in_err-yes-clause-fault
if_row-returns-in_err-yes-clause-fault t c = exit _ c.from_residual-in_err-yes.ensures.1 (halts-row _ _ (if-row _ c.requires)
    (halts-took _ c.in_ok-take.ensures.ok (halts-found form.Expr _ tt c.in_ok-test.ensures.ok (halts-here _ c.in_err-yes.ensures.fault))))

pub if_row-returns-in_err-no-clause-fault : goal.if_row-returns-in_err-no-clause-fault
if_row-returns-in_err-no-clause-fault t c = exit _ c.from_residual-in_err-no.ensures.1 (halts-row _ _ (if-row _ c.requires)
    (halts-took _ c.in_ok-take.ensures.ok (halts-found form.Expr _ tt c.in_ok-test.ensures.ok (halts-found form.Block _ tt c.in_ok-yes.ensures.ok
    (halts-here _ c.in_err-no.ensures.fault)))))

pub if_row-returns-clause-ok : goal.if_row-returns-clause-ok
if_row-returns-clause-ok t c = if-found c.in_ok-take.ensures.ok c.in_ok-test.ensures.ok c.in_ok-yes.ensures.ok c.in_ok-no.ensures.ok

pub while_row-returns-in_err-take-clause-fault : goal.while_row-returns-in_err-take-clause-fault
while_row-returns-in_err-take-clause-fault t c = exit _ c.from_residual.ensures.1 (halts-row _ _ (while-row _ c.requires)
    (halts-here _ c.in_err-take.ensures.fault))

pub while_row-returns-in_err-test-clause-fault : goal.while_row-returns-in_err-test-clause-fault
while_row-returns-in_err-test-clause-fault t c = exit _ c.from_residual-in_err-test.ensures.1 (halts-row _ _ (while-row _ c.requires)
    (halts-took _ c.in_ok-take.ensures.ok (halts-here _ c.in_err-test.ensures.fault)))

pub while_row-returns-in_err-body-clause-fault : goal.while_row-returns-in_err-body-clause-fault
while_row-returns-in_err-body-clause-fault t c = exit _ c.from_residual-in_err-body.ensures.1 (halts-row _ _ (while-row _ c.requires)
    (halts-took _ c.in_ok-take.ensures.ok (halts-found form.Expr _ tt c.in_ok-test.ensures.ok (halts-here _ c.in_err-body.ensures.fault))))

pub while_row-returns-clause-ok : goal.while_row-returns-clause-ok
while_row-returns-clause-ok t c = while-found c.in_ok-take.ensures.ok c.in_ok-test.ensures.ok c.in_ok-body.ensures.ok

pub enter_row-returns-in_err-take-clause-fault : goal.enter_row-returns-in_err-take-clause-fault
enter_row-returns-in_err-take-clause-fault t c = exit _ c.from_residual.ensures.1 (halts-row _ _ (enter-row _ c.requires)
    (halts-here _ c.in_err-take.ensures.fault))

pub enter_row-returns-in_err-path-clause-fault : goal.enter_row-returns-in_err-path-clause-fault
enter_row-returns-in_err-path-clause-fault t c = exit _ c.from_residual-in_err-path.ensures.1 (halts-row _ _ (enter-row _ c.requires)
    (halts-took _ c.in_ok-take.ensures.ok (halts-here _ c.in_err-path.ensures.fault)))

pub enter_row-returns-in_err-take-2-clause-fault : goal.enter_row-returns-in_err-take-2-clause-fault
enter_row-returns-in_err-take-2-clause-fault t c = exit _ c.from_residual-in_err-take-2.ensures.1 (halts-row _ _ (enter-row _ c.requires)
    (halts-took _ c.in_ok-take.ensures.ok (halts-found form.Path _ tt c.in_ok-path.ensures.ok (halts-here _ c.in_err-take-2.ensures.fault))))

pub enter_row-returns-in_err-name-clause-fault : goal.enter_row-returns-in_err-name-clause-fault
enter_row-returns-in_err-name-clause-fault t c = exit _ c.from_residual-in_err-name.ensures.1 (halts-row _ _ (enter-row _ c.requires)
    (halts-took _ c.in_ok-take.ensures.ok (halts-found form.Path _ tt c.in_ok-path.ensures.ok (halts-took _ c.in_ok-take-2.ensures.ok
    (halts-here _ c.in_err-name.ensures.fault)))))

pub enter_row-returns-in_err-body-clause-fault : goal.enter_row-returns-in_err-body-clause-fault
enter_row-returns-in_err-body-clause-fault t c = exit _ c.from_residual-in_err-body.ensures.1 (halts-row _ _ (enter-row _ c.requires)
    (halts-took _ c.in_ok-take.ensures.ok (halts-found form.Path _ tt c.in_ok-path.ensures.ok (halts-took _ c.in_ok-take-2.ensures.ok
    (halts-declared role.Local _ c.in_ok-name.ensures.ok (halts-here _ c.in_err-body.ensures.fault))))))

pub enter_row-returns-in_err-giving-clause-fault : goal.enter_row-returns-in_err-giving-clause-fault
enter_row-returns-in_err-giving-clause-fault t c = exit _ c.from_residual-in_err-giving.ensures.1 (halts-row _ _ (enter-row _ c.requires)
    (halts-took _ c.in_ok-take.ensures.ok (halts-found form.Path _ tt c.in_ok-path.ensures.ok (halts-took _ c.in_ok-take-2.ensures.ok
    (halts-declared role.Local _ c.in_ok-name.ensures.ok (halts-found form.Block _ tt c.in_ok-body.ensures.ok
    (halts-here _ c.in_err-giving.ensures.fault)))))))

pub enter_row-returns-clause-ok : goal.enter_row-returns-clause-ok
enter_row-returns-clause-ok t c = enter-found c.in_ok-take.ensures.ok c.in_ok-path.ensures.ok c.in_ok-take-2.ensures.ok c.in_ok-name.ensures.ok
    c.in_ok-body.ensures.ok c.in_ok-giving.ensures.ok
