use Rattle.std.proofs.Common.{ap, arith}
use Rattle.std.proofs.lemmas.Result.{IfOk-weaker, IfErr-weaker}
use Rattle.rg_tree.specs.Forms as form
use Rattle.rg_tree.specs.Phrases as p
use Rattle.rg_tree.specs.Table.{row}
use Rattle.rg_reader.specs.Inner.Starts.{primary_start}
use Rattle.rg_reader.proofs.Tokens.{exit, started}
use Rattle.rg_reader.proofs.Halting.{halts-none, halts-row, halts-here, halts-took, halts-found}
use Rattle.rg_reader.proofs.Growing.{found-there}
use Rattle.rg_reader.proofs.ExprRows.{chain-start, chain-step, chain-end, chain-left_halts, chain-sign_halts, chain-right_halts, chain-there}
use Rattle.rg_reader.proofs.ExprRows.{not-found, no_not-found, no_not-halts, not_compared-found, compared-found, compared-left_halts}
use Rattle.rg_reader.proofs.ExprRows.{compared-sign_halts, compared-right_halts, compared-there, minus-found, no_minus-found, no_minus-halts}
use Rattle.rg_reader.proofs.ExprRows.{no-primary, paren-row, parens-found, path-row, path-found, is_nil-found, element-found, no_is-found}
use Rattle.rg_reader.proofs.ExprRows.{some_index-found}
use Rattle.rg_reader.proofs.reader.Reader.+expr.Goals as goal

pub chain-returns-in_err-left-clause-fault : goal.chain-returns-in_err-left-clause-fault
chain-returns-in_err-left-clause-fault t c = exit _ c.from_residual.ensures.1 (chain-left_halts c.args.level _ c.in_err-left.ensures.fault)

pub chain-loop-kind-init : goal.chain-loop-kind-init
chain-loop-kind-init t c = record { read = chain-start c.args.level c.in_ok-left.ensures.ok; shorter = c.in_ok-left.ensures.shorter }

pub chain-returns-in_err-sign-clause-fault : goal.chain-returns-in_err-sign-clause-fault
chain-returns-in_err-sign-clause-fault t c = exit _ c.from_residual-in_err-sign.ensures.1
    (chain-sign_halts c.args.level _ _ _ c.loop-kind.invariant.read (rw c.next.ensures at c.in-Some.ensures) c.in_err-sign.ensures.fault)

pub chain-returns-in_err-right-clause-fault : goal.chain-returns-in_err-right-clause-fault
chain-returns-in_err-right-clause-fault t c = exit _ c.from_residual-in_err-right.ensures.1
    (chain-right_halts c.args.level _ _ _ c.loop-kind.invariant.read
    (rw c.next.ensures at c.in-Some.ensures) c.in_ok-sign.ensures.ok c.in_err-right.ensures.fault)

pub chain-add_expr-requires : goal.chain-add_expr-requires
chain-add_expr-requires t c = chain-there c.args.level _ c.loop-kind.invariant.read c.in_ok-sign.ensures.ok c.in_ok-right.ensures.ok

pub chain-loop-kind-preserved : goal.chain-loop-kind-preserved
chain-loop-kind-preserved t c = record {
  read = chain-step c.args.level _ _ c.loop-kind.invariant.read
      (rw c.next.ensures at c.in-Some.ensures) c.in_ok-sign.ensures.ok c.in_ok-right.ensures.ok c.in_ok-left-2.ensures.kept
      c.in_ok-left-2.ensures.means;
  shorter = omega (arith, c.in_ok-sign.ensures.shorter, c.in_ok-right.ensures.shorter, c.in_ok-left-2.ensures.shorter);
}

pub chain-returns-clause-ok : goal.chain-returns-clause-ok
chain-returns-clause-ok t c = chain-end c.args.level c.loop-kind.invariant.read (rw c.next.ensures at c.in_default.ensures)

pub comparison-returns-in_err-left-clause-fault : goal.comparison-returns-in_err-left-clause-fault
comparison-returns-in_err-left-clause-fault t c = exit _ c.from_residual.ensures.1 (compared-left_halts _ c.in_err-left.ensures.fault)

pub comparison-returns-in_default-clause-ok : goal.comparison-returns-in_default-clause-ok
comparison-returns-in_default-clause-ok t c = not_compared-found c.in_ok-left.ensures.ok (rw c.next.ensures at c.in_default.ensures)

pub comparison-returns-in_err-sign-clause-fault : goal.comparison-returns-in_err-sign-clause-fault
comparison-returns-in_err-sign-clause-fault t c = exit _ c.from_residual-in_err-sign.ensures.1 (compared-sign_halts _ _ _ c.in_ok-left.ensures.ok
    (rw c.next.ensures at c.in-Some.ensures) c.in_err-sign.ensures.fault)

pub comparison-returns-in_err-right-clause-fault : goal.comparison-returns-in_err-right-clause-fault
comparison-returns-in_err-right-clause-fault t c = exit _ c.from_residual-in_err-right.ensures.1
    (compared-right_halts _ _ _ c.in_ok-left.ensures.ok
    (rw c.next.ensures at c.in-Some.ensures) c.in_ok-sign.ensures.ok c.in_err-right.ensures.fault)

pub comparison-add_expr-requires : goal.comparison-add_expr-requires
comparison-add_expr-requires t c = compared-there _ c.in_ok-left.ensures.ok c.in_ok-sign.ensures.ok c.in_ok-right.ensures.ok

pub comparison-returns-clause-ok : goal.comparison-returns-clause-ok
comparison-returns-clause-ok t c = compared-found _ _ c.in_ok-left.ensures.ok
    (rw c.next.ensures at c.in-Some.ensures) c.in_ok-sign.ensures.ok c.in_ok-right.ensures.ok c.in_ok-number.ensures.kept c.in_ok-number.ensures.means

pub minus_row-add_expr-requires : goal.minus_row-add_expr-requires
minus_row-add_expr-requires t c = found-there c.in_ok-inner.ensures.ok

pub negation-returns-else-is_next-clause-ok : goal.negation-returns-else-is_next-clause-ok
negation-returns-else-is_next-clause-ok t c = IfOk-weaker c.comparison.result _ _
    (λ n f. no_not-found c.if-is_next.ensures f) c.comparison.ensures.ok

pub negation-returns-else-is_next-clause-fault : goal.negation-returns-else-is_next-clause-fault
negation-returns-else-is_next-clause-fault t c = IfErr-weaker c.comparison.result _ _
    (λ e h. no_not-halts e c.if-is_next.ensures h) c.comparison.ensures.fault

pub not_row-add_expr-requires : goal.not_row-add_expr-requires
not_row-add_expr-requires t c = found-there c.in_ok-inner.ensures.ok

pub operand-returns-in-Or-clause-ok : goal.operand-returns-in-Or-clause-ok
operand-returns-in-Or-clause-ok t c = rw c.in-Or.is c.chain.ensures.ok

pub operand-returns-in-And-clause-ok : goal.operand-returns-in-And-clause-ok
operand-returns-in-And-clause-ok t c = rw c.in-And.is c.negation.ensures.ok

pub operand-returns-in-Sum-clause-ok : goal.operand-returns-in-Sum-clause-ok
operand-returns-in-Sum-clause-ok t c = rw c.in-Sum.is c.chain-in-Sum.ensures.ok

pub operand-returns-in-Product-clause-ok : goal.operand-returns-in-Product-clause-ok
operand-returns-in-Product-clause-ok t c = rw c.in-Product.is c.unary.ensures.ok

pub primary-returns-in-Nothing-clause-fault : goal.primary-returns-in-Nothing-clause-fault
primary-returns-in-Nothing-clause-fault t c = halts-none _ (no-primary _ (started primary_start c.next.ensures c.in-Nothing.ensures))

pub unary-returns-else-is_next-clause-ok : goal.unary-returns-else-is_next-clause-ok
unary-returns-else-is_next-clause-ok t c = IfOk-weaker c.primary.result _ _ (λ n f. no_minus-found c.if-is_next.ensures f) c.primary.ensures.ok

pub unary-returns-else-is_next-clause-fault : goal.unary-returns-else-is_next-clause-fault
unary-returns-else-is_next-clause-fault t c = IfErr-weaker c.primary.result _ _
    (λ e h. no_minus-halts e c.if-is_next.ensures h) c.primary.ensures.fault

pub not_row-returns-in_err-take-clause-fault : goal.not_row-returns-in_err-take-clause-fault
not_row-returns-in_err-take-clause-fault t c = exit _ c.from_residual.ensures.1 (halts-row _ _ (ap (row p.Not) c.requires)
    (halts-here _ c.in_err-take.ensures.fault))

pub not_row-returns-in_err-inner-clause-fault : goal.not_row-returns-in_err-inner-clause-fault
not_row-returns-in_err-inner-clause-fault t c = exit _ c.from_residual-in_err-inner.ensures.1 (halts-row _ _ (ap (row p.Not) c.requires)
    (halts-took _ c.in_ok-take.ensures.ok (halts-here _ c.in_err-inner.ensures.fault)))

pub not_row-returns-clause-ok : goal.not_row-returns-clause-ok
not_row-returns-clause-ok t c = not-found c.in_ok-take.ensures.ok c.in_ok-inner.ensures.ok c.in_ok-number.ensures.kept c.in_ok-number.ensures.means

pub minus_row-returns-in_err-take-clause-fault : goal.minus_row-returns-in_err-take-clause-fault
minus_row-returns-in_err-take-clause-fault t c = exit _ c.from_residual.ensures.1 (halts-row _ _ (ap (row p.Unary) c.requires)
    (halts-here _ c.in_err-take.ensures.fault))

pub minus_row-returns-in_err-inner-clause-fault : goal.minus_row-returns-in_err-inner-clause-fault
minus_row-returns-in_err-inner-clause-fault t c = exit _ c.from_residual-in_err-inner.ensures.1 (halts-row _ _ (ap (row p.Unary) c.requires)
    (halts-took _ c.in_ok-take.ensures.ok (halts-here _ c.in_err-inner.ensures.fault)))

pub minus_row-returns-clause-ok : goal.minus_row-returns-clause-ok
minus_row-returns-clause-ok t c = minus-found c.in_ok-take.ensures.ok c.in_ok-inner.ensures.ok c.in_ok-number.ensures.kept
    c.in_ok-number.ensures.means

pub parens-returns-in_err-take-clause-fault : goal.parens-returns-in_err-take-clause-fault
parens-returns-in_err-take-clause-fault t c = exit _ c.from_residual.ensures.1 (halts-row _ _ (paren-row _ c.requires)
    (halts-here _ c.in_err-take.ensures.fault))

pub parens-returns-in_err-inner-clause-fault : goal.parens-returns-in_err-inner-clause-fault
parens-returns-in_err-inner-clause-fault t c = exit _ c.from_residual-in_err-inner.ensures.1 (halts-row _ _ (paren-row _ c.requires)
    (halts-took _ c.in_ok-take.ensures.ok (halts-here _ c.in_err-inner.ensures.fault)))

pub parens-returns-in_err-take-2-clause-fault : goal.parens-returns-in_err-take-2-clause-fault
parens-returns-in_err-take-2-clause-fault t c = exit _ c.from_residual-in_err-take-2.ensures.1 (halts-row _ _ (paren-row _ c.requires)
    (halts-took _ c.in_ok-take.ensures.ok (halts-found form.Expr _ tt c.in_ok-inner.ensures.ok (halts-here _ c.in_err-take-2.ensures.fault))))

pub parens-returns-clause-ok : goal.parens-returns-clause-ok
parens-returns-clause-ok t c = parens-found c.in_ok-take.ensures.ok c.in_ok-inner.ensures.ok c.in_ok-take-2.ensures.ok

pub path_value-returns-in_err-path-clause-fault : goal.path_value-returns-in_err-path-clause-fault
path_value-returns-in_err-path-clause-fault t c = exit _ c.from_residual.ensures.1 (halts-row _ _ (path-row _ c.requires)
    (halts-here _ c.in_err-path.ensures.fault))

pub path_value-returns-in_err-row-clause-fault : goal.path_value-returns-in_err-row-clause-fault
path_value-returns-in_err-row-clause-fault t c = exit _ c.from_residual-in_err-row.ensures.1 (halts-row _ _ (path-row _ c.requires)
    (halts-found form.Path _ tt c.in_ok-path.ensures.ok (halts-here _ c.in_err-row.ensures.fault)))

pub path_value-behind_path-requires : goal.path_value-behind_path-requires
path_value-behind_path-requires t c =
    let l = c.in_ok-path.ensures.shorter in (omega arith, found-there c.in_ok-path.ensures.ok)

pub path_value-add_expr-requires : goal.path_value-add_expr-requires
path_value-add_expr-requires t c = found-there c.in_ok-row.ensures.ok

pub path_value-returns-clause-ok : goal.path_value-returns-clause-ok
path_value-returns-clause-ok t c = path-found c.in_ok-path.ensures.ok c.in_ok-row.ensures.ok c.in_ok-number.ensures.kept
    c.in_ok-number.ensures.means

pub behind_path-returns-in_err-take-clause-fault : goal.behind_path-returns-in_err-take-clause-fault
behind_path-returns-in_err-take-clause-fault t c = exit _ c.from_residual.ensures.1 (halts-row _ _ (ap (row p.Is) c.if-is_next.ensures)
    (halts-here _ c.in_err-take.ensures.fault))

pub behind_path-returns-in_err-take-2-clause-fault : goal.behind_path-returns-in_err-take-2-clause-fault
behind_path-returns-in_err-take-2-clause-fault t c = exit _ c.from_residual-in_err-take-2.ensures.1
    (halts-row _ _ (ap (row p.Is) c.if-is_next.ensures)
    (halts-took _ c.in_ok-take.ensures.ok (halts-here _ c.in_err-take-2.ensures.fault)))

pub behind_path-returns-in_ok-take-2-clause-ok : goal.behind_path-returns-in_ok-take-2-clause-ok
behind_path-returns-in_ok-take-2-clause-ok t c = is_nil-found _ c.requires c.in_ok-take.ensures.ok c.in_ok-take-2.ensures.ok

pub behind_path-returns-in_err-index-clause-fault : goal.behind_path-returns-in_err-index-clause-fault
behind_path-returns-in_err-index-clause-fault t c = exit _ c.from_residual-in_err-index.ensures.1
    (halts-row _ _ (ap (row p.Is) c.if-is_next-2.ensures) c.in_err-index.ensures.fault)

pub behind_path-returns-in_ok-index-clause-ok : goal.behind_path-returns-in_ok-index-clause-ok
behind_path-returns-in_ok-index-clause-ok t c = element-found _ c.requires c.in_ok-index.ensures.ok

pub behind_path-returns-else-is_next-2-clause-ok : goal.behind_path-returns-else-is_next-2-clause-ok
behind_path-returns-else-is_next-2-clause-ok t c = no_is-found _ _ c.requires c.if-is_next.ensures c.if-is_next-2.ensures

pub some_index-returns-in_err-take-clause-fault : goal.some_index-returns-in_err-take-clause-fault
some_index-returns-in_err-take-clause-fault t c = exit _ c.from_residual.ensures.1 (halts-here _ c.in_err-take.ensures.fault)

pub some_index-returns-in_err-inner-clause-fault : goal.some_index-returns-in_err-inner-clause-fault
some_index-returns-in_err-inner-clause-fault t c = exit _ c.from_residual-in_err-inner.ensures.1
    (halts-took _ c.in_ok-take.ensures.ok (halts-here _ c.in_err-inner.ensures.fault))

pub some_index-returns-in_err-take-2-clause-fault : goal.some_index-returns-in_err-take-2-clause-fault
some_index-returns-in_err-take-2-clause-fault t c = exit _ c.from_residual-in_err-take-2.ensures.1
    (halts-took _ c.in_ok-take.ensures.ok (halts-found form.Expr _ tt c.in_ok-inner.ensures.ok (halts-here _ c.in_err-take-2.ensures.fault)))

pub some_index-returns-clause-ok : goal.some_index-returns-clause-ok
some_index-returns-clause-ok t c = some_index-found c.in_ok-take.ensures.ok c.in_ok-inner.ensures.ok c.in_ok-take-2.ensures.ok
