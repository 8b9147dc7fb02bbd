use Rattle.std.proofs.Common.{Ok, sym, ◌∙◌, ap, arith}
use Rattle.rg_lex.proofs.Progress.{stands-last, stands-fault, goes, stands-none, stands-some}
use Rattle.rg_lex.proofs.Spans.{cut-spans, cut-lines, line_after-near}
use Rattle.rg_lex.proofs.cut.tokens.Goals as goal

pub returns-in-Err-clause-cut : goal.returns-in-Err-clause-cut
returns-in-Err-clause-cut c = stands-fault _ _ _ _ _ c.loop-at.invariant.stands c.loop-at-test.true c.in-Err.ensures

pub overflow_add-to : goal.overflow_add-to
overflow_add-to c = omega (arith, (goes _ _ c.in-Ok.front c.loop-at-test.true c.in-Ok.ensures).within)

pub loop-at-smaller-in-None : goal.loop-at-smaller-in-None
loop-at-smaller-in-None c = let g = goes _ _ c.in-Ok.front c.loop-at-test.true c.in-Ok.ensures in omega (arith, g.some, g.within)

pub loop-at-preserved-in-None : goal.loop-at-preserved-in-None
loop-at-preserved-in-None c =
    let near = line_after-near c.loop-at.line in
    let next = stands-none _ _ _ _ c.in-Ok.front c.loop-at.invariant.stands c.loop-at-test.true c.in-Ok.ensures c.in-None.is in
    record {
      small = omega (arith, near, (goes _ _ c.in-Ok.front c.loop-at-test.true c.in-Ok.ensures).some);
      stands = rw c.next_line-line.ensures next;
    }

pub loop-at-smaller : goal.loop-at-smaller
loop-at-smaller c = let g = goes _ _ c.in-Ok.front c.loop-at-test.true c.in-Ok.ensures in omega (arith, g.some, g.within)

pub loop-at-preserved : goal.loop-at-preserved
loop-at-preserved c =
    let next = stands-some _ _ _ _ c.in-Ok.front c.in-Some.kind c.loop-at.invariant.stands c.loop-at-test.true c.in-Ok.ensures c.in-Some.is in
    record { small = omega arith; stands = rw c.in-Ok-push.ensures.items next }

pub returns-clause-cut : goal.returns-clause-cut
returns-clause-cut c = (stands-last _ _ _ _ c.loop-at.invariant.stands c.loop-at-test.false).0 ∙ ap (λ t. Ok t.tokens) (sym c.of.ensures)

pub returns-clause-spans : goal.returns-clause-spans
returns-clause-spans c = cut-spans _ _ (returns-clause-cut c)

pub returns-clause-lines : goal.returns-clause-lines
returns-clause-lines c = cut-lines _ _ (returns-clause-cut c)
