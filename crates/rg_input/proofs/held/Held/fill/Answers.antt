use Rattle.std.proofs.Common.{◌≡◌, ◌∙◌, false, [], append-nil, refl, sym, ap, subst, arith, rules}
use Rattle.std.proofs.lemmas.Result.{err_from_is_err_and}
use Rattle.rg_io.proofs.Content.{Gives-none}
use Rattle.rg_input.specs.Numbers.{Pending, PiecesCame, nothing_came}
use Rattle.rg_input.specs.Inner.Held.{has_enough, looked_at, pending, Reads}
use Rattle.rg_input.proofs.LookingAhead.{Reads-came, still-held, PiecesCame-refilled, AsksFor-failed}
use Rattle.rg_input.proofs.Holding.{short-looked, has-more}
use Rattle.rg_input.proofs.held.Held.fill.Goals as goal

pub loop-ahead-init : goal.loop-ahead-init
loop-ahead-init g c = record {
  follows = c.requires;
  reads = record {
    read = [];
    given = Gives-none (g.S.Source.left c.args.source.now);
    kept = sym (append-nil (pending c.args.self.now c.args.ahead.now).held);
    ended = λ over. (refl, over);
  };
  idle = λ sure. refl;
  unasked = λ sure. refl;
  asked = nothing_came;
  quiet = refl;
  never_falls = omega arith;
}

pub loop-ahead-preserved : goal.loop-ahead-preserved
loop-ahead-preserved g c =
    let first = g.S.Source.left c.args.source.now in
    let left = g.S.Source.left c.loop-ahead.source in
    let left' = g.S.Source.left c.refill.new.source in
    let old = pending c.args.self.now c.args.ahead.now in
    let looked = looked_at c.loop-ahead.self in
    let short : has_enough c.loop-ahead.self ≡ false = search rules in
    let kept = c.take_run.ensures.kept in record {
      follows = λ over. c.in_ok-refill.ensures.follows (sym (ap (λ (n : Pending). n.ended) kept) ∙ over);
      reads = subst (λ (n : Pending). Reads first left' old n) (sym kept)
          (Reads-came first left left' old c.loop-ahead.ahead c.refill.new.self looked c.loop-ahead.invariant.reads c.in_ok-refill.ensures.came);
      idle = λ sure. kept ∙ still-held left left' old c.loop-ahead.ahead c.refill.new.self looked (short-looked c.loop-ahead.self short)
          c.in_ok-refill.ensures.came c.loop-ahead.invariant.idle sure;
      unasked = λ sure. c.in_ok-refill.ensures.unasked
          (has-more c.loop-ahead.self old c.loop-ahead.ahead short c.loop-ahead.invariant.idle sure) ∙ c.loop-ahead.invariant.unasked sure;
      asked = subst (λ n. PiecesCame g.S.Source.replies old c.args.source.now n c.refill.new.source) (sym kept)
          (PiecesCame-refilled g.S.Source.replies old c.loop-ahead.ahead c.refill.new.self looked c.args.source.now c.loop-ahead.source
          c.refill.new.source (short-looked c.loop-ahead.self short) c.loop-ahead.invariant.asked c.in_ok-refill.ensures.asks);
      quiet = c.in_ok-refill.ensures.quiet ∙ c.loop-ahead.invariant.quiet;
      never_falls = omega (arith, c.in_ok-refill.ensures.never_falls, c.loop-ahead.invariant.never_falls);
    }

pub returns-in_err-refill-clause-reads : goal.returns-in_err-refill-clause-reads
returns-in_err-refill-clause-reads g c =
    Reads-came (g.S.Source.left c.args.source.now) (g.S.Source.left c.loop-ahead.source) (g.S.Source.left c.refill.new.source)
    (pending c.args.self.now c.args.ahead.now) c.loop-ahead.ahead c.refill.new.self (looked_at c.loop-ahead.self) c.loop-ahead.invariant.reads
    c.in_err-refill.ensures.came

pub returns-in_err-refill-clause-idle : goal.returns-in_err-refill-clause-idle
returns-in_err-refill-clause-idle g c sure =
    let short : has_enough c.loop-ahead.self ≡ false = search rules in
    let old = pending c.args.self.now c.args.ahead.now in
    absurd (has-more c.loop-ahead.self old c.loop-ahead.ahead short c.loop-ahead.invariant.idle sure c.in_err-refill.ensures.needed)

pub returns-in_err-refill-clause-unasked : goal.returns-in_err-refill-clause-unasked
returns-in_err-refill-clause-unasked g c sure =
    let short : has_enough c.loop-ahead.self ≡ false = search rules in
    let old = pending c.args.self.now c.args.ahead.now in
    absurd (has-more c.loop-ahead.self old c.loop-ahead.ahead short c.loop-ahead.invariant.idle sure c.in_err-refill.ensures.needed)

pub returns-then-is_empty-clause-reads : goal.returns-then-is_empty-clause-reads
returns-then-is_empty-clause-reads g c =
    Reads-came (g.S.Source.left c.args.source.now) (g.S.Source.left c.loop-ahead.source) (g.S.Source.left c.refill.new.source)
    (pending c.args.self.now c.args.ahead.now) c.loop-ahead.ahead c.refill.new.self (looked_at c.loop-ahead.self) c.loop-ahead.invariant.reads
    c.in_ok-refill.ensures.came

pub returns-then-is_empty-clause-idle : goal.returns-then-is_empty-clause-idle
returns-then-is_empty-clause-idle g c sure =
    let short : has_enough c.loop-ahead.self ≡ false = search rules in
    let still = still-held (g.S.Source.left c.loop-ahead.source) (g.S.Source.left c.refill.new.source)
    (pending c.args.self.now c.args.ahead.now) c.loop-ahead.ahead c.refill.new.self (looked_at c.loop-ahead.self)
    (short-looked c.loop-ahead.self short) c.in_ok-refill.ensures.came c.loop-ahead.invariant.idle sure in
    (refl, still)

pub returns-then-is_empty-clause-unasked : goal.returns-then-is_empty-clause-unasked
returns-then-is_empty-clause-unasked g c sure =
    let short : has_enough c.loop-ahead.self ≡ false = search rules in
    let old = pending c.args.self.now c.args.ahead.now in
    c.in_ok-refill.ensures.unasked (has-more c.loop-ahead.self old c.loop-ahead.ahead short c.loop-ahead.invariant.idle sure)
    ∙ c.loop-ahead.invariant.unasked sure

pub returns-in_err-refill-clause-asks : goal.returns-in_err-refill-clause-asks
returns-in_err-refill-clause-asks g c =
    let short : has_enough c.loop-ahead.self ≡ false = search rules in
    let p = err_from_is_err_and c.from_residual.result c.from_residual.ensures.1 in
    rw p.1 (AsksFor-failed g.S.Source.replies (pending c.args.self.now c.args.ahead.now) c.loop-ahead.ahead c.refill.new.self
    (looked_at c.loop-ahead.self) c.args.source.now c.loop-ahead.source c.refill.new.source (short-looked c.loop-ahead.self short)
    c.loop-ahead.invariant.asked c.in_err-refill.ensures.asks)

pub returns-then-is_empty-clause-asks : goal.returns-then-is_empty-clause-asks
returns-then-is_empty-clause-asks g c =
    let short : has_enough c.loop-ahead.self ≡ false = search rules in
    PiecesCame-refilled g.S.Source.replies (pending c.args.self.now c.args.ahead.now) c.loop-ahead.ahead c.refill.new.self
    (looked_at c.loop-ahead.self) c.args.source.now c.loop-ahead.source c.refill.new.source (short-looked c.loop-ahead.self short)
    c.loop-ahead.invariant.asked c.in_ok-refill.ensures.asks

pub returns-clause-asks : goal.returns-clause-asks
returns-clause-asks g c = c.loop-ahead.invariant.asked
