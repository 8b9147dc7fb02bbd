use Rattle.std.proofs.Common.{◌∙◌, sym, refl}
use Rattle.rg_words.proofs.Option.{report-and-others, number-and-others}
use Rattle.rg_words.proofs.words.options_in.Goals as goal

pub loop-left-preserved-then-eq : goal.loop-left-preserved-then-eq
loop-left-preserved-then-eq c =
    report-and-others _ c.loop-left.left.now c.loop-left.so_far c.in_ok-so_far.so_far c.in-len1-up.len_at_least
    ((sym c.eq.ensures) ∙ c.if-eq.true) (sym c.with_report.ensures ∙ c.in_ok-so_far.was) ∙ c.loop-left.invariant

pub loop-left-preserved : goal.loop-left-preserved
loop-left-preserved c =
    number-and-others _ _ c.loop-left.left.now _ c.loop-left.so_far c.in_ok-so_far-2.so_far c.in-len1-up.len_at_least refl
    c.in-len1-up-behind.len_at_least ((sym c.eq.ensures) ∙ c.if-eq.false)
    (sym c.with_number.ensures ∙ c.in_ok-so_far-2.was) ∙ c.loop-left.invariant
