use Rattle.std.proofs.Common.{◌≡◌, true, inl, ap, Ok, subst, sym, rules}
use Rattle.std.proofs.lemmas.Bool.{false≢true}
use Rattle.std.proofs.lemmas.Result.{err_from_is_err_and}
use Rattle.rg_input.specs.Numbers.{Pending, nothing_came, Refuses}
use Rattle.rg_input.proofs.Holding.{Settled-says, sure-refused, verdict-refused}
use Rattle.rg_input.specs.Inner.Held.{has_enough, pending}
use Rattle.rg_input.proofs.held.Held.look.Goals as goal

pub returns-in_err-fill-clause-refused : goal.returns-in_err-fill-clause-refused
returns-in_err-fill-clause-refused g c why refused =
    absurd (false≢true (c.in_err-fill.ensures.idle (sure-refused (pending c.args.self.now c.args.ahead.now) why refused)).0)

pub returns-then-has_enough-clause-settled : goal.returns-then-has_enough-clause-settled
returns-then-has_enough-clause-settled g c =
    let enough : has_enough c.args.self.now ≡ true = search rules in
    Settled-says c.args.self.now c.args.ahead.now c.verdict.result c.verdict.ensures.says c.verdict.ensures.end (inl enough)

pub returns-clause-settled : goal.returns-clause-settled
returns-clause-settled g c =
    Settled-says c.fill.new.self c.fill.new.ahead c.verdict-2.result c.verdict-2.ensures.says c.verdict-2.ensures.end c.in_ok-fill.ensures.whole

pub returns-clause-refused : goal.returns-clause-refused
returns-clause-refused g c why refused =
    let idle = c.in_ok-fill.ensures.idle (sure-refused (pending c.args.self.now c.args.ahead.now) why refused) in
    let still : Refuses (pending c.fill.new.self c.fill.new.ahead) why = subst (λ (n : Pending). Refuses n why) (sym idle.1) refused in (
      ap Ok (verdict-refused c.fill.new.self c.fill.new.ahead c.verdict-2.result why c.verdict-2.ensures.says c.in_ok-fill.ensures.whole still),
      idle.1,
    )

pub returns-then-has_enough-clause-asks : goal.returns-then-has_enough-clause-asks
returns-then-has_enough-clause-asks g c = nothing_came

pub returns-in_err-fill-clause-asks : goal.returns-in_err-fill-clause-asks
returns-in_err-fill-clause-asks g c =
    let p = err_from_is_err_and c.from_residual.result c.from_residual.ensures.1 in rw p.1 c.in_err-fill.ensures.asks

pub returns-clause-asks : goal.returns-clause-asks
returns-clause-asks g c = c.in_ok-fill.ensures.asks
