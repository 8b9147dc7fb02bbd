use Rattle.std.proofs.Common.{◌∙◌, Ok, ap, subst, sym}
use Rattle.std.proofs.lemmas.Bool.{false≢true}
use Rattle.std.proofs.lemmas.Result.{err_from_is_err_and}
use Rattle.rg_input.specs.Numbers.{Pending, Refuses}
use Rattle.rg_input.specs.Inner.Held.{pending}
use Rattle.rg_input.proofs.Holding.{more-refused, sure-refused}
use Rattle.rg_input.proofs.held.Held.look_more.Goals as goal

pub returns-in_err-fill-clause-refused : goal.returns-in_err-fill-clause-refused
returns-in_err-fill-clause-refused g c why refused =
    absurd (false≢true (c.in_err-fill.ensures.idle (sure-refused (pending c.args.self.now c.args.ahead.now) why refused)).0)

pub returns-clause-refused : goal.returns-clause-refused
returns-clause-refused g c why refused =
    let idle = c.in_ok-fill.ensures.idle (sure-refused (pending c.args.self.now c.args.ahead.now) why refused) in
    let still : Refuses (pending c.fill.new.self c.fill.new.ahead) why = subst (λ (n : Pending). Refuses n why) (sym idle.1) refused in
    let said = c.has_more.ensures in (
      ap Ok (sym said.2 ∙ more-refused c.fill.new.self c.fill.new.ahead said.0 why said.1 c.in_ok-fill.ensures.whole still),
      idle.1,
    )

pub returns-in_err-fill-clause-asks : goal.returns-in_err-fill-clause-asks
returns-in_err-fill-clause-asks g c =
    let p = err_from_is_err_and c.from_residual.result c.from_residual.ensures.1 in rw p.1 c.in_err-fill.ensures.asks

pub returns-clause-asks : goal.returns-clause-asks
returns-clause-asks g c = c.in_ok-fill.ensures.asks
