use Rattle.std.proofs.Common.{refl, subst, arith}
use Rattle.rg_spell.specs.declared.refusal.Refusal.{Refusal}
use Rattle.rg_spell.specs.Reading.{Fails}
use Rattle.rg_module.specs.Inner.Reading.{module_at}
use Rattle.rg_module.proofs.Spelt.{module_takes, unread, is_again}
use Rattle.rg_module.proofs.whole.decode.Goals as goal

pub returns-in-Ok-clause-spelt : goal.returns-in-Ok-clause-spelt
returns-in-Ok-clause-spelt c = module_takes c.args.bytes.now c.in-Ok.module (λ i. omega (arith, c.type_inv.bytes i)) c.in-Ok.ensures

pub returns-in-Ok-clause-again : goal.returns-in-Ok-clause-again
returns-in-Ok-clause-again c = is_again c.args.bytes.now c.in-Ok.module c.in-Ok.ensures

pub returns-in-Err-NotSpelt-clause-again : goal.returns-in-Err-NotSpelt-clause-again
returns-in-Err-NotSpelt-clause-again c =
    let P : Refusal → Type 0 = λ e. Fails e (module_at c.args.bytes.now) in
    unread c.args.bytes.now (subst P c.in-Err-NotSpelt.field-0-is c.in-Err-NotSpelt.ensures)

pub returns-in-Err-NotSpelt-clause-spelt : goal.returns-in-Err-NotSpelt-clause-spelt
returns-in-Err-NotSpelt-clause-spelt c = (refl, returns-in-Err-NotSpelt-clause-again c)
