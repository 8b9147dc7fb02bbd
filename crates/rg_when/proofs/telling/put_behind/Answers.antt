use Rattle.rg_when.proofs.Settled.{none-put, away-put, text-put, part-put}
use Rattle.rg_when.proofs.telling.put_behind.Goals as goal

pub returns-in_default-clause-put : goal.returns-in_default-clause-put
returns-in_default-clause-put g c = λ t code images numbers h. none-put _ _

pub returns-in_default-told-clause-put : goal.returns-in_default-told-clause-put
returns-in_default-told-clause-put g c = λ t code images numbers h.
    away-put c.args.behind.now.taken _ c.in-Ok.told (c.in-Ok.ensures t code images numbers h) _ c.in_default-told.is

pub returns-in-Ok-put_all-clause-put : goal.returns-in-Ok-put_all-clause-put
returns-in-Ok-put_all-clause-put g c = λ t code images numbers h.
    text-put c.args.behind.now.taken _ c.in-Ok.told (c.in-Ok.ensures t code images numbers h) _ c.in-Some.text _ _ c.in-Some.is c.bytes.ensures
    c.in-Ok-put_all.ensures.ok

pub returns-clause-put : goal.returns-clause-put
returns-clause-put g c = λ t code images numbers h.
    part-put c.args.behind.now.taken _ c.in-Ok.told (c.in-Ok.ensures t code images numbers h) _ c.in-Some.text _ _ c.in-Some.is c.bytes.ensures
    c.in-Err.ensures.part
