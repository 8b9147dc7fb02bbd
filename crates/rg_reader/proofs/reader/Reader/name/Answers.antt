use Rattle.std.proofs.Common.{ap, refl}
use Rattle.std.proofs.lemmas.Result.{IfOk-from_err}
use Rattle.rg_reader.proofs.Exits.{no-ok}
use Rattle.rg_tree.proofs.Adding.{name-means}
use Rattle.rg_reader.proofs.Tokens.{halts-another, used-first}
use Rattle.rg_reader.proofs.reader.Reader.name.Goals as goal

pub returns-in_default-clause-fault : goal.returns-in_default-clause-fault
returns-in_default-clause-fault c = halts-another refl c.in_default.ensures

pub returns-clause-ok : goal.returns-clause-ok
returns-clause-ok c =
    let named = c.in_ok-number.ensures in
    rw (← c.self.view_is)
    (used-first (rw (← c.self.view_is) at c.in-Some.ensures) (name-means c.in_ok-number.number _ named.name named.there)
    (record { keeps = named.keeps; classes = ap (λ t. t.classes) named.names }))

pub invariant_of-self : goal.invariant_of-self
invariant_of-self c = c.self.invariant

pub invariant_of-self-2 : goal.invariant_of-self-2
invariant_of-self-2 c = ((rw (← c.self.view_is) at c.in-Some.ensures).others, c.self.invariant.1)

pub returns-in_err-number-clause-ok : goal.returns-in_err-number-clause-ok
returns-in_err-number-clause-ok c = IfOk-from_err _ _ c.from_residual.ensures.0

pub returns-in_err-number-clause-shorter : goal.returns-in_err-number-clause-shorter
returns-in_err-number-clause-shorter c = no-ok _ _ c.from_residual.ensures.0
