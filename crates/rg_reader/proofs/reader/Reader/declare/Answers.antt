use Rattle.std.proofs.Common.{ap, sym, ◌∙◌}
use Rattle.std.proofs.lemmas.Result.{IfOk-from_err}
use Rattle.rg_reader.proofs.Exits.{no-ok}
use Rattle.rg_tree.proofs.Adding.{name-means}
use Rattle.rg_reader.proofs.Tokens.{halts-another, halts-past, declared-first, exit, expected-symbol_of}
use Rattle.rg_reader.proofs.reader.Reader.declare.Goals as goal

pub returns-in_default-clause-fault : goal.returns-in_default-clause-fault
returns-in_default-clause-fault c = halts-another (expected-symbol_of c.args.role) c.in_default.ensures

pub returns-in_err-counts-clause-fault : goal.returns-in_err-counts-clause-fault
returns-in_err-counts-clause-fault c =
    exit _ c.from_residual.ensures.1
    (rw (← c.self.view_is)
    (halts-past (rw (← c.self.view_is) at c.in-Some.ensures) (expected-symbol_of c.args.role) (sym c.counted.ensures ∙ c.in_err-counts.was)))

pub returns-clause-ok : goal.returns-clause-ok
returns-clause-ok c =
    let named = c.in_ok-number.ensures in
    rw (← c.self.view_is)
    (declared-first (rw (← c.self.view_is) at c.in-Some.ensures) (sym c.counted.ensures ∙ c.in_ok-counts.was)
    (name-means c.in_ok-number.number _ named.name named.there) (record { keeps = named.keeps; classes = ap (λ t. t.classes) named.names }))

pub invariant_of-self : goal.invariant_of-self
invariant_of-self c = c.self.invariant

pub returns-in_err-counts-clause-ok : goal.returns-in_err-counts-clause-ok
returns-in_err-counts-clause-ok c = IfOk-from_err _ _ c.from_residual.ensures.0

pub returns-in_err-counts-clause-shorter : goal.returns-in_err-counts-clause-shorter
returns-in_err-counts-clause-shorter c = no-ok _ _ c.from_residual.ensures.0
