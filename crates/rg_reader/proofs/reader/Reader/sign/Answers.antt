use Rattle.std.proofs.Common.{refl, sym, ◌∙◌}
use Rattle.rg_reader.proofs.Tokens.{halts-another, halts-past, signed-first, exit}
use Rattle.rg_reader.proofs.reader.Reader.sign.Goals as goal

pub returns-in_default-clause-fault : goal.returns-in_default-clause-fault
returns-in_default-clause-fault c = halts-another refl c.in_default.ensures

pub returns-in_err-self-inside-clause-fault : goal.returns-in_err-self-inside-clause-fault
returns-in_err-self-inside-clause-fault c =
    exit _ c.from_residual.ensures.1
    (rw (← c.self.view_is) (halts-past (rw (← c.self.view_is) at c.in-Some.ensures) refl (sym c.one_sign.ensures ∙ c.in_err-self-inside.was)))

pub returns-clause-ok : goal.returns-clause-ok
returns-clause-ok c =
    rw (← c.self.view_is) (signed-first (rw (← c.self.view_is) at c.in-Some.ensures) (sym c.one_sign.ensures ∙ c.in_ok-self-inside.was))
