use Rattle.std.proofs.Common.{refl, sym, ◌∙◌}
use Rattle.rg_reader.proofs.Exits.{no-ok}
use Rattle.rg_reader.proofs.Nears.{near-behind}
use Rattle.rg_reader.proofs.Tokens.{halts-another, halts-past, took-first, exit}
use Rattle.rg_reader.proofs.reader.Reader.take.Goals as goal

pub returns-in_default-clause-fault : goal.returns-in_default-clause-fault
returns-in_default-clause-fault c = halts-another refl c.in_default.ensures

pub returns-in_err-self-inside-clause-fault : goal.returns-in_err-self-inside-clause-fault
returns-in_err-self-inside-clause-fault c =
    exit _ c.from_residual.ensures.1
    (rw (← c.self.view_is) (halts-past (rw (← c.self.view_is) at c.in-Some.ensures) refl (sym c.behind.ensures ∙ c.in_err-self-inside.was)))

pub returns-clause-ok : goal.returns-clause-ok
returns-clause-ok c =
    rw (← c.self.view_is) (took-first (rw (← c.self.view_is) at c.in-Some.ensures) (sym c.behind.ensures ∙ c.in_ok-self-inside.was))

pub returns-in_err-self-inside-clause-ok : goal.returns-in_err-self-inside-clause-ok
returns-in_err-self-inside-clause-ok c = no-ok _ _ c.from_residual.ensures.0

pub returns-in_err-self-inside-clause-shorter : goal.returns-in_err-self-inside-clause-shorter
returns-in_err-self-inside-clause-shorter c = no-ok _ _ c.from_residual.ensures.0

pub invariant_of-self : goal.invariant_of-self
invariant_of-self c = (
  (rw (← c.self.view_is) at c.in-Some.ensures).others,
  near-behind _ _ _ c.self.invariant.1 (sym c.behind.ensures ∙ c.in_ok-self-inside.was),
)
