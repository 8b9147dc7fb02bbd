use Rattle.std.proofs.Common.{◌∙◌, inl, inr, sym, refl}
use Rattle.rg_sources.proofs.planned.keeping_plan_in.Goals as goal

pub returns-in-Err-clause-brings : goal.returns-in-Err-clause-brings
returns-in-Err-clause-brings g c = inl c.in-Err.ensures.brings

pub returns-else-has_kept-clause-brings : goal.returns-else-has_kept-clause-brings
returns-else-has_kept-clause-brings g c =
    inr (c.in-Ok.plan, c.in-Ok.ensures.brings, sym c.has_kept.ensures ∙ c.if-has_kept.false, refl)
