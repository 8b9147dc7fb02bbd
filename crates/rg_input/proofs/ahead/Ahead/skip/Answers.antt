use Rattle.std.proofs.Common.{◌≤◌, length, refl, sym, subst}
use Rattle.rg_input.specs.Numbers.{Pending}
use Rattle.rg_input.proofs.LookingAhead.{skipped}
use Rattle.rg_input.proofs.ahead.Ahead.skip.Goals as goal

pub returns : goal.returns
returns c =
    let s = c.self.inside in
    let within = subst (λ (p : Pending). c.args.n ≤ length p.held) (sym c.self.view_is) c.requires in
    rw (← c.self.view_is, skipped s.piece s.from s.left c.args.n within) refl
