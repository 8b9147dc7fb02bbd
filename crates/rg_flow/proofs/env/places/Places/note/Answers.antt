use Rattle.std.proofs.Common.{ℕ, List, Option, ap, ◌∙◌, Some, if◌then◌else◌}
use Rattle.std.specs.Map.{lookup}
use Rattle.rg_flow.specs.Scope.{same_name}
use Rattle.rg_flow.proofs.env.places.Places.note.Goals as goal

pub returns-clause-noted : goal.returns-clause-noted
returns-clause-noted c q =
    c.in-Ok.ensures.updates.0 q
    ∙ ap (λ (ps : List (Option ℕ × ℕ)). if same_name c.args.name q then Some c.args.place else lookup (same_name q) ps) c.self.view_is
