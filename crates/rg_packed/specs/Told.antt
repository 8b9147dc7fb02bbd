-- What a run tells (docs/promises.md): what it printed, how many steps it made, and how it stands, with the kind and the line of a trap. It isn't
-- told how the program's parts are named.
use Rattle.std.specs.Prelude.{◌≡◌}
use Rattle.rg_rules.specs.Runs.{Ran}

-- two runs tell the same
pub record TellsTheSame (r s : Ran) : Type 0 where
  pub output : r.state.output ≡ s.state.output
  pub steps : r.steps ≡ s.steps
  pub ending : r.ending ≡ s.ending
