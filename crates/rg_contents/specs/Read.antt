-- A plan that was read, with the contents of its images (docs/architecture.md, "Worlds").
use Rattle.std.specs.Prelude.{◌≡◌, ℕ, List, length, Ok}
use Rattle.rg_tree.specs.Tree.{Tree}
use Rattle.rg_cown.specs.Cargo.{CargoList}
use Rattle.rg_plan.specs.Plans.{PlanOf}
use Rattle.rg_plan.specs.Rules.{plan_of}
use Rattle.rg_contents.specs.Rest.{ImagesMayBeOwned}

-- a plan that is read for an accepted program, and contents of its images, one for each cown, that may be owned
pub record IsReadFor (t : Tree) (p : PlanOf) (images : List CargoList) : Type 0 where
  pub bytes : List ℕ
  pub read : plan_of t bytes ≡ Ok p
  pub many : length images ≡ length p.cowns
  pub owned : ImagesMayBeOwned t p.cowns images
