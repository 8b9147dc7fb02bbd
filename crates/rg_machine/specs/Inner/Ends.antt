-- When slots may end (docs/architecture.md, "The machine").
use Rattle.std.specs.Prelude.{◌≡◌, true}
use Rattle.rg_stack.specs.Needs.{owned_once}
use Rattle.rg_machine.specs.Cores.{core_of}
use Rattle.rg_machine.specs.Effects.{AllLoose}
use Rattle.rg_machine.specs.Parts.{Parts, machine_in}

-- each closed region is owned once, and no value on the stack owns one
pub record MayEnd (m : Parts) : Type 0 where
  pub once : owned_once (machine_in m) ≡ true
  pub stack : AllLoose (core_of m)
