-- What a verifier says of a module (docs/architecture.md, "Modules").
use Rattle.std.specs.Prelude.{◌≡◌}
use Rattle.rg_base.specs.declared.fault.Code.TheVariants.{Unverified}
use Rattle.rg_base.specs.declared.fault.Fault.{Fault}
use Rattle.rg_tree.specs.Tree.{Tree}
use Rattle.rg_module.specs.Parts.{Parts}
use Rattle.rg_raised.specs.Raises.{Raises}

-- no program raises a module
abbrev pub NoneRaises : Parts → Type 0
NoneRaises m = (t : Tree) → Raises m t → ⊥

-- the fault of such a module, which has no lines
abbrev pub unverified : Fault
unverified = record { code = Unverified; line = 0 }

-- a fault is this one, and the module such a one
pub record IsUnverified (m : Parts) (f : Fault) : Type 0 where
  pub fault : f ≡ unverified
  pub none : NoneRaises m
