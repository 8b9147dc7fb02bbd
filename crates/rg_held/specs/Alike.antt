-- What two machines work on, one of which frees (docs/architecture.md, "The machine that frees").
use Rattle.std.specs.Prelude.{◌≡◌, ℕ, Bool as Truth, List}
use Rattle.rg_base.specs.declared.value.Val.{Val}
use Rattle.rg_stack.specs.Tops.{Work}
use Rattle.rg_held.specs.Part.{Part}

-- what the two work on
pub record Alike (held : ℕ → Truth) (owners : List Val) (u w : Work) (stack : List Val) : Type 0 where
  pub machine : Part held owners u.machine w.machine stack
  pub input : u.input ≡ w.input
  pub printed : u.printed ≡ w.printed
