-- Room that was made before (docs/language.md, "Steps").
use Rattle.std.specs.Prelude.{◌<◌, length, vec_capacity}
use Rattle.rg_values.specs.declared.targets.Aim.{Aim}
use Rattle.rg_values.specs.declared.targets.Aim.TheVariants as aim
use Rattle.rg_values.specs.declared.state.parts.Parts.{Parts}

-- there is room for a value where it goes
abbrev pub HasRoom : Parts → Aim → Type 0
HasRoom p (aim.Declares x ty) = length p.frame.locals.items < vec_capacity p.frame.locals
HasRoom p (aim.Assigns x) = Unit {0}
HasRoom p (aim.Field a x) = Unit {0}
HasRoom p (aim.Element a k) = Unit {0}
