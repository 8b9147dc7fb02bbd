-- Contents whose numbers are those of their types, temporaries or not: what is known of whatever is written.
use Rattle.std.specs.Prelude.{◌<◌, ◌^◌, Option, None, Some}
use Rattle.rg_base.specs.declared.object.Label.{Label}
use Rattle.rg_base.specs.declared.object.Label.TheVariants.{Region, Temp, Frozen}
use Rattle.rg_cown.specs.declared.cargo.CargoCell.{CargoCell}
use Rattle.rg_cown.specs.Cargo.{CargoList}
use Rattle.rg_image.specs.ImageText.{Counted, FitsValue, FitsManager}

abbrev pub RangedLabel : Label → Type 0
RangedLabel (Region r) = r < 2 ^ 64
RangedLabel (Temp t) = Unit {0}
RangedLabel Frozen = Unit {0}

pub record RangedCell (c : CargoCell) : Type 0 where
  pub class : c.class < 2 ^ 32
  pub label : RangedLabel c.label
  pub fields : Counted FitsValue c.fields

pub record RangedCargo (c : CargoList) : Type 0 where
  pub managers : Counted FitsManager c.managers
  pub cells : Counted RangedCell c.cells

abbrev pub RangedContent : Option CargoList → Type 0
RangedContent None = Unit {0}
RangedContent (Some c) = RangedCargo c
