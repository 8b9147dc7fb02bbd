-- What stands where an object is gone (docs/architecture.md, "The machine that frees").
use Rattle.std.specs.Prelude.{◌-◌, ◌^◌, []}
use Rattle.rg_base.specs.declared.object.Label.TheVariants.{Temp}
use Rattle.rg_base.specs.declared.object.Seen.{Seen}

-- what stands at the serial of an object that is gone
abbrev pub gone : Seen
gone = record { class = 0; fields = []; label = Temp (2 ^ 64 - 1) }
