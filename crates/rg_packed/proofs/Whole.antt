-- Of what a source spells, the bytes of its module spell it, and a program raises it.
use Rattle.std.proofs.Common.{refl, ℕ, suc, List, length, arith}
use Rattle.rg_tree.specs.Tree.{Tree}
use Rattle.rg_limits.specs.Limits.{IsWithinLimits}
use Rattle.rg_within.specs.Laws.{SpeltIsWithinLimits}
use Rattle.rg_renamed.specs.Renamed.{renamed}
use Rattle.rg_renamed.specs.Laws.{ModulesAreRaised}
use Rattle.rg_packed.specs.Laws.{IsOfSource, PackedSpellsModule, PackedIsRaised}
use Rattle.rg_packed.proofs.Reading.{spelt-lined}
use Rattle.rg_packed.proofs.Spelt.{spelt-module}

within : SpeltIsWithinLimits → (bytes : List ℕ) (t : Tree) → IsOfSource bytes t → IsWithinLimits t
within law bytes t s = law bytes t s.tokens s.cuts s.spells

pub spells-module : SpeltIsWithinLimits → PackedSpellsModule
spells-module law bytes t s short =
    let size = s.size in
    record {
      spelt = spelt-module t s.accepted (within law bytes t s) (suc (length bytes)) (omega (arith, size))
          (spelt-lined bytes t s.tokens s.cuts s.spells) short;
      same = refl;
    }

pub is-raised : SpeltIsWithinLimits → ModulesAreRaised → PackedIsRaised
is-raised limits raised bytes t s = (renamed t, raised t s.accepted (within limits bytes t s))
