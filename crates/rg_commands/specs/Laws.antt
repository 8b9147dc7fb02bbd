-- The law of what a command answers (docs/promises.md, "The headline").
use Rattle.std.specs.Prelude.{◌≡◌, ℕ, List}
use Rattle.rg_base.specs.declared.outcome.EndNumbers.{EndNumbers}
use Rattle.rg_words.specs.Commands.{Command, origin_of}
use Rattle.rg_sources.specs.Sources.{Sources, Meaning, MeansFrom}
use Rattle.rg_commands.specs.Expected.{expected}

-- Whatever its bytes mean, a command answers the same to them: of a module, that is so for every program that raises it.
abbrev pub OneAnswer : Type 0
OneAnswer = (c : Command) (numbers : EndNumbers) (source : Sources) (input : List ℕ) (m k : Meaning) →
    MeansFrom (origin_of c) source m → MeansFrom (origin_of c) source k → expected c numbers input m ≡ expected c numbers input k
