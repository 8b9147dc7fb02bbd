-- The status of a call whose words can't be had (docs/language.md, "The command line").
use Rattle.rg_top.specs.declared.process.NoWords.{NoWords}
use Rattle.rg_top.specs.declared.process.NoWords.TheVariants as none
use Rattle.rg_words.specs.declared.status.Status.{Status}
use Rattle.rg_words.specs.declared.status.Status.TheVariants as status

-- a word that isn't UTF-8 is a usage
abbrev pub status_without : NoWords → Status
status_without none.NotText = status.Usage
status_without none.Memory = status.Memory
