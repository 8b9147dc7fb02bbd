use Rattle.rg_within.proofs.Whole.{spelt-bare, spelt-opens}
use Rattle.rg_within.proofs.laws.spelt_opens_few.Goals as goal

pub returns : goal.returns
returns c = λ source t tokens h s. (spelt-bare source t tokens h s, spelt-opens source t tokens h s)
