use Rattle.rg_build.proofs.Follows.{code-follows}
use Rattle.rg_build.proofs.laws.code_follows.Goals as goal

pub returns : goal.returns
returns c = code-follows
