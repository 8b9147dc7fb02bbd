use Rattle.rg_build.proofs.Marks.{each-mark}
use Rattle.rg_build.proofs.laws.each_mark_has_a_map.Goals as goal

pub returns : goal.returns
returns c = each-mark
