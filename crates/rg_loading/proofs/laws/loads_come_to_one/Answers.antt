use Rattle.rg_loading.proofs.One.{loads-one}
use Rattle.rg_loading.proofs.laws.loads_come_to_one.Goals as goal

pub returns : goal.returns
returns c = loads-one c.at_most_one_content.ensures
