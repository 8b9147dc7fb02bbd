use Rattle.rg_names.proofs.GoodHeaders.{good-judge_headers}
use Rattle.rg_names.proofs.laws.good_headers_pass.Goals as goal

pub returns : goal.returns
returns c = good-judge_headers
