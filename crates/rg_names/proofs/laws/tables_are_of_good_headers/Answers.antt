use Rattle.rg_tree.specs.Rows.RowTrees.{classes_of}
use Rattle.rg_names.proofs.GoodHeaders.{judge_headers-good}
use Rattle.rg_names.proofs.laws.tables_are_of_good_headers.Goals as goal

pub returns : goal.returns
returns c = λ program table is. judge_headers-good (classes_of program) is.headers
