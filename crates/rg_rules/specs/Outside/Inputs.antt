-- Which steps ask for the input (docs/language.md, "Steps").
use Rattle.std.specs.Prelude.{Bool as Truth, true, false, List, [], ◌∷◌, unwrap_or, option_map}
use Rattle.rg_tree.specs.Tree.{stmt, StmtKind, Right, value, new as makes, new_tmp, new_iso, freeze, merge, read, more, result_of}
use Rattle.rg_rules.specs.Items.{Item, Do, EndAt, LeaveAt, LeaveGiving, Back}
use Rattle.rg_rules.specs.Rights.{right_of}

-- whether a right side asks for the input
abbrev pub asks : Right → Truth
asks (value e) = false
asks (makes x size) = false
asks (new_tmp x size) = false
asks (new_iso x size m) = false
asks (freeze y) = false
asks (merge y) = false
asks read = true
asks more = true
asks (result_of c) = false

-- whether a statement does
abbrev pub kind_asks : StmtKind → Truth
kind_asks k = unwrap_or (option_map asks (right_of k)) false

-- whether the first thing to do asks for the input
abbrev pub first_asks : List Item → Truth
first_asks [] = false
first_asks (Do (stmt line k) ∷ rest) = kind_asks k
first_asks (EndAt k ∷ rest) = false
first_asks (LeaveAt k ∷ rest) = false
first_asks (LeaveGiving line k w ∷ rest) = false
first_asks (Back ∷ rest) = false
