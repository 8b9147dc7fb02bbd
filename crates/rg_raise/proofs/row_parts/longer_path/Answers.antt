use Rattle.std.proofs.Common.{◌∙◌}
use Rattle.rg_tree.proofs.Adding.{extends-by, extends-trans, means-later}
use Rattle.rg_raise.proofs.Rows.{means-there, path-longer}
use Rattle.rg_raise.proofs.row_parts.longer_path.Goals as goal

pub longer-requires : goal.longer-requires
longer-requires c =
    let (s, ks, path) = c.requires in
    (means-there (means-later path c.in_ok-name.ensures.adds.extends)).fields.within

pub returns-clause-adds : goal.returns-clause-adds
returns-clause-adds c s ks path =
    let e = c.in_ok-fields.ensures in
    path-longer c.args.body.in_method s ks c.args.index path c.in_ok-name.ensures.adds
    (c.as_slice.ensures.value ∙ c.in_ok-names.ensures) e.keeps e.program e.span

pub returns-clause-grows : goal.returns-clause-grows
returns-clause-grows c =
    let e = c.in_ok-fields.ensures in
    extends-trans c.in_ok-name.ensures.grows (extends-by e.keeps e.program)
