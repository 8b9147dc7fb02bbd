use Rattle.std.proofs.Common.{◌≡◌, length, arith}
use Rattle.std.proofs.lemmas.Bool.Decides.{nat_tests}
use Rattle.rg_tree.proofs.Adding.{extends-trans, means-later}
use Rattle.rg_raise.proofs.Objects.{swap-many, swap-made}
use Rattle.rg_raise.proofs.kinds.swap_by.Goals as goal

pub longer_path-requires : goal.longer_path-requires
longer_path-requires c =
    let (s, ks, path) = c.requires.path in
    (s, ks, means-later path c.in-Ok.ensures.adds.extends)

pub returns-then-len-ne0-clause-told : goal.returns-then-len-ne0-clause-told
returns-then-len-ne0-clause-told c n s ks fs path rows =
    swap-many c.args.program.now c.args.body.in_method c.args.fronts.now.rows.items s ks fs c.args.slot c.args.index c.args.fronts.now.code.end rows
    (λ z. let other = c.if-len-ne0.true in let n = c.len.ensures in grind (arith, nat_tests))

pub returns-clause-told : goal.returns-clause-told
returns-clause-told c n s ks fs path rows =
    let zero : length c.args.fronts.now.rows.items ≡ 0 = let is = c.if-len-ne0.false in let n = c.len.ensures in grind (arith, nat_tests) in
    swap-made c.args.program.now c.args.body.in_method c.args.fronts.now.rows.items s ks fs c.args.slot c.args.index c.args.fronts.now.code.end rows
    c.add_name.new.program
    c.longer_path.new.program n c.in-Ok.name c.in-Ok-longer_path.path zero c.in-Ok.ensures.adds
    (c.in-Ok-longer_path.ensures.adds s ks (means-later path c.in-Ok.ensures.adds.extends))

pub returns-in_default-longer_path-clause-grows : goal.returns-in_default-longer_path-clause-grows
returns-in_default-longer_path-clause-grows c = extends-trans c.in-Ok.ensures.grows c.in_default-longer_path.ensures.grows

pub returns-clause-grows : goal.returns-clause-grows
returns-clause-grows c = extends-trans c.in-Ok.ensures.grows c.in-Ok-longer_path.ensures.grows
