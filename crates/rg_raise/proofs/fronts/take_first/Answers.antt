use Rattle.std.proofs.Common.{refl}
use Rattle.rg_raise.proofs.FrontRows.{takes-first}
use Rattle.rg_raise.proofs.fronts.take_first.Goals as goal

pub returns-clause-takes : goal.returns-clause-takes
returns-clause-takes c t m fs a =
    let old = c.args.fronts.now in
    takes-first t m c.args.code.now.ops old
    (record { rows = c.take_front-first.new.rows; code = record { from = c.start_by-fronts.result; end = old.code.end } }) refl fs
    c.take_front-first.result
    c.start_by-fronts.ensures a (c.take_front-first.ensures t m fs a.rows)
