use Rattle.std.proofs.Common.{[], length, refl}
use Rattle.std.proofs.lemmas.List.{drop_more}
use Rattle.rg_tree.specs.Rows.RowTrees.{param_at}
use Rattle.rg_tree.specs.Rows.RowsExist.{IsParamNumber}
use Rattle.rg_tree.proofs.Adding.{extends-trans, extends-by}
use Rattle.rg_classes.specs.Written.{param_written}
use Rattle.rg_classes.proofs.Adding.{span-put, params-none}
use Rattle.rg_classes.proofs.Turns.{so_far-none, so_far-more, so_far-all}
use Rattle.rg_classes.proofs.members.add_params.Goals as goal

pub loop-ty-init : goal.loop-ty-init
loop-ty-init c = rw c.new-numbers.ensures.items (so_far-none param_at IsParamNumber param_written 1 c.args.types.now c.args.program.now [] 1 refl)

pub loop-ty-preserved : goal.loop-ty-preserved
loop-ty-preserved c =
    let types = c.args.types.now in
    let i = c.loop-ty.ty-index in
    let here = drop_more types i _ c.loop-ty-test.true in
    so_far-more param_at IsParamNumber param_written 1 types c.args.program.now [] c.loop-ty.program c.add_param.new.program
    c.loop-ty.numbers.items c.push.new.self.items i c.loop-ty.slot _ c.in_ok-number.number c.loop-ty.invariant here
    c.in_ok-number.ensures.adds c.in-Ok.ensures.items

pub returns-in_err-number-clause-grows : goal.returns-in_err-number-clause-grows
returns-in_err-number-clause-grows c = extends-trans c.loop-ty.invariant.grown c.in_err-number.ensures.grows

pub returns-in_default-clause-grows : goal.returns-in_default-clause-grows
returns-in_default-clause-grows c = extends-trans c.loop-ty.invariant.grown c.in_ok-number.ensures.grows

pub returns-in_err-span-clause-grows : goal.returns-in_err-span-clause-grows
returns-in_err-span-clause-grows c =
    let e = c.in_err-span.ensures in
    extends-trans c.loop-ty.invariant.grown (extends-by e.keeps e.program)

pub returns-clause-adds : goal.returns-clause-adds
returns-clause-adds c =
    let e = c.in_ok-span.ensures in
    let old = c.args.program.now in
    let all = so_far-all param_at IsParamNumber param_written 1 c.args.types.now old [] c.loop-ty.program c.loop-ty.numbers.items
    c.loop-ty.ty-index c.loop-ty.slot c.loop-ty.invariant c.loop-ty-test.false [] (params-none old) in
    span-put param_at (λ w. length w.params) c.loop-ty.invariant.grown all e.keeps e.program c.as_slice.ensures.value e.span

pub returns-clause-grows : goal.returns-clause-grows
returns-clause-grows c =
    let e = c.in_ok-span.ensures in
    extends-trans c.loop-ty.invariant.grown (extends-by e.keeps e.program)
