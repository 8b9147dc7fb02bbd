use Rattle.std.proofs.Common.{refl}
use Rattle.std.proofs.lemmas.List.{drop_more}
use Rattle.rg_tree.specs.Rows.RowTrees.{member_at}
use Rattle.rg_tree.specs.Rows.RowsExist.{IsMemberNumber}
use Rattle.rg_tree.proofs.Adding.{extends-trans}
use Rattle.rg_classes.specs.Written.{field_written}
use Rattle.rg_classes.proofs.Turns.{so_far-none, so_far-more, so_far-all}
use Rattle.rg_classes.proofs.members.add_fields.Goals as goal

pub loop-ty-init : goal.loop-ty-init
loop-ty-init c = so_far-none member_at IsMemberNumber field_written 0 c.args.types.now c.args.program.now c.args.members.now.items 0 refl

pub loop-ty-preserved : goal.loop-ty-preserved
loop-ty-preserved c =
    let types = c.args.types.now in
    let i = c.loop-ty.ty-index in
    let here = drop_more types i _ c.loop-ty-test.true in
    so_far-more member_at IsMemberNumber field_written 0 types c.args.program.now c.args.members.now.items c.loop-ty.program
    c.add_field.new.program c.loop-ty.members.items c.push.new.self.items i c.loop-ty.k _ c.in_ok-number.number c.loop-ty.invariant here
    c.in_ok-number.ensures.adds c.in-Ok.ensures.items

pub returns-in_err-number-clause-grows : goal.returns-in_err-number-clause-grows
returns-in_err-number-clause-grows c = extends-trans c.loop-ty.invariant.grown c.in_err-number.ensures.grows

pub returns-in_default-clause-grows : goal.returns-in_default-clause-grows
returns-in_default-clause-grows c = extends-trans c.loop-ty.invariant.grown c.in_ok-number.ensures.grows

pub returns-clause-adds : goal.returns-clause-adds
returns-clause-adds c ms m =
    so_far-all member_at IsMemberNumber field_written 0 c.args.types.now c.args.program.now c.args.members.now.items c.loop-ty.program
    c.loop-ty.members.items c.loop-ty.ty-index c.loop-ty.k c.loop-ty.invariant c.loop-ty-test.false ms m

pub returns-clause-grows : goal.returns-clause-grows
returns-clause-grows c = c.loop-ty.invariant.grown
