use Rattle.std.proofs.lemmas.Result.{err_from_is_err_and}
use Rattle.rg_tree.specs.declared.rows.MemberRow.{MemberRow}
use Rattle.rg_tree.specs.declared.rows.MemberRow.TheVariants as row
use Rattle.rg_names.proofs.TypeSteps.{field_types-fail, field_types-pass}
use Rattle.rg_names.proofs.MemberSteps.{header-repeated, header-mistyped, header-passed}
use Rattle.rg_names.proofs.found.Found.add_field.Goals as goal

pub returns-in_err-fresh-clause-judged : goal.returns-in_err-fresh-clause-judged
returns-in_err-fresh-clause-judged c =
    let p = err_from_is_err_and c.from_residual.result c.from_residual.ensures.1 in
    let m : MemberRow = row.Field c.args.name c.args.ty c.args.line in
    rw (p.1, p.2)
    (header-repeated c.args.program.now c.requires.heads.rows.names c.args.class c.args.self.now.entries c.requires.named m c.requires.row.0 _
    c.in_err-fresh.ensures.judged)

pub returns-in_err-ty-clause-judged : goal.returns-in_err-ty-clause-judged
returns-in_err-ty-clause-judged c =
    let p = err_from_is_err_and c.from_residual-in_err-ty.result c.from_residual-in_err-ty.ensures.1 in
    let m : MemberRow = row.Field c.args.name c.args.ty c.args.line in
    rw (p.1, p.2)
    (header-mistyped c.args.program.now c.requires.heads.rows.names c.args.class c.args.self.now.entries c.requires.named m c.requires.row.0 _
    c.in_ok-fresh.ensures.judged
    (field_types-fail c.args.program.now c.args.heads.now c.requires.heads c.args.line c.args.ty c.requires.row.1 c.args.class.is_tmp _
    c.in_err-ty.ensures.judged))

pub returns-clause-judged : goal.returns-clause-judged
returns-clause-judged c =
    let m : MemberRow = row.Field c.args.name c.args.ty c.args.line in
    header-passed c.args.program.now c.requires.heads.rows.names c.args.class c.args.self.now.entries c.requires.named m c.requires.row.0
    c.in_ok-fresh.ensures.judged
    (field_types-pass c.args.program.now c.args.heads.now c.requires.heads c.args.line c.args.ty c.requires.row.1 c.args.class.is_tmp _
    c.in_ok-ty.ensures.judged).passed

pub returns-clause-entries : goal.returns-clause-entries
returns-clause-entries c =
    let t = (field_types-pass c.args.program.now c.args.heads.now c.requires.heads c.args.line c.args.ty c.requires.row.1 c.args.class.is_tmp _
    c.in_ok-ty.ensures.judged).is in
    rw (← t) c.in_ok-push.ensures.ok
