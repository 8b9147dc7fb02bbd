use Rattle.std.proofs.lemmas.Result.{err_from_is_err_and}
use Rattle.rg_names.specs.Inner.Headings.{as_member}
use Rattle.rg_names.proofs.MemberSteps.{header-repeated, header-mistyped, header-passed}
use Rattle.rg_names.proofs.found.Found.add_method.Goals as goal

pub returns-in_err-fresh-clause-judged : goal.returns-in_err-fresh-clause-judged
returns-in_err-fresh-clause-judged c =
    let p = err_from_is_err_and c.from_residual.result c.from_residual.ensures.1 in
    rw (p.1, p.2)
    (header-repeated c.args.program.now c.requires.heads.rows.names c.args.class c.args.self.now.entries c.requires.named
    (as_member c.args.method) c.requires.row.0 _ c.in_err-fresh.ensures.judged)

pub returns-in_err-result-clause-judged : goal.returns-in_err-result-clause-judged
returns-in_err-result-clause-judged c =
    let p = err_from_is_err_and c.from_residual-in_err-result.result c.from_residual-in_err-result.ensures.1 in
    rw (p.1, p.2)
    (header-mistyped c.args.program.now c.requires.heads.rows.names c.args.class c.args.self.now.entries c.requires.named
    (as_member c.args.method) c.requires.row.0 _ c.in_ok-fresh.ensures.judged c.in_err-result.ensures.judged)

pub returns-clause-judged : goal.returns-clause-judged
returns-clause-judged c =
    header-passed c.args.program.now c.requires.heads.rows.names c.args.class c.args.self.now.entries c.requires.named
    (as_member c.args.method) c.requires.row.0 c.in_ok-fresh.ensures.judged c.in_ok-result.ensures.judged
