use Rattle.std.proofs.lemmas.Result.{err_from_is_err_and}
use Rattle.rg_names.proofs.TypeSteps.{element_types-fail, element_types-pass}
use Rattle.rg_names.proofs.RestSteps.{members-pass, members-fault, members-entries, members-methods, members-element, element-pass}
use Rattle.rg_names.proofs.RestSteps.{element-fault, element-entries, element-methods, element-element}
use Rattle.rg_names.proofs.found.class_rest.Goals as goal

pub returns-in_err-found-in-None-clause-judged : goal.returns-in_err-found-in-None-clause-judged
returns-in_err-found-in-None-clause-judged c =
    let p = err_from_is_err_and c.from_residual.result c.from_residual.ensures.1 in
    rw (p.1, p.2) (members-fault c.args.program.now c.args.class c.in-None.is c.in_err-found-in-None.field-0.0
    c.in_err-found-in-None.ensures.judged)

pub returns-in_ok-found-in-None-clause-judged : goal.returns-in_ok-found-in-None-clause-judged
returns-in_ok-found-in-None-clause-judged c =
    members-pass c.args.program.now c.args.class c.in-None.is c.in_ok-found-in-None.ensures.judged

pub returns-in_ok-found-in-None-clause-element : goal.returns-in_ok-found-in-None-clause-element
returns-in_ok-found-in-None-clause-element c = members-element c.args.program.now c.args.class c.in-None.is

pub returns-in_ok-found-in-None-clause-entries : goal.returns-in_ok-found-in-None-clause-entries
returns-in_ok-found-in-None-clause-entries c =
    members-entries c.args.program.now c.args.class c.in-None.is c.args.methods c.in_ok-found-in-None.found.entries
    c.in_ok-found-in-None.ensures.entries

pub returns-in_ok-found-in-None-clause-methods : goal.returns-in_ok-found-in-None-clause-methods
returns-in_ok-found-in-None-clause-methods c =
    members-methods c.args.program.now c.args.class c.in-None.is c.args.methods c.in_ok-found-in-None.found.methods
    c.in_ok-found-in-None.ensures.methods

pub returns-in_err-ty-in-Some-clause-judged : goal.returns-in_err-ty-in-Some-clause-judged
returns-in_err-ty-in-Some-clause-judged c =
    let t = c.args.program.now in
    let p = err_from_is_err_and c.from_residual-in_err-ty-in-Some.result c.from_residual-in_err-ty-in-Some.ensures.1 in
    rw (p.1, p.2) (element-fault t c.args.class c.in-Some.row c.in-Some.is c.in_err-ty-in-Some.field-0.0
    (element_types-fail t c.args.heads.now c.requires.heads c.args.class.line c.in-Some.row (rw c.in-Some.is at c.requires.class.element)
    c.args.class.is_tmp c.in_err-ty-in-Some.field-0.0 c.in_err-ty-in-Some.ensures.judged))

pub returns-in_ok-ty-in-Some-clause-judged : goal.returns-in_ok-ty-in-Some-clause-judged
returns-in_ok-ty-in-Some-clause-judged c =
    let t = c.args.program.now in
    element-pass t c.args.class c.in-Some.row c.in-Some.is
    (element_types-pass t c.args.heads.now c.requires.heads c.args.class.line c.in-Some.row (rw c.in-Some.is at c.requires.class.element)
    c.args.class.is_tmp c.in_ok-ty-in-Some.ty c.in_ok-ty-in-Some.ensures.judged).passed

pub returns-in_ok-ty-in-Some-clause-element : goal.returns-in_ok-ty-in-Some-clause-element
returns-in_ok-ty-in-Some-clause-element c =
    let t = c.args.program.now in
    element-element t c.args.class c.in-Some.row c.in-Some.is c.in_ok-ty-in-Some.ty
    (element_types-pass t c.args.heads.now c.requires.heads c.args.class.line c.in-Some.row (rw c.in-Some.is at c.requires.class.element)
    c.args.class.is_tmp c.in_ok-ty-in-Some.ty c.in_ok-ty-in-Some.ensures.judged).is

pub returns-in_ok-ty-in-Some-clause-entries : goal.returns-in_ok-ty-in-Some-clause-entries
returns-in_ok-ty-in-Some-clause-entries c =
    element-entries c.args.program.now c.args.class c.in-Some.row c.in-Some.is c.args.methods c.new.result c.new.ensures

pub returns-in_ok-ty-in-Some-clause-methods : goal.returns-in_ok-ty-in-Some-clause-methods
returns-in_ok-ty-in-Some-clause-methods c =
    element-methods c.args.program.now c.args.class c.in-Some.row c.in-Some.is c.args.methods
