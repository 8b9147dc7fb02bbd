use Rattle.std.proofs.Common.{Some, sym, ap, subst, rules}
use Rattle.rg_tree.specs.Rows.RowTrees.{classes_of, call_of, method_of}
use Rattle.rg_rules.specs.Steps.{stepped, Stepped}
use Rattle.rg_values.specs.Kept.{kept_of, plain_of, target_of}
use Rattle.rg_values.specs.Steps.{Does}
use Rattle.rg_statements.proofs.Statements.Call.{step_call-found}
use Rattle.rg_statements.proofs.call.call_named.Goals as goal

pub returns-in-Some-clause-called : goal.returns-in-Some-clause-called
returns-in-Some-clause-called c input rest top =
    let t = c.args.book.now.program in
    let old = plain_of t (kept_of c.args.m.now) input in
    let Is : Stepped → Type 0 = λ step. Does step old (plain_of t (kept_of c.call_method.new.m) input) c.args.at.line c.call_method.result in
    subst Is
    (sym (ap (stepped c.args.at.line)
    (step_call-found (classes_of t) (record old { items = rest }) (target_of t c.args.to) (call_of t c.args.call) c.in_ok-found.found
    (Some (method_of t c.in-Some.method)) (search rules) c.in-Some.ensures.0)))
    (c.call_method.ensures.called input rest top)
