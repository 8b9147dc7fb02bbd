use Rattle.std.proofs.Common.{sym, ap, ◌∙◌, subst}
use Rattle.rg_tree.specs.Tree.{result_of}
use Rattle.rg_tree.specs.Rows.RowTrees.{classes_of, call_of}
use Rattle.rg_rules.specs.State.{State, Target}
use Rattle.rg_rules.specs.RightSides.{step_call}
use Rattle.rg_rules.specs.Steps.{stepped, Stepped}
use Rattle.rg_values.specs.Kept.{kept_of, plain_of}
use Rattle.rg_values.specs.Spots.{statement_of}
use Rattle.rg_values.specs.Steps.{Does}
use Rattle.rg_statements.proofs.Statements.Statement.{statement-is}
use Rattle.rg_statements.proofs.call.result_step.Goals as goal

pub call_named-requires-clause-to : goal.call_named-requires-clause-to
call_named-requires-clause-to c = c.sent_to.ensures.fits c.args.book.now.program _ c.in_ok-aim.ensures.0

pub returns-clause-step : goal.returns-clause-step
returns-clause-step c input =
    let t = c.args.book.now.program in
    let at = c.requires.assigns.stands.at in
    let line = c.args.to.at.line in
    let old = plain_of t (kept_of c.args.m.now) input in
    let s : State = record old { items = at.rest } in
    let r = result_of (call_of t c.args.row) in
    let Is : Stepped → Type 0 = λ step. Does step old (plain_of t (kept_of c.call_named.new.m) input) line c.call_named.result in
    statement-is t (kept_of c.args.m.now) (kept_of c.call_named.new.m) input at.rest c.args.to.at.number line (statement_of t c.args.to.left r)
    c.call_named.result at.items c.requires.assigns.stands.tree
    (subst Is
    (ap (λ (to : Target). stepped line (step_call (classes_of t) s to (call_of t c.args.row))) (c.sent_to.ensures.target t)
    ∙ ap (stepped line) (sym (c.in_ok-aim.ensures.1 input at.rest line r)))
    (c.call_named.ensures.called input at.rest at.items))
