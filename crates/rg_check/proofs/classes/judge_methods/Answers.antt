use Rattle.std.proofs.Common.{All, sym, subst}
use Rattle.std.proofs.lemmas.Result.{err_from_is_err_and}
use Rattle.rg_tree.specs.Tree.{Class}
use Rattle.rg_tree.specs.Rows.RowTrees.{classes_of, class_of}
use Rattle.rg_rules.specs.Names.{HasFewNames}
use Rattle.rg_check.specs.Inner.Methods.{MemberMayBeJudged}
use Rattle.rg_check.proofs.Outcomes.{All-slice_get}
use Rattle.rg_check.proofs.MayBeJudged.{class-may}
use Rattle.rg_check.proofs.MethodSteps.{methods-fault, methods-step}
use Rattle.rg_check.proofs.classes.judge_methods.Goals as goal

pub judge_members-requires-clause-each : goal.judge_members-requires-clause-each
judge_members-requires-clause-each c =
    let t = c.args.program.now in
    let few = All-slice_get (λ (d : Class). All HasFewNames d.members) (classes_of t) c.loop-class.class (class_of t c.class.result)
    c.requires.names.methods c.class.ensures.tree in
    subst (All (MemberMayBeJudged (classes_of t))) (sym c.members_of-members.ensures.tree)
    (class-may (classes_of t) c.loop-class.class (class_of t c.class.result) c.requires.table.headers c.class.ensures.tree few)

pub returns-in_err-judge_members : goal.returns-in_err-judge_members
returns-in_err-judge_members c =
    let t = c.args.program.now in
    let p = err_from_is_err_and c.from_residual.result c.from_residual.ensures.1 in
    rw (p.1, p.2) (methods-fault (classes_of t) c.loop-class.class (class_of t c.class.result) c.class.ensures.tree c.loop-class.invariant _
    (rw c.members_of-members.ensures.tree at c.in_err-judge_members.ensures))

pub loop-class-preserved : goal.loop-class-preserved
loop-class-preserved c =
    let t = c.args.program.now in
    methods-step (classes_of t) c.loop-class.class (class_of t c.class.result) c.class.ensures.tree c.loop-class.invariant
    (rw c.members_of-members.ensures.tree at c.in_ok-judge_members.ensures)
