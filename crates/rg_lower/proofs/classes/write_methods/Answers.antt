use Rattle.std.proofs.Common.{◌∙◌, sym, subst, All}
use Rattle.rg_tree.specs.Tree.{Class}
use Rattle.rg_tree.specs.Rows.RowTrees.{classes_of, class_of}
use Rattle.rg_rules.specs.Names.{HasFewNames}
use Rattle.rg_lower.proofs.BodySteps.{All-there}
use Rattle.rg_lower.proofs.WholeSteps.{class-step}
use Rattle.rg_lower.proofs.classes.write_methods.Goals as goal

pub write_members-requires-clause-names : goal.write_members-requires-clause-names
write_members-requires-clause-names c =
    let t = c.args.book.now.program in
    subst (All HasFewNames) (sym c.members_of-members.ensures.tree) (All-there (λ (d : Class). All HasFewNames d.members) (classes_of t)
    c.loop-class.class (class_of t c.class.result) c.class.ensures.tree c.requires.methods)

pub loop-class-preserved : goal.loop-class-preserved
loop-class-preserved c =
    let t = c.args.book.now.program in
    class-step (classes_of t) c.loop-class.class (class_of t c.class.result) c.loop-class.code c.write_members.new.code c.class.ensures.tree
    (λ go. rw c.members_of-members.ensures.tree at c.in_ok-write_members.ensures go) ∙ c.loop-class.invariant
