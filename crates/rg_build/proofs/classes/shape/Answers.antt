use Rattle.rg_build.proofs.Counting.{few-members}
use Rattle.rg_build.proofs.classes.shape.Goals as goal

pub fields-requires-clause-few : goal.fields-requires-clause-few
fields-requires-clause-few c =
    few-members c.args.book.now.program c.args.class c.members_of.result.now c.members_of.ensures.tree c.bound.ensures
