use Rattle.rg_typed.proofs.Known.{fields-known}
use Rattle.rg_typed.proofs.objects.fields_of.Goals as goal

pub returns-in-None : goal.returns-in-None
returns-in-None c =
    fields-known c.args.book.now.program c.args.class c.class-row.result c.members_of.result.now c.class-row.ensures.tree c.if-row.false c.in-None.is
    c.members_of.ensures.tree c.members_of.ensures.below
