use Rattle.rg_cown.proofs.FieldsHere.{values-take}
use Rattle.rg_cown.proofs.fields.Fields.few.Goals as goal

pub returns : goal.returns
returns c =
    rw (← c.a.view_is, ← c.b.view_is, ← c.c.view_is)
    (values-take c.args.count c.a.inside.kind c.b.inside.kind c.c.inside.kind c.a.inside.number c.b.inside.number c.c.inside.number c.requires)
