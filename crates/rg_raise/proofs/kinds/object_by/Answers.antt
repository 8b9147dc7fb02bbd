use Rattle.std.proofs.Common.{sym, ap, ◌∙◌, subst, Option, Some, length}
use Rattle.rg_verify_expressions.specs.declared.signs.Behind.{Behind}
use Rattle.rg_verify_expressions.specs.Blocks.{object_by}
use Rattle.rg_raise.specs.Telling.{given, MakesAs, IsKindSaid}
use Rattle.rg_raise.proofs.kinds.object_by.Goals as goal

pub returns-in-Some-Room-clause-told : goal.returns-in-Some-Room-clause-told
returns-in-Some-Room-clause-told c s ks fs path left =
    let m = c.args.source.now.body.in_method in
    let g = given c.args.source.now in
    let types = c.args.types.now.items in
    let told = rw c.code.ensures at c.in-Some-Room.ensures.told in
    subst (λ (w : Option Behind). MakesAs (IsKindSaid m (length types)) c.args.program.now c.room_by.new.program
    (object_by g types s ks fs c.args.fronts.code.end w) c.room_by.result) (ap Some (sym c.in-Some-Room.field-0-is) ∙ told)
    (c.room_by.ensures.told s ks fs path left)

pub returns-in-Some-Swap-clause-told : goal.returns-in-Some-Swap-clause-told
returns-in-Some-Swap-clause-told c s ks fs path left =
    let m = c.args.source.now.body.in_method in
    let g = given c.args.source.now in
    let types = c.args.types.now.items in
    let told = rw c.code.ensures at c.in-Some-Swap.ensures.told in
    subst (λ (w : Option Behind). MakesAs (IsKindSaid m (length types)) c.args.program.now c.swap_by.new.program
    (object_by g types s ks fs c.args.fronts.code.end w) c.swap_by.result) (ap Some (sym c.in-Some-Swap.field-0-is) ∙ told)
    (c.swap_by.ensures.told (length types) s ks fs path left.rows)

pub returns-in-None-clause-told : goal.returns-in-None-clause-told
returns-in-None-clause-told c s ks fs path left =
    let m = c.args.source.now.body.in_method in
    let g = given c.args.source.now in
    let types = c.args.types.now.items in
    let told = rw c.code.ensures at c.in-None.ensures.told in
    subst (λ (w : Option Behind). MakesAs (IsKindSaid m (length types)) c.args.program.now c.written_to.new.program
    (object_by g types s ks fs c.args.fronts.code.end w) c.written_to.result) told
    (c.written_to.ensures.told s ks fs path left)
