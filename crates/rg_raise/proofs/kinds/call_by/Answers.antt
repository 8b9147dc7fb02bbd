use Rattle.std.proofs.Common.{subst, length, Option}
use Rattle.rg_verify_expressions.specs.declared.signs.Target.{Target}
use Rattle.rg_verify_expressions.specs.Statements.{result_of}
use Rattle.rg_verify_expressions.specs.Blocks.{call_by}
use Rattle.rg_raise.specs.Telling.{given, MakesAs, IsKindSaid}
use Rattle.rg_raise.proofs.RightSides.{call-right}
use Rattle.rg_raise.proofs.kinds.call_by.Goals as goal

pub returns-in-Some-clause-told : goal.returns-in-Some-clause-told
returns-in-Some-clause-told c k is =
    let t = c.args.program.now in
    let m = c.args.source.now.body.in_method in
    let types = c.args.types.now.items in
    let told = rw c.code.ensures at c.in-Some.ensures.told in
    subst (λ (w : Option Target). MakesAs (IsKindSaid m (length types)) t c.taken.new.program (call_by (given c.args.source.now) types k c.args.at w)
    c.taken.result) told (c.taken.ensures.told (result_of k) (call-right t m c.args.call k is))
