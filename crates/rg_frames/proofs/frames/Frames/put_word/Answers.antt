use Rattle.std.proofs.Common.{◌<◌, length, arith, subst}
use Rattle.std.proofs.lemmas.List.{length-take-le}
use Rattle.rg_frames.specs.Stack.{Stack}
use Rattle.rg_frames.proofs.frames.Frames.put_word.Goals as goal

pub set_place-requires-clause-within : goal.set_place-requires-clause-within
set_place-requires-clause-within c =
    let Q : Stack → Type 0 = λ v. c.args.place < length v.slots in
    let long = length-take-le c.self.inside.top c.self.inside.slots.items c.self.invariant.2.order in
    subst Q c.self.view_is (omega (arith, c.if-place-self.true, long))
