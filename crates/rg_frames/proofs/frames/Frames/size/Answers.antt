use Rattle.std.proofs.Common.{◌≡◌, ◌-◌, length, ap, sym, subst, arith}
use Rattle.std.proofs.lemmas.List.{length-take-le}
use Rattle.rg_frames.specs.Stack.{Stack}
use Rattle.rg_frames.proofs.frames.Frames.size.Goals as goal

pub overflow_sub-result : goal.overflow_sub-result
overflow_sub-result c =
    omega (arith, c.self.invariant.1.within, length-take-le c.self.inside.top c.self.inside.slots.items c.self.invariant.2.order)

pub returns : goal.returns
returns c =
    let P : Stack → Type 0 = λ v. c.self.inside.top - c.self.inside.first ≡ length v.slots - v.first in
    subst P c.self.view_is
    (sym (ap (λ n. n - c.self.inside.first) (length-take-le c.self.inside.top c.self.inside.slots.items c.self.invariant.2.order)))
