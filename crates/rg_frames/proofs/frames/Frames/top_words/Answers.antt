use Rattle.std.proofs.Common.{◌≡◌, ◌+◌, ◌-◌, ◌∙◌, take, drop, ap, sym, subst, arith}
use Rattle.std.proofs.lemmas.List.{drop-take, length-take-le}
use Rattle.rg_frames.specs.Stack.{Stack}
use Rattle.rg_frames.proofs.frames.Frames.top_words.Goals as goal

pub returns : goal.returns
returns c =
    let s = c.self.inside in
    let Q : Stack → Type 0 = λ v. take (s.top - s.first) (drop s.first c.deref.result.now) ≡ drop v.first v.slots in
    let within = c.self.invariant.1.within in
    let here : s.first + (s.top - s.first) ≡ s.top = omega (arith, within, length-take-le s.top s.slots.items c.self.invariant.2.order) in
    subst Q c.self.view_is
    (ap (λ xs. take (s.top - s.first) (drop s.first xs)) c.deref.ensures.value
    ∙ sym (drop-take s.first (s.top - s.first) s.slots.items)
    ∙ ap (λ n. drop s.first (take n s.slots.items)) here)
