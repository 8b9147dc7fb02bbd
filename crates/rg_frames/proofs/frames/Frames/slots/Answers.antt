use Rattle.std.proofs.Common.{◌≡◌, ◌+◌, ◌-◌, ◌∙◌, length, take, drop, ap, sym, subst, arith}
use Rattle.std.proofs.lemmas.List.{drop-take, length-take-le}
use Rattle.rg_frames.specs.declared.rows.Window.{Window}
use Rattle.rg_frames.specs.Stack.{Stack, IsTop}
use Rattle.rg_frames.proofs.Rising.{is-last}
use Rattle.rg_frames.proofs.frames.Frames.slots.Goals as goal

pub returns : goal.returns
returns c = λ w e.
    let s = c.self.inside in
    let base = c.index.result.now.base in
    let P : Stack → Type 0 = λ v. IsTop v w in
    let Q : Stack → Type 0 = λ v. take (s.top - base) (drop base c.deref.result.now) ≡ drop w.base v.slots in
    let top = subst P (sym c.self.view_is) e in
    let same = is-last s.windows.items c.len.result w c.index.result.now (omega (arith, c.len.ensures, s.windows.ok.0)) top c.index.ensures in
    let is : w.base ≡ base = ap (λ (x : Window). x.base) same in
    let within = c.self.invariant.0.bases.within (length s.windows.items - 1) w top in
    let here : base + (s.top - base) ≡ s.top =
    omega (arith, within, is, length-take-le s.top s.slots.items c.self.invariant.2.order) in
    subst Q c.self.view_is
    (ap (λ xs. take (s.top - base) (drop base xs)) c.deref.ensures.value
    ∙ sym (drop-take base (s.top - base) s.slots.items)
    ∙ ap (λ n. drop base (take n s.slots.items)) here
    ∙ ap (λ n. drop n (take s.top s.slots.items)) (sym is))
