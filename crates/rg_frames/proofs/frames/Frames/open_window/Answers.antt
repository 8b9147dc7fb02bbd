use Rattle.std.proofs.Common.{◌≤◌, ◌+◌, length, Some, subst, sym, arith}
use Rattle.rg_frames.specs.Stack.{Stack, IsTop}
use Rattle.rg_frames.specs.declared.rows.Window.{Window}
use Rattle.rg_frames.proofs.Rising.{lies-push}
use Rattle.rg_frames.proofs.frames.Frames.open_window.Goals as goal

pub invariant_of-self : goal.invariant_of-self
invariant_of-self c =
    let P : Stack → Type 0 = λ v. (w : Window) × IsTop v w × (w.base ≤ c.args.base) in
    let Q : Stack → Type 0 = λ v. c.args.base ≤ length v.slots in
    let above = subst P (sym c.self.view_is) c.requires.above in
    let within = subst Q (sym c.self.view_is) c.requires.within in
    let new : Window = record { number = c.self.inside.next; region = c.args.region; owner = Some c.args.owner; base = c.args.base } in
    rw (c.push_reserved.ensures.items, c.push_reserved-2.ensures.items, c.len-3.ensures) (
      lies-push _ above.0 new (c.self.inside.next + 1) _ (grind arith) above.1 above.2 within c.self.invariant.0,
      c.self.invariant.1,
      c.self.invariant.2,
      c.self.invariant.3,
    )
