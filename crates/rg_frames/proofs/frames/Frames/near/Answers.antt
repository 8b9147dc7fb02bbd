use Rattle.std.proofs.Common.{◌≡◌, ◌<◌, ◌+◌, length, slice_get, unwrap_or, subst, sym, arith}
use Rattle.rg_base.specs.declared.value.Word.TheVariants.{Nil}
use Rattle.rg_frames.specs.Stack.{Stack}
use Rattle.rg_frames.proofs.Taken.{near-shown, near-there}
use Rattle.rg_frames.proofs.frames.Frames.near.Goals as goal

pub index-requires : goal.index-requires
index-requires c =
    let s = c.self.inside in
    let P : Stack → Type 0 = λ v. 0 < length v.frames in
    let some = subst P (sym c.self.view_is) c.requires in
    let there : s.first + c.args.s < length s.slots.items =
    near-there s.rows.items _ _ _ _ _ some (omega (arith, s.rows.ok.0, s.rows.ok.1)) c.self.invariant.1.within c.self.invariant.2.order
    (omega (arith, c.ranges.s)) c.self.invariant.3 in
    omega (arith, there, s.slots.ok.0)

pub returns : goal.returns
returns c =
    let s = c.self.inside in
    let P : Stack → Type 0 = λ v. 0 < length v.frames in
    let Q : Stack → Type 0 = λ v. c.index.result.now ≡ unwrap_or (slice_get v.slots (v.first + c.args.s)) Nil in
    let some = subst P (sym c.self.view_is) c.requires in
    let there : s.first + c.args.s < length s.slots.items =
    near-there s.rows.items _ _ _ _ _ some (omega (arith, s.rows.ok.0, s.rows.ok.1)) c.self.invariant.1.within c.self.invariant.2.order
    (omega (arith, c.ranges.s)) c.self.invariant.3 in
    subst Q c.self.view_is (near-shown _ _ _ _ c.self.invariant.2 there c.index.ensures)
