use Rattle.std.proofs.Common.{◌≡◌, refl}
use Rattle.rg_values.specs.declared.state.rows.FrameRow.{FrameRow}
use Rattle.rg_values.specs.Kept.{kept_frame}
use Rattle.rg_statements.proofs.Rows.Frame.{frames-front, frames-last, frames-taken, frames-back}
use Rattle.rg_statements.proofs.return_.pop_caller.Goals as goal

pub returns-in-Ok-clause-taken : goal.returns-in-Ok-clause-taken
returns-in-Ok-clause-taken c =
    let caller = c.in-Some.caller in
    let now : FrameRow = record { locals = c.reserve.new.self; target = caller.target } in
    let same : kept_frame now ≡ kept_frame caller = rw c.reserve.ensures.items refl in (
      frames-taken c.args.below.now.items c.pop.new.self.items caller now c.in-Some.ensures.items same,
      λ t fit. frames-last t c.args.below.now.items c.pop.new.self.items caller now c.in-Some.ensures.items same fit,
    )

pub returns-in-Err-clause-fit : goal.returns-in-Err-clause-fit
returns-in-Err-clause-fit c t fit =
    let caller = c.in-Some.caller in
    let now : FrameRow = record { locals = c.reserve.new.self; target = caller.target } in
    let same : kept_frame now ≡ kept_frame caller = rw c.reserve.ensures.items refl in
    frames-back t c.pop.new.self.items c.push_reserved.new.self.items now c.push_reserved.ensures.items
    (frames-front t c.args.below.now.items c.pop.new.self.items caller c.in-Some.ensures.items fit)
    (frames-last t c.args.below.now.items c.pop.new.self.items caller now c.in-Some.ensures.items same fit)
