use Rattle.std.proofs.Common.{◌≡◌, ℕ, ◌+◌, ◌<◌, List, length, get_or, ap, sym, ◌∙◌, refl, subst, arith}
use Rattle.std.proofs.lemmas.Option.{same_Some}
use Rattle.rg_regions.specs.Table.{Record, record_at}
use Rattle.rg_regions.proofs.Callers.Told.{same_members}
use Rattle.rg_move.specs.Inner.Moves.{PushedFirst}
use Rattle.rg_move.proofs.MembersMoved.{pushed_more}
use Rattle.rg_move.proofs.merging.move_members.Goals as goal
use Rattle.rg_move.proofs.merging.move_members.Goals.{After-members}

-- the place of a turn is one of the record's members, and these are the members that were read
member : (c : After-members) → (c.loop-place.place < length c.requires.one.members)
    × (c.requires.one.members ≡ c.members.result.now)
member c =
    let w = c.requires in
    let p = c.loop-place.invariant w.one w.other w.at w.to in
    let end = same_members (record_at c.args.regions.now c.args.from) w.one c.members-place-end.result.now w.at
    c.members-place-end.ensures in (
      omega (arith, ap (length {A = ℕ}) end, c.loop-place-test.true),
      same_members (record_at c.loop-place.regions c.args.from) w.one c.members.result.now
          (p.others c.args.from w.differ ∙ w.at) c.members.ensures,
    )

pub members-requires : goal.members-requires
members-requires c =
    let w = c.requires in
    rw ((c.loop-place.invariant w.one w.other w.at w.to).others c.args.from w.differ ∙ w.at) refl

pub bounds-members-place : goal.bounds-members-place
bounds-members-place c =
    let m = member (goal.at.bounds-members-place c).After-members in
    omega (arith, ap (length {A = ℕ}) m.1, m.0)

pub push_member-requires : goal.push_member-requires
push_member-requires c =
    let w = c.requires in
    let p = c.loop-place.invariant w.one w.other w.at w.to in
    let m = member (goal.at.push_member-requires c).After-members in
    (_, p.pushed, omega (arith, m.0, w.room))

pub loop-place-preserved : goal.loop-place-preserved
loop-place-preserved c = λ a b e f.
    let w = c.requires in
    let p = c.loop-place.invariant w.one w.other w.at w.to in
    let m = member (goal.at.loop-place-preserved c).After-members in
    let G : Record → Type 0 = λ z. PushedFirst c.args.regions.now c.args.from c.args.into z b (c.loop-place.place + 1)
    c.push_member.new.self in
    let H : Record → Type 0 = λ z. PushedFirst c.args.regions.now c.args.from c.args.into w.one z
    (c.loop-place.place + 1) c.push_member.new.self in
    subst G (same_Some w.one a (sym w.at ∙ e)) (subst H (same_Some w.other b (sym w.to ∙ f))
    (pushed_more c.args.regions.now c.loop-place.regions c.push_member.new.self c.args.from c.args.into w.one w.other
    c.loop-place.place
    (get_or c.members.result.now c.loop-place.place 0) m.0 (ap (λ (z : List ℕ). get_or z c.loop-place.place 0) m.1)
    p c.push_member.ensures))

pub returns : goal.returns
returns c = λ a b e f.
    let end = same_members (record_at c.args.regions.now c.args.from)
    a c.members-place-end.result.now e c.members-place-end.ensures in
    let all : c.loop-place.place ≡ length a.members =
    omega (arith, ap (length {A = ℕ}) end, c.loop-place-test.false, c.loop-place.auto.place-end) in
    let G : ℕ → Type 0 = λ n. PushedFirst c.args.regions.now c.args.from c.args.into a b n c.loop-place.regions in
    subst G all (c.loop-place.invariant a b e f)
