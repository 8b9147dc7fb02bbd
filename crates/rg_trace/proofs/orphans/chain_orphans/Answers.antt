use Rattle.std.proofs.Common.{◌≡◌, ◌≢◌, ℕ, ◌+◌, ◌<◌, List, length, Option, Some, None, get_or, sum_by, take, ap, sym}
use Rattle.std.proofs.Common.{◌∙◌, subst}
use Rattle.std.proofs.Common.{arith, refl}
use Rattle.std.proofs.lemmas.List.{take_all}
use Rattle.std.proofs.lemmas.List.Sums.{sum_by_more}
use Rattle.std.proofs.lemmas.Option.{same_Some}
use Rattle.rg_regions.specs.Table.{Record, record_at, InTable}
use Rattle.rg_regions.specs.Reach.{LiesIn}
use Rattle.rg_trace.specs.Orphans.{FollowsWhite, if_white}
use Rattle.rg_trace.proofs.OrphansFound.{searched-none, searched-white, searched-black, white-width, black-width}
use Rattle.rg_trace.proofs.orphans.chain_orphans.Goals as goal
use Rattle.rg_trace.proofs.orphans.chain_orphans.Given.{Over}
use Rattle.rg_trace.proofs.orphans.chain_orphans.Goals.{After-members}
use Rattle.rg_regions.proofs.Callers.Told.{same_members, members_read, lies_held}

-- the members that a turn reads are the record's, and its member is a cell of the region
member : (g : Over) (c : After-members g) → (c.requires.there.0.members ≡ c.members.result.now)
    × (c.loop-place.place < length c.requires.there.0.members)
    × (get_or c.requires.there.0.members c.loop-place.place 0 ≡ get_or c.members.result.now c.loop-place.place 0)
    × LiesIn c.args.cells.now.heap c.args.region (get_or c.members.result.now c.loop-place.place 0)
member g c =
    let rec = c.requires.there.0 in
    let inv = c.loop-place.invariant rec c.requires.there.1 in
    let mem = members_read c.args.regions.now c.loop-place.regions c.args.key rec c.members.result.now inv.0.records
    c.requires.there.1 c.members.ensures in
    let end = same_members _ rec c.members-place-end.result.now c.requires.there.1 c.members-place-end.ensures in
    let room : c.loop-place.place < length rec.members =
    omega (arith, ap (length {A = ℕ}) end, c.loop-place-test.true) in
    let is = ap (λ (z : List ℕ). get_or z c.loop-place.place 0) mem in
    let L : ℕ → Type 0 = λ z. LiesIn c.args.cells.now.heap c.args.region z in
    (mem, room, is, subst L is (c.requires.there.2.lie c.loop-place.place room))

-- with it, its fields are counted if it is white
weighs : (g : Over) (c : After-members g)
    → sum_by (if_white c.args.cells.now.heap c.args.cells.now.marks) (take (c.loop-place.place + 1) c.requires.there.0.members)
    ≡ sum_by (if_white c.args.cells.now.heap c.args.cells.now.marks) (take c.loop-place.place c.requires.there.0.members)
    + if_white c.args.cells.now.heap c.args.cells.now.marks (get_or c.members.result.now c.loop-place.place 0)
weighs g c =
    let m = member g c in
    sum_by_more (if_white c.args.cells.now.heap c.args.cells.now.marks) c.requires.there.0.members c.loop-place.place 0 m.1
    ∙ ap (λ (n : ℕ). sum_by (if_white c.args.cells.now.heap c.args.cells.now.marks)
    (take c.loop-place.place c.requires.there.0.members) + n)
    (ap (if_white c.args.cells.now.heap c.args.cells.now.marks) m.2)

pub loop-place-init : goal.loop-place-init
loop-place-init g c = λ r e. (
  searched-none c.args.cells.now.heap c.args.cells.now.marks c.args.region r.members
      c.args.regions.now,
  omega arith,
)

pub members-requires : goal.members-requires
members-requires g c =
    let rec = c.requires.there.0 in
    let inv = c.loop-place.invariant rec c.requires.there.1 in
    let at : record_at c.loop-place.regions c.args.key ≡ Some rec =
    ap (λ (rs : List (Option Record)). get_or rs c.args.key None) inv.0.records
    ∙ c.requires.there.1 in
    rw at refl

pub bounds-members-place : goal.bounds-members-place
bounds-members-place g c =
    let m = member g (goal.at.bounds-members-place g c).After-members in
    omega (arith, ap (length {A = ℕ}) m.0, m.1)

pub mark-requires : goal.mark-requires
mark-requires g c =
    lies_held c.args.cells.now.heap c.args.region (get_or c.members.result.now c.loop-place.place 0)
    (member g (goal.at.mark-requires g c).After-members).3

pub chain_fields-head-requires : goal.chain_fields-head-requires
chain_fields-head-requires g c =
    let inv = c.loop-place.invariant c.requires.there.0 c.requires.there.1 in
    let slot : ℕ = get_or c.members.result.now c.loop-place.place 0 in
    let lies = (member g (goal.at.chain_fields-head-requires g c).After-members).3 in
    record {
      held = lies_held c.args.cells.now.heap c.args.region slot lies;
      lead = λ k s f. c.requires.lead slot k s lies f;
      labels = λ q s l. let P : List (Option Record)
          → Type 0 = λ rs. InTable (record c.loop-place.regions { records = rs }) q in subst P
          (sym inv.0.records) (c.requires.labels q s l);
    }

pub loop-place-preserved-then-mark-ne0 : goal.loop-place-preserved-then-mark-ne0
loop-place-preserved-then-mark-ne0 g c = λ r e.
    let rec = c.requires.there.0 in
    let inv = c.loop-place.invariant rec c.requires.there.1 in
    let m = member g (goal.at.loop-place-preserved-then-mark-ne0 g c).After-members in
    let slot : ℕ = get_or c.members.result.now c.loop-place.place 0 in
    let black : get_or c.args.cells.now.marks slot 0 ≢ 0 = λ q. c.if-mark-ne0.true (c.mark.ensures ∙ q) in
    let none = black-width c.args.cells.now.heap c.args.cells.now.marks slot black in
    let more = weighs g (goal.at.loop-place-preserved-then-mark-ne0 g c).After-members in
    let G : Record → Type 0 = λ z. FollowsWhite c.args.cells.now.heap c.args.cells.now.marks c.args.region z.members
    (c.loop-place.place + 1)
    c.args.regions.now c.loop-place.regions c.loop-place.head
    × (c.loop-place.steps ≡ c.args.steps.now + sum_by (if_white c.args.cells.now.heap c.args.cells.now.marks)
    (take (c.loop-place.place + 1) z.members)) in
    subst G (same_Some rec r (sym c.requires.there.1 ∙ e)) (
      searched-black c.args.cells.now.heap c.args.cells.now.marks c.args.region rec.members c.loop-place.place slot
          c.args.regions.now
          c.loop-place.regions c.loop-place.head m.2 black inv.0,
      omega (arith, inv.1, more, none),
    )

pub loop-place-preserved : goal.loop-place-preserved
loop-place-preserved g c = λ r e.
    let rec = c.requires.there.0 in
    let inv = c.loop-place.invariant rec c.requires.there.1 in
    let m = member g (goal.at.loop-place-preserved g c).After-members in
    let slot : ℕ = get_or c.members.result.now c.loop-place.place 0 in
    let white : get_or c.args.cells.now.marks slot 0 ≡ 0 = sym c.mark.ensures ∙ c.if-mark-ne0.false in
    let wide = white-width c.args.cells.now.heap c.args.cells.now.marks slot white in
    let more = weighs g (goal.at.loop-place-preserved g c).After-members in
    let G : Record → Type 0 = λ z. FollowsWhite c.args.cells.now.heap c.args.cells.now.marks c.args.region z.members
    (c.loop-place.place + 1)
    c.args.regions.now c.chain_fields-head.new.regions c.chain_fields-head.result
    × (c.chain_fields-head.new.steps ≡ c.args.steps.now + sum_by (if_white c.args.cells.now.heap c.args.cells.now.marks)
    (take (c.loop-place.place + 1) z.members)) in
    subst G (same_Some rec r (sym c.requires.there.1 ∙ e)) (
      searched-white c.args.cells.now.heap c.args.cells.now.marks c.args.region rec.members c.loop-place.place slot
          c.args.regions.now
          c.loop-place.regions c.chain_fields-head.new.regions c.loop-place.head c.chain_fields-head.result
          c.requires.there.2 m.1 m.2 white
          c.chain_fields-head.ensures.fields inv.0,
      omega (arith, inv.1, more, wide, c.chain_fields-head.ensures.cost),
    )

pub returns : goal.returns
returns g c =
    let rec = c.requires.there.0 in
    let inv = c.loop-place.invariant rec c.requires.there.1 in
    let end : rec.members ≡ c.members-place-end.result.now =
    same_members _ rec c.members-place-end.result.now c.requires.there.1
    c.members-place-end.ensures in
    let all : c.loop-place.place ≡ length rec.members = omega
    (arith, ap (length {A = ℕ}) end, c.loop-place-test.false, c.loop-place.auto.place-end) in
    let S : ℕ → Type 0 = λ n. FollowsWhite c.args.cells.now.heap c.args.cells.now.marks c.args.region rec.members n
    c.args.regions.now
    c.loop-place.regions c.loop-place.head in
    let G : Record → Type 0 = λ z. FollowsWhite c.args.cells.now.heap c.args.cells.now.marks c.args.region z.members
    (length z.members)
    c.args.regions.now c.loop-place.regions c.loop-place.head in
    let C : Record → Type 0 = λ z.
    c.loop-place.steps ≡ c.args.steps.now + sum_by
    (if_white c.args.cells.now.heap c.args.cells.now.marks) z.members in
    let whole : take c.loop-place.place rec.members ≡ rec.members =
    take_all c.loop-place.place rec.members (omega (arith, all)) in
    record {
      searched = λ r e. subst G (same_Some rec r (sym c.requires.there.1 ∙ e)) (subst S all inv.0);
      cost = λ r e. subst C (same_Some rec r (sym c.requires.there.1 ∙ e))
          (inv.1 ∙ ap (λ (z : List ℕ). c.args.steps.now + sum_by
          (if_white c.args.cells.now.heap c.args.cells.now.marks) z) whole);
    }
