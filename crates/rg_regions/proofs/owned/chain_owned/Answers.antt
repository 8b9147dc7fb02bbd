use Rattle.std.proofs.Common.{◌≡◌, ℕ, ◌+◌, ◌<◌, List, length, Option, get_or, ap, sym, ◌∙◌, subst, arith, refl}
use Rattle.std.proofs.lemmas.Option.{same_Some}
use Rattle.rg_base.specs.declared.object.Label.TheVariants.{Region}
use Rattle.rg_regions.specs.Table.{Record, InTable}
use Rattle.rg_regions.specs.Reach.{LiesIn}
use Rattle.rg_regions.proofs.Callers.Told.{labelled_held, members_read, same_record}
use Rattle.rg_regions.specs.Owned.{FollowsMembers}
use Rattle.rg_regions.proofs.Callers.OwnedFound.{members_none, members_more}
use Rattle.rg_regions.proofs.owned.chain_owned.Goals as goal
use Rattle.rg_regions.proofs.owned.chain_owned.Goals.{After-members}

-- the member of a turn is the one at this place of the record
member : (c : After-members) → (c.loop-place.place < length c.requires.there.0.members)
    × (get_or c.requires.there.0.members c.loop-place.place 0 ≡ get_or c.members.result.now c.loop-place.place 0)
member c =
    let rec = c.requires.there.0 in
    let old = c.args.regions.now in
    let inv = c.loop-place.invariant rec c.requires.there.1 in
    let now = members_read old c.loop-place.regions c.args.key rec c.members.result.now inv.records c.requires.there.1 c.members.ensures in
    let end = members_read old old c.args.key rec c.members-place-end.result.now refl c.requires.there.1 c.members-place-end.ensures in
    (omega (arith, ap (length {A = ℕ}) end, c.loop-place-test.true), ap (λ (z : List ℕ). get_or z c.loop-place.place 0) now)

pub loop-place-init : goal.loop-place-init
loop-place-init c = λ r e. members_none c.args.cells.now.heap c.args.region r.members c.args.regions.now c.args.head

pub members-requires : goal.members-requires
members-requires c =
    let rec = c.requires.there.0 in
    let inv = c.loop-place.invariant rec c.requires.there.1 in
    rw (same_record c.args.regions.now c.loop-place.regions c.args.key rec inv.records c.requires.there.1) refl

pub bounds-members-place : goal.bounds-members-place
bounds-members-place c =
    let rec = c.requires.there.0 in
    let old = c.args.regions.now in
    let inv = c.loop-place.invariant rec c.requires.there.1 in
    let now = members_read old c.loop-place.regions c.args.key rec c.members.result.now inv.records c.requires.there.1 c.members.ensures in
    let end = members_read old old c.args.key rec c.members-place-end.result.now refl c.requires.there.1 c.members-place-end.ensures in
    omega (arith, ap (length {A = ℕ}) now, ap (length {A = ℕ}) end, c.loop-place-test.true)

pub chain_fields-head-requires : goal.chain_fields-head-requires
chain_fields-head-requires c =
    let rec = c.requires.there.0 in
    let inv = c.loop-place.invariant rec c.requires.there.1 in
    let m = member (goal.at.chain_fields-head-requires c).After-members in
    let slot : ℕ = get_or c.members.result.now c.loop-place.place 0 in
    let L : ℕ → Type 0 = λ z. LiesIn c.args.cells.now.heap c.args.region z in
    let lies : LiesIn c.args.cells.now.heap c.args.region slot = subst L m.1 (c.requires.there.2.lie c.loop-place.place m.0) in
    record {
      held = labelled_held c.args.cells.now.heap slot (Region c.args.region) lies;
      lead = λ k s f. c.requires.lead slot k s lies f;
      labels = λ q s l.
          let P : List (Option Record) → Type 0 = λ rs. InTable (record c.loop-place.regions { records = rs }) q in
          subst P (sym inv.records) (c.requires.labels q s l);
    }

pub loop-place-preserved : goal.loop-place-preserved
loop-place-preserved c = λ r e.
    let rec = c.requires.there.0 in
    let h = c.args.cells.now.heap in
    let old = c.args.regions.now in
    let new = c.chain_fields-head.new.regions in
    let inv = c.loop-place.invariant rec c.requires.there.1 in
    let m = member (goal.at.loop-place-preserved c).After-members in
    let slot : ℕ = get_or c.members.result.now c.loop-place.place 0 in
    let G : Record → Type 0 =
    λ z. FollowsMembers h c.args.region z.members (c.loop-place.place + 1) old new c.args.head c.chain_fields-head.result in
    subst G (same_Some rec r (sym c.requires.there.1 ∙ e)) (members_more h c.args.region rec.members c.loop-place.place slot old
    c.loop-place.regions new c.args.head c.loop-place.head c.chain_fields-head.result c.requires.there.2 m.0 m.1 c.chain_fields-head.ensures inv)

pub returns : goal.returns
returns c =
    let rec = c.requires.there.0 in
    let h = c.args.cells.now.heap in
    let old = c.args.regions.now in
    let inv = c.loop-place.invariant rec c.requires.there.1 in
    let end = members_read old old c.args.key rec c.members-place-end.result.now refl c.requires.there.1 c.members-place-end.ensures in
    let all : c.loop-place.place ≡ length rec.members =
    omega (arith, ap (length {A = ℕ}) end, c.loop-place-test.false, c.loop-place.auto.place-end) in
    let S : ℕ → Type 0 = λ n. FollowsMembers h c.args.region rec.members n old c.loop-place.regions c.args.head c.loop-place.head in
    let G : Record → Type 0 =
    λ z. FollowsMembers h c.args.region z.members (length z.members) old c.loop-place.regions c.args.head c.loop-place.head in
    λ r e. subst G (same_Some rec r (sym c.requires.there.1 ∙ e)) (subst S all inv)
