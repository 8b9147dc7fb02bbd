use Rattle.std.proofs.Common.{◌≡◌, ◌≢◌, ap, sym, ◌∙◌, subst, arith, ℕ, length, List, get_or, slice_get, Some, refl}
use Rattle.std.proofs.lemmas.Option.{slice_get-get_or}
use Rattle.rg_cells.specs.Table.{Heap, IsHeld, mark_at}
use Rattle.rg_regions.proofs.Callers.Told.{lies_held}
use Rattle.rg_copy.specs.Inner.Plans.{Planned}
use Rattle.rg_copy.proofs.Turns.{plan-white, plan-bridge, plan-goes, plan-whole, free-below, free-next, free-off}
use Rattle.rg_copy.proofs.plan.plan.Goals as goal
use Rattle.rg_copy.proofs.plan.plan.Goals.{In-loop-place}

-- the member of a turn is held
member_held : (c : In-loop-place) → IsHeld c.loop-place.cells.heap (get_or c.args.members.now c.loop-place.place 0)
member_held c =
    let i = c.loop-place.place in
    let slot : ℕ = get_or c.args.members.now i 0 in
    let at : slice_get c.args.members.now i ≡ Some slot =
    slice_get-get_or c.args.members.now i 0 c.loop-place-test.true in
    let H : Heap → Type 0 = λ z. IsHeld z slot in
    subst H (sym c.loop-place.invariant.heap)
    (lies_held c.args.cells.now.heap c.args.region slot (c.requires.members.lie i slot at))

pub loop-place-preserved-then-mark-eq0 : goal.loop-place-preserved-then-mark-eq0
loop-place-preserved-then-mark-eq0 c =
    let i = c.loop-place.place in
    let slot : ℕ = get_or c.args.members.now i 0 in
    let at : slice_get c.args.members.now i ≡ Some slot =
    slice_get-get_or c.args.members.now i 0 c.loop-place-test.true in
    let marks : mark_at c.args.cells.now slot ≡ 0 =
    ap (λ (ks : List ℕ). get_or ks slot 0) (sym c.loop-place.invariant.marks) ∙ sym c.mark.ensures ∙ c.if-mark-eq0.true in
    plan-white c.args.cells.now c.loop-place.cells c.set_link.new.self c.args.region c.args.members.now c.args.bridge i
    c.loop-place.free slot c.requires.members at c.loop-place.invariant _ c.set_link.ensures.within
    c.set_link.ensures.set marks refl

pub set_link-requires-then-is_bridge : goal.set_link-requires-then-is_bridge
set_link-requires-then-is_bridge c = member_held (goal.at.set_link-requires-then-is_bridge c).In-loop-place

pub loop-place-preserved-then-is_bridge : goal.loop-place-preserved-then-is_bridge
loop-place-preserved-then-is_bridge c =
    let i = c.loop-place.place in
    let slot : ℕ = get_or c.args.members.now i 0 in
    let at : slice_get c.args.members.now i ≡ Some slot =
    slice_get-get_or c.args.members.now i 0 c.loop-place-test.true in
    let marks : mark_at c.args.cells.now slot ≢ 0 = λ q. c.if-mark-eq0.false
    (c.mark.ensures ∙ ap (λ (ks : List ℕ). get_or ks slot 0) c.loop-place.invariant.marks ∙ q) in
    plan-bridge c.args.cells.now c.loop-place.cells c.set_link-then-is_bridge.new.self c.args.region c.args.members.now
    c.args.bridge i c.loop-place.free slot c.requires.members at c.loop-place.invariant _
    c.set_link-then-is_bridge.ensures.within c.set_link-then-is_bridge.ensures.set marks
    (c.is_bridge.ensures.yes c.if-is_bridge.true) refl

pub bounds-members-at : goal.bounds-members-at
bounds-members-at c =
    let i = c.loop-place.place in
    let slot : ℕ = get_or c.args.members.now i 0 in
    let at : slice_get c.args.members.now i ≡ Some slot =
    slice_get-get_or c.args.members.now i 0 c.loop-place-test.true in
    let z = free-below c.args.members.now c.args.bridge i c.loop-place.free c.free_place-at.result slot at
    (c.is_bridge.ensures.no c.if-is_bridge.false) c.loop-place.invariant.behind c.free_place-at.ensures in
    omega (arith, z, c.loop-place-test.true)

pub set_link-requires-in-loop-place : goal.set_link-requires-in-loop-place
set_link-requires-in-loop-place c = member_held (goal.at.set_link-requires-in-loop-place c).In-loop-place

pub loop-place-preserved : goal.loop-place-preserved
loop-place-preserved c =
    let i = c.loop-place.place in
    let members = c.args.members.now in
    let to = c.free_place-at.result in
    let slot : ℕ = get_or c.args.members.now i 0 in
    let d0 : ℕ = get_or c.args.members.now c.free_place-at.result 0 in
    let at : slice_get c.args.members.now i ≡ Some slot =
    slice_get-get_or c.args.members.now i 0 c.loop-place-test.true in
    let marks : mark_at c.args.cells.now slot ≢ 0 = λ q. c.if-mark-eq0.false
    (c.mark.ensures ∙ ap (λ (ks : List ℕ). get_or ks slot 0) c.loop-place.invariant.marks ∙ q) in
    let is = c.is_bridge.ensures.no c.if-is_bridge.false in
    let low = free-below members c.args.bridge i c.loop-place.free to slot at is c.loop-place.invariant.behind
    c.free_place-at.ensures in
    let there : slice_get c.args.members.now c.free_place-at.result ≡ Some d0 =
    slice_get-get_or c.args.members.now c.free_place-at.result 0 (omega (arith, low, c.loop-place-test.true)) in
    plan-goes c.args.cells.now c.loop-place.cells c.set_link-in-loop-place.new.self c.args.region members
    c.args.bridge i c.loop-place.free slot c.requires.members at c.loop-place.invariant _
    c.set_link-in-loop-place.ensures.within c.set_link-in-loop-place.ensures.set to d0 marks is refl there
    (free-off c.args.cells.now c.args.region members c.args.bridge c.loop-place.free to d0 c.requires.members there
    c.free_place-at.ensures) c.free_place-at.ensures.from low
    (free-next members c.args.bridge c.loop-place.free to d0 there c.free_place-at.ensures)

pub returns : goal.returns
returns c =
    let P : ℕ → Type 0 = λ n.
    Planned c.args.cells.now c.args.members.now c.args.bridge n c.loop-place.free c.loop-place.cells in
    let q : c.loop-place.place ≡ length c.args.members.now = omega (arith, c.loop-place-test.false, c.loop-place.auto) in
    plan-whole c.args.cells.now c.loop-place.cells c.args.region c.args.members.now c.args.bridge c.loop-place.free
    c.requires.members c.requires.rise (subst P q c.loop-place.invariant)
