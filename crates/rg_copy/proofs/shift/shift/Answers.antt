use Rattle.std.proofs.Common.{◌≡◌, ap, sym, ◌∙◌, arith, ℕ, get_or, slice_get, Some, None}
use Rattle.std.proofs.lemmas.Option.{slice_get-get_or}
use Rattle.rg_copy.proofs.Shifted.{shift-begin, shift-held, shift-stay, shift-go}
use Rattle.rg_cells.specs.Table.{link_at}
use Rattle.rg_copy.proofs.shift.shift.Goals.{in-Some, in-None}
use Rattle.rg_copy.proofs.shift.shift.Goals as goal

pub loop-slot-init : goal.loop-slot-init
loop-slot-init c = shift-begin c.args.cells.now c.args.region c.args.members.now

pub link-requires : goal.link-requires
link-requires c =
    let i = c.loop-slot.slot-index in
    let slot : ℕ = get_or c.args.members.now i 0 in
    let at : slice_get c.args.members.now i ≡ Some slot =
    slice_get-get_or c.args.members.now i 0 c.loop-slot-test.true in
    shift-held c.args.cells.now c.loop-slot.cells c.args.region i c.args.members.now c.loop-slot.invariant.0 slot
    c.loop-slot.invariant.1 (c.requires.members.lie i slot at)

pub exchange-requires-clause-second : goal.exchange-requires-clause-second
exchange-requires-clause-second c =
    let i = c.loop-slot.slot-index in
    let slot : ℕ = get_or c.args.members.now i 0 in
    let at : slice_get c.args.members.now i ≡ Some slot =
    slice_get-get_or c.args.members.now i 0 c.loop-slot-test.true in
    let w = c.loop-slot.invariant.1 in
    let link : link_at c.args.cells.now slot ≡ Some c.in-Some.to =
    ap (link_at c.args.cells.now) (sym (w.left i slot (omega arith) at)) ∙ sym (w.links slot) ∙ sym c.link.ensures
    ∙ c.in-Some.is in
    shift-held c.args.cells.now c.loop-slot.cells c.args.region i c.args.members.now c.loop-slot.invariant.0 c.in-Some.to w
    (c.requires.plan.down slot c.in-Some.to (c.requires.members.lie i slot at) link).0

pub loop-slot-preserved : goal.loop-slot-preserved
loop-slot-preserved c =
    let i = c.loop-slot.slot-index in
    let slot : ℕ = get_or c.args.members.now i 0 in
    let at : slice_get c.args.members.now i ≡ Some slot =
    slice_get-get_or c.args.members.now i 0 c.loop-slot-test.true in
    elim c.match-link.branch [
      | in-Some w ↦
          let k : link_at c.loop-slot.cells slot ≡ Some w.in-Some.to = sym c.link.ensures ∙ w.in-Some.is in
          rw w.cells-is (shift-go c.args.cells.now c.loop-slot.cells c.args.region c.args.members.now i slot
          c.requires.members at c.loop-slot.invariant.0 c.loop-slot.invariant.1 w.in-Some.to w.exchange.new.self
          c.requires.rise c.requires.plan k w.exchange.ensures.exchanged
          w.exchange.ensures.within.0.0 w.exchange.ensures.within.1.0 w.exchange.ensures.within.0.1
          w.exchange.ensures.within.1.1)
      | in-None w ↦
          let k : link_at c.loop-slot.cells slot ≡ None = sym c.link.ensures ∙ w.in-None.is in
          rw w.cells-is (shift-stay c.args.cells.now c.loop-slot.cells c.args.region c.args.members.now i slot
          c.requires.members at c.loop-slot.invariant.0 c.loop-slot.invariant.1 k)
    ]
