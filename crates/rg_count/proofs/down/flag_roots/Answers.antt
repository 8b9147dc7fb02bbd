use Rattle.std.proofs.Common.{◌≡◌, length, slice_get, Some, subst}
use Rattle.rg_cells.specs.Table.{Heap}
use Rattle.rg_count.specs.Inner.Flags.{Flagged, Among, InTemps}
use Rattle.rg_count.proofs.CountsBegun.{rooted-of, links-of}
use Rattle.rg_count.proofs.down.flag_roots.Given.{Over}
use Rattle.rg_count.proofs.down.flag_roots.Goals as goal
use Rattle.rg_count.proofs.down.flag_roots.Goals.{After-flag_temps}

-- bridge, slots and temporaries were flagged, one after another, on the heap as it was
flagged : (g : Over) (c : After-flag_temps g)
    → Flagged c.args.cells.now.heap c.args.region (λ s. c.args.roots.now.bridge ≡ Some s) c.clear.new.cells
    c.flag_bridge.new.cells
    × Flagged c.args.cells.now.heap c.args.region (Among (λ k. slice_get c.args.roots.now.slots.now k)
    (length c.args.roots.now.slots.now)) c.flag_bridge.new.cells c.flag_words.new.cells
    × Flagged c.args.cells.now.heap c.args.region (InTemps c.args.cells.now.heap c.args.roots.now.temps.now
    (length c.args.roots.now.temps.now)) c.flag_words.new.cells c.flag_temps.new.cells
flagged g c =
    let h = c.args.cells.now.heap in
    let r = c.args.region in
    let a = c.clear.new.cells in
    let b = c.flag_bridge.new.cells in
    let d = c.flag_words.new.cells in
    let e = c.flag_temps.new.cells in
    let one : a.heap ≡ h = c.clear.ensures.heap in
    let B : Heap → Type 0 = λ z. Flagged z r (λ s. c.args.roots.now.bridge ≡ Some s) a b in
    let fb = subst B one c.flag_bridge.ensures in
    let W : Heap → Type 0 = λ z. Flagged z r (Among (λ k. slice_get c.args.roots.now.slots.now k)
    (length c.args.roots.now.slots.now)) b d in
    let fw = subst W fb.heap c.flag_words.ensures in
    let T : Heap → Type 0 = λ z. Flagged z r (InTemps z c.args.roots.now.temps.now (length c.args.roots.now.temps.now)) d e in
    let ft = subst T fw.heap c.flag_temps.ensures.flagged in
    (fb, fw, ft)

pub returns-clause-rooted : goal.returns-clause-rooted
returns-clause-rooted g c =
    let h = c.args.cells.now.heap in
    let r = c.args.region in
    let a = c.clear.new.cells in
    let b = c.flag_bridge.new.cells in
    let w = flagged g (goal.at.returns-clause-rooted g c).After-flag_temps in
    rooted-of h r c.args.members.now c.args.roots.now.bridge c.args.roots.now.slots.now c.args.roots.now.temps.now c.args.cells.now a b
    c.flag_words.new.cells c.flag_temps.new.cells c.requires.members c.clear.ensures w.0 w.1 w.2

pub returns-clause-links : goal.returns-clause-links
returns-clause-links g c =
    let h = c.args.cells.now.heap in
    let r = c.args.region in
    let a = c.clear.new.cells in
    let b = c.flag_bridge.new.cells in
    let w = flagged g (goal.at.returns-clause-links g c).After-flag_temps in
    links-of h r c.args.members.now (λ s. c.args.roots.now.bridge ≡ Some s)
    (Among (λ k. slice_get c.args.roots.now.slots.now k) (length c.args.roots.now.slots.now))
    (InTemps h c.args.roots.now.temps.now (length c.args.roots.now.temps.now)) c.args.cells.now a b
    c.flag_words.new.cells c.flag_temps.new.cells c.requires.members c.clear.ensures w.0 w.1 w.2
