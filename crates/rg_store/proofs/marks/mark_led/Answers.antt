use Rattle.std.proofs.Common.{◌∙◌, ◌<◌, length, sym, subst, flat_map, arith}
use Rattle.rg_tree.proofs.TreesFrom.{length-Begins}
use Rattle.rg_store.specs.Links.{listed}
use Rattle.rg_store.specs.Inner.Found.{FindsToo}
use Rattle.rg_store.proofs.Subregions.{FindsToo-none, FindsToo-more, drop-take-none, found-below, list-there}
use Rattle.rg_store.proofs.marks.mark_led.Goals as goal

pub loop-i-init : goal.loop-i-init
loop-i-init c =
    let f = c.args.found.now in
    subst (λ q. FindsToo f f (flat_map (listed c.args.led.now) q)) (sym (drop-take-none f.regions.items c.args.done)) (FindsToo-none f c.requires.fit)

pub list_of-requires : goal.list_of-requires
list_of-requires c =
    let inv = c.loop-i.invariant in
    let here : c.loop-i.i < length c.loop-i.found.regions.items =
    omega (arith, length-Begins inv.before, c.len-known.ensures, c.args.found.now.regions.ok.0, c.loop-i-test.true) in
    found-below c.loop-i.found (length c.args.led.now) c.loop-i.i c.index-region.result.now _ inv.fit (inv.count ∙ sym c.requires.count) here
    c.index-region.ensures

pub mark_all-requires-clause-there : goal.mark_all-requires-clause-there
mark_all-requires-clause-there c =
    let inv = c.loop-i.invariant in
    let here : c.loop-i.i < length c.loop-i.found.regions.items =
    omega (arith, length-Begins inv.before, c.len-known.ensures, c.args.found.now.regions.ok.0, c.loop-i-test.true) in
    list-there c.args.led.now c.index-region.result.now (length c.loop-i.found.marks.items) c.list_of.result.now
    (found-below c.loop-i.found (length c.args.led.now) c.loop-i.i c.index-region.result.now _ inv.fit (inv.count ∙ sym c.requires.count) here
    c.index-region.ensures) c.list_of.ensures (inv.count ∙ sym c.requires.count) c.requires.there

pub loop-i-preserved : goal.loop-i-preserved
loop-i-preserved c =
    let f = c.args.found.now in
    let here : c.loop-i.i < length f.regions.items = omega (arith, c.len-known.ensures, f.regions.ok.0, c.loop-i-test.true) in
    FindsToo-more f c.loop-i.found c.mark_all.new.found (listed c.args.led.now) c.args.done c.loop-i.i c.index-region.result.now _
    c.list_of.result.now c.loop-i.auto.i here c.index-region.ensures c.list_of.ensures c.loop-i.invariant c.in_ok-mark_all.ensures
