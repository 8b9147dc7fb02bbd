use Rattle.std.proofs.Common.{◌<◌, ℕ, List, [], ◌∷◌, length, All, Vec, Global, refl, sym, subst}
use Rattle.rg_tree.specs.Rows.RowTrees.{classes_of}
use Rattle.rg_rules.specs.Regions.{in_regions, led_from, beneath}
use Rattle.rg_store.specs.Links.{listed}
use Rattle.rg_store.specs.Shown.{store_of}
use Rattle.rg_store.proofs.Among.{led-fits}
use Rattle.rg_store.proofs.Subregions.{links-there, marks-as}
use Rattle.rg_store.proofs.LinkedObjects.{linked-beneath}
use Rattle.rg_store.proofs.marks.beneath.Goals as goal

pub linked-requires-clause-links : goal.linked-requires-clause-links
linked-requires-clause-links c =
    let cs = classes_of c.args.book.now.program in
    let st = store_of c.args.store.now in
    subst (λ (q : List (Vec ℕ Global)). (r : ℕ) → r < length q → All (λ p. p < length q) (listed q r)) (sym c.deref.ensures.value)
    (links-there c.args.count c.in_ok-led.led.items (λ r. led_from cs st (in_regions (r ∷ [])) st) c.in_ok-led.ensures.count_is
    c.in_ok-led.ensures.led (λ r. led-fits c.args.count cs st (in_regions (r ∷ [])) st c.requires.labels))

pub returns : goal.returns
returns c =
    let cs = classes_of c.args.book.now.program in
    let st = store_of c.args.store.now in
    let from = c.args.region ∷ [] in
    marks-as c.args.count c.args.region (beneath cs st c.args.count from) c.deref.result.now c.in_ok-led.led.items c.linked.result
    c.deref.ensures.value c.in_ok-led.ensures.count_is
    (linked-beneath cs st (listed c.in_ok-led.led.items) c.in_ok-led.ensures.led c.args.count from from (λ n. refl)) c.linked.ensures
