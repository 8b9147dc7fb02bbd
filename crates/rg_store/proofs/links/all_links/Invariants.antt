use Rattle.std.proofs.Common.{◌≡◌, ℕ, [], ◌∷◌, length, take}
use Rattle.rg_tree.specs.Rows.RowTrees.{classes_of}
use Rattle.rg_rules.specs.Regions.{in_regions, led_from}
use Rattle.rg_store.specs.Shown.{store_of}
use Rattle.rg_store.specs.Links.{listed}
use Rattle.rg_store.proofs.links.all_links.Given as goal

abbrev pub invariant-loop-object : goal.invariant-loop-object
invariant-loop-object l = record {
  count : length l.led.items ≡ l.count;
  led :
      (r : ℕ) →
      listed l.led.items r ≡ led_from (classes_of l.book.program) (store_of l.store) (in_regions (r ∷ [])) (take l.object-index (store_of l.store));
}
