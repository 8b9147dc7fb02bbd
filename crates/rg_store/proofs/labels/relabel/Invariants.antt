use Rattle.std.proofs.Common.{◌≡◌, ◌++◌, ℕ, List, take, drop, map}
use Rattle.rg_rules.specs.Regions.{relabelled_object}
use Rattle.rg_store.specs.Regions.{AreRegions}
use Rattle.rg_store.specs.Shown.{store_of}
use Rattle.rg_store.proofs.labels.relabel.Given as goal

abbrev pub invariant-loop-object : goal.invariant-loop-object
invariant-loop-object l =
    (these : List ℕ) → AreRegions l.regions these →
    store_of l.object-items
    ≡ map (relabelled_object these l.label) (take l.object-index (store_of l.fn.store)) ++ drop l.object-index (store_of l.fn.store)
