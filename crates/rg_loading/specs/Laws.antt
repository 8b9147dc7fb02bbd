-- What holds of the images of a plan (docs/architecture.md, "Images").
use Rattle.std.specs.Prelude.{◌≡◌, ℕ, List, Result}
use Rattle.rg_tree.specs.Tree.{Tree}
use Rattle.rg_cown.specs.Cargo.{CargoList}
use Rattle.rg_plan.specs.declared.cown.Cown.{Cown}
use Rattle.rg_loading.specs.Loading.{Failing, LoadsCome}

-- the bytes of files determine what cowns come to
abbrev pub LoadsComeToOne : Type 0
LoadsComeToOne = (t : Tree) (cowns : List Cown) (files : List (List ℕ)) (r q : Result (List CargoList) Failing) → LoadsCome t cowns files r
    → LoadsCome t cowns files q → r ≡ q
