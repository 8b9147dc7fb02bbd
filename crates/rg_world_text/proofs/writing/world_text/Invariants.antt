use Rattle.std.proofs.Common.{◌≡◌, ℕ, List, ◌++◌, drop}
use Rattle.rg_tree.specs.Tree.{Tree}
use Rattle.rg_cown.specs.Cargo.{CargoList}
use Rattle.rg_code.specs.Code.{Code}
use Rattle.rg_sched_atomic.specs.Settings.{setting_of}
use Rattle.rg_sched_atomic.specs.Events.{world_after}
use Rattle.rg_world.specs.Worlds.{IsBehind}
use Rattle.rg_world_text.specs.Text.{world_text, text_from}
use Rattle.rg_world_text.proofs.writing.world_text.Given as goal

abbrev pub invariant-loop-i : goal.invariant-loop-i
invariant-loop-i l =
    (t : Tree) (code : Code) (images : List CargoList) (schedule : List ℕ) → IsBehind t code l.plan images schedule l.world
    → l.text ++ text_from l.i (drop l.i l.plan.behaviours) (world_after t.classes (setting_of t.classes l.plan images) schedule).told.runs
    ≡ world_text l.plan (world_after t.classes (setting_of t.classes l.plan images) schedule).told
