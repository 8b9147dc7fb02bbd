use Rattle.std.proofs.Common.{subst}
use Rattle.rg_tree.specs.Tree.{Tree}
use Rattle.rg_rules.specs.State.{State}
use Rattle.rg_sound.specs.Fit.{Fit}
use Rattle.rg_code.specs.Code.{Code}
use Rattle.rg_held.specs.Shown.{ShowsHeld}
use Rattle.rg_machine.specs.Owned.{IsOwned}
use Rattle.rg_machine.specs.Parts.{machine_in}
use Rattle.rg_step.specs.Stepping.{Stepping}
use Rattle.rg_step.proofs.Held.{shows-some}
use Rattle.rg_step.proofs.stepper.Stepper.is_owned.Goals as goal

abbrev Says : Stepping → Type 0
Says n = (t : Tree) (code : Code) (p : State) → Fit t p → ShowsHeld t.classes code (machine_in n.parts) p → IsOwned n.parts

pub returns-in-Some : goal.returns-in-Some
returns-in-Some c =
    subst Says (shows-some c.self.inside.machine c.in-Some.p c.self.inside.kept c.args.self.now c.in-Some.is c.self.view_is) c.is_owned.ensures
