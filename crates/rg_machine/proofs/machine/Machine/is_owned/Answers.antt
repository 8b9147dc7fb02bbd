use Rattle.std.proofs.Common.{◌≤◌, ◌-◌, ◌^◌, subst, arith}
use Rattle.rg_tree.specs.Tree.{Tree}
use Rattle.rg_rules.specs.State.{State}
use Rattle.rg_sound.specs.Fit.{Fit}
use Rattle.rg_code.specs.Code.{Code}
use Rattle.rg_held.specs.Shown.{ShowsHeld}
use Rattle.rg_machine.specs.Owned.{IsOwned}
use Rattle.rg_machine.specs.Parts.{Parts, machine_in}
use Rattle.rg_machine.proofs.Owned.{owned-shown}
use Rattle.rg_machine.proofs.machine.Machine.is_owned.Goals as goal

few : (c : goal.After-next_number) → c.self.inside.frames.next ≤ 2 ^ 64 - 1
few c = let is = c.next_number.ensures in let lt = c.next_number.type_inv in omega (arith, is, lt)

pub returns : goal.returns
returns c =
    let x = c.self.inside in
    let P : Parts → Type 0 = λ p. (t : Tree) (code : Code) (s : State) → Fit t s → ShowsHeld t.classes code (machine_in p) s → IsOwned p in
    subst P c.self.view_is (λ t code s fit shown.
    owned-shown t code s (record { heap = x.heap; frames = x.frames; words = x.stack.items; at = x.at; printed = x.printed }) fit shown
    c.is_forest.ensures.serials c.is_forest.ensures.forest c.self.invariant.0 (few c))
