-- A state of the program stands on the machine before and behind each step that goes on.
use Rattle.std.proofs.Common.{◌≡◌, true, sym, ap, subst, ◌∙◌}
use Rattle.rg_tree.specs.Rows.Tables.{Tables}
use Rattle.rg_tree.specs.Rows.RowTrees.{program_of}
use Rattle.rg_rules.specs.Acceptance.{Accepted}
use Rattle.rg_trail.specs.Goes.{goes_on}
use Rattle.rg_trail.proofs.Stand.{has-begun, is-running, stands-on}
use Rattle.rg_trail.proofs.telling.tell_run.Goals as goal

pub steps-init : goal.steps-init
steps-init g c =
    let P : Tables → Type 0 = λ q. Accepted (program_of q) in
    let accepted : P c.args.accepted.now.program =
    subst P c.program.ensures.program c.program.ensures.accepted in
    record {
      follows = c.requires.follows;
      stands = has-begun (program_of c.args.accepted.now.program) c.args.code.now _ _ _ _ _ _ accepted c.requires.lowers
          (c.main_manager-manager.ensures ∙ ap (λ (q : Tables). q.manager) c.program.ensures.program) c.in-Ok-begin.ensures.begun _ _;
    }

pub step-outcome-requires-clause-runs : goal.step-outcome-requires-clause-runs
step-outcome-requires-clause-runs g c = is-running _ _ _ _ _ _ _ c.steps.invariant.follows c.steps.invariant.stands

pub steps-preserved : goal.steps-preserved
steps-preserved g c =
    let on : goes_on c.step-outcome.result ≡ true = sym c.goes_on-on.ensures ∙ c.if-not-on.false in
    record {
      follows = c.step-outcome.ensures.follows;
      stands = stands-on on c.steps.invariant.stands c.step-outcome.ensures.step;
    }
