-- Between two steps: some state of the program stands on the machine.
use Rattle.rg_tree.specs.Rows.RowTrees.{program_of}
use Rattle.rg_input.specs.Numbers.{Follows, OnInput}
use Rattle.rg_machine.specs.Parts.{machine_in}
use Rattle.rg_trail.proofs.Stand.{StandsAt}
use Rattle.rg_trail.proofs.telling.tell_run.Given as goal

abbrev pub invariant-steps : goal.invariant-steps
invariant-steps g l = record {
  follows : Follows l.input (g.S.Source.left l.source);
  stands : OnInput l.fn.input l.input (g.S.Source.left l.fn.source) (g.S.Source.left l.source)
      (StandsAt (program_of l.fn.accepted.program) l.code (machine_in l.stepper.parts));
}
