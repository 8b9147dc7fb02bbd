use Rattle.std.proofs.Common.{◌≡◌, ◌-◌, ◌+◌, ◌≤◌, Bool, false, length}
use Rattle.rg_input.specs.Numbers.{Follows, OnInput}
use Rattle.rg_stack.specs.Machine.{Machine}
use Rattle.rg_step.specs.Inner.Refusals.{Stands}
use Rattle.rg_step.proofs.Walking.OneAsk.{AskedUpTo}
use Rattle.rg_step.proofs.Walking.Walks.{Along, SoFar}
use Rattle.rg_machine.specs.Parts.{machine_in}
use Rattle.rg_step.proofs.asks.walk_asking.Given as goal

abbrev pub invariant-loop-at : goal.invariant-loop-at
invariant-loop-at g l = record {
  so_far : OnInput l.fn.input l.input (g.S.Source.left l.fn.source) (g.S.Source.left l.source) (SoFar l.code l.from l.fn.p l.at l.p);
  along : Along l.code l.from l.fn.p l.at l.p;
  unasked : (start : Machine) → Stands l.code.ops start false l.from (machine_in l.fn.p) → (l.input ≡ l.fn.input) × (l.source ≡ l.fn.source);
  asked : (start : Machine) (asks : Bool) → Stands l.code.ops start asks l.from (machine_in l.fn.p)
      → AskedUpTo g.S.Source.replies l.code.ops l.at l.fn.input l.input l.fn.source l.source;
  follows : Follows l.input (g.S.Source.left l.source);
  no_fault : g.S.Source.faults l.source ≡ g.S.Source.faults l.fn.source;
  never_falls : g.S.Source.faults l.fn.source ≤ g.S.Source.faults l.source;
}

abbrev pub decreases-loop-at : goal.decreases-loop-at
decreases-loop-at g l = length l.code.ops + 1 - l.at
