use Rattle.std.proofs.Common.{◌≡◌, ◌+◌, ◌≤◌, length}
use Rattle.rg_tree.specs.Rows.RowTrees.{classes_of}
use Rattle.rg_plan.specs.Pieces.{pieces}
use Rattle.rg_plan.specs.Plans.{no_plan}
use Rattle.rg_plan.specs.Rules.{plan_from}
use Rattle.rg_plan.proofs.reading.read_plan.Given as goal

abbrev pub invariant-loop-text : goal.invariant-loop-text
invariant-loop-text l = record {
  same : plan_from (classes_of l.book.program) l.line l.plan l.lines ≡ plan_from (classes_of l.book.program) 1 no_plan (pieces 10 l.bytes);
  line : l.line + length l.lines ≤ length l.bytes + 2;
}

abbrev pub decreases-loop-text : goal.decreases-loop-text
decreases-loop-text l = length l.lines
