use Rattle.std.proofs.Common.{◌≡◌, ◌<◌, [], All, length}
use Rattle.rg_plan.specs.Lines.{cown_numbers}
use Rattle.rg_plan.proofs.lines.cown_numbers.Given as goal

abbrev pub invariant-loop-word : goal.invariant-loop-word
invariant-loop-word l = record {
  same : cown_numbers l.cowns l.numbers.items l.words ≡ cown_numbers l.cowns [] l.fn.words;
  below : All (λ n. n < l.cowns) l.numbers.items;
}

abbrev pub decreases-loop-word : goal.decreases-loop-word
decreases-loop-word l = length l.words
