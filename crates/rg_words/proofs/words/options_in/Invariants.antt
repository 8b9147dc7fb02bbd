use Rattle.std.proofs.Common.{◌≡◌, length}
use Rattle.rg_words.specs.Commands.{texts, no_options, options_in}
use Rattle.rg_words.proofs.words.options_in.Given as goal

abbrev pub invariant-loop-left : goal.invariant-loop-left
invariant-loop-left l = options_in (texts l.left) l.so_far ≡ options_in (texts l.words) no_options

abbrev pub decreases-loop-left : goal.decreases-loop-left
decreases-loop-left l = length l.left
