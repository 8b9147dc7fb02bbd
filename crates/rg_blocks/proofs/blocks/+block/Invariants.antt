use Rattle.std.proofs.Common.{◌+◌, ◌*◌, ◌-◌, length}
use Rattle.rg_verify_expressions.specs.Blocks.{block_told}
use Rattle.rg_raise.specs.Telling.{given}
use Rattle.rg_blocks.proofs.Going.{Looping}
use Rattle.rg_blocks.proofs.blocks.+block.Given as goal

abbrev pub decreases-otherwise_told : goal.decreases-otherwise_told
decreases-otherwise_told l = 16 * l.depth + 3

abbrev pub decreases-jumped : goal.decreases-jumped
decreases-jumped l = 16 * l.depth + 4

abbrev pub decreases-tested : goal.decreases-tested
decreases-tested l = 16 * l.depth + 5

abbrev pub decreases-close_by : goal.decreases-close_by
decreases-close_by l = 16 * l.depth + 6

abbrev pub decreases-window : goal.decreases-window
decreases-window l = 16 * l.depth + 3

abbrev pub decreases-expr_by : goal.decreases-expr_by
decreases-expr_by l = 16 * l.depth + 8

abbrev pub decreases-whole : goal.decreases-whole
decreases-whole l = 16 * l.depth + 7

abbrev pub decreases-field_entered : goal.decreases-field_entered
decreases-field_entered l = 16 * l.depth + 4

abbrev pub decreases-slot_entered : goal.decreases-slot_entered
decreases-slot_entered l = 16 * l.depth + 4

abbrev pub decreases-open_by : goal.decreases-open_by
decreases-open_by l = 16 * l.depth + 7

abbrev pub decreases-kind_told : goal.decreases-kind_told
decreases-kind_told l = 16 * l.depth + 10

abbrev pub decreases-kind_by : goal.decreases-kind_by
decreases-kind_by l = 16 * l.depth + 9

abbrev pub decreases-raise_inner : goal.decreases-raise_inner
decreases-raise_inner l = 16 * l.depth

abbrev pub decreases-raise_statements : goal.decreases-raise_statements
decreases-raise_statements l = 16 * l.depth + 11

abbrev pub invariant-raise_statements-loop-line : goal.invariant-raise_statements-loop-line
invariant-raise_statements-loop-line l =
    let g = given l.source in
    Looping l.source.body.in_method g (block_told g l.depth) l.fn.program l.program l.fn.types.items l.types.items l.numbers.items l.at l.end

abbrev pub decreases-raise_statements-loop-line : goal.decreases-raise_statements-loop-line
decreases-raise_statements-loop-line l = length l.source.parts.now.code.ops - l.end
