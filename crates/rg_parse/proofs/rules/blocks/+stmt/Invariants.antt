use Rattle.std.proofs.Common.{◌+◌, ◌*◌, ◌≤◌, length}
use Rattle.rg_parse.proofs.StmtRows.{AlongStmts}
use Rattle.rg_parse.proofs.rules.blocks.+stmt.Given as goal

abbrev pub decreases-block : goal.decreases-block
decreases-block l = 8 * length l.reader.now.rest + 0

abbrev pub decreases-else_row : goal.decreases-else_row
decreases-else_row l = 8 * length l.reader.now.rest + 1

abbrev pub decreases-behind_if : goal.decreases-behind_if
decreases-behind_if l = 8 * length l.reader.now.rest + 2

abbrev pub decreases-if_row : goal.decreases-if_row
decreases-if_row l = 8 * length l.reader.now.rest + 3

abbrev pub decreases-while_row : goal.decreases-while_row
decreases-while_row l = 8 * length l.reader.now.rest + 3

abbrev pub decreases-enter_row : goal.decreases-enter_row
decreases-enter_row l = 8 * length l.reader.now.rest + 3

abbrev pub decreases-kind : goal.decreases-kind
decreases-kind l = 8 * length l.reader.now.rest + 4

abbrev pub decreases-stmt : goal.decreases-stmt
decreases-stmt l = 8 * length l.reader.now.rest + 5

abbrev pub decreases-stmts : goal.decreases-stmts
decreases-stmts l = 8 * length l.reader.now.rest + 6

abbrev pub invariant-stmts-loop-reader : goal.invariant-stmts-loop-reader
invariant-stmts-loop-reader l = record {
  read : AlongStmts l.fn.reader l.numbers.items l.reader;
  shorter : length l.reader.rest ≤ length l.fn.reader.rest;
}

abbrev pub decreases-stmts-loop-reader : goal.decreases-stmts-loop-reader
decreases-stmts-loop-reader l = length l.reader.rest
