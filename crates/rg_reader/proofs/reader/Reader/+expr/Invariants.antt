use Rattle.std.proofs.Common.{◌+◌, ◌*◌, ◌<◌, length}
use Rattle.rg_reader.proofs.ExprRows.{Goes}
use Rattle.rg_reader.proofs.Ranks.{chain_rank, operand_rank}
use Rattle.rg_reader.proofs.reader.Reader.+expr.Given as goal

abbrev pub decreases-chain : goal.decreases-chain
decreases-chain l = 16 * length l.self.now.rest + chain_rank l.level

abbrev pub decreases-operand : goal.decreases-operand
decreases-operand l = 16 * length l.self.now.rest + operand_rank l.level

abbrev pub decreases-parens : goal.decreases-parens
decreases-parens l = 16 * length l.self.now.rest + 0

abbrev pub decreases-path_value : goal.decreases-path_value
decreases-path_value l = 16 * length l.self.now.rest + 0

abbrev pub decreases-behind_path : goal.decreases-behind_path
decreases-behind_path l = 16 * length l.self.now.rest + 1

abbrev pub decreases-some_index : goal.decreases-some_index
decreases-some_index l = 16 * length l.self.now.rest + 0

abbrev pub decreases-primary : goal.decreases-primary
decreases-primary l = 16 * length l.self.now.rest + 1

abbrev pub decreases-minus_row : goal.decreases-minus_row
decreases-minus_row l = 16 * length l.self.now.rest + 2

abbrev pub decreases-unary : goal.decreases-unary
decreases-unary l = 16 * length l.self.now.rest + 3

abbrev pub decreases-comparison : goal.decreases-comparison
decreases-comparison l = 16 * length l.self.now.rest + 9

abbrev pub decreases-not_row : goal.decreases-not_row
decreases-not_row l = 16 * length l.self.now.rest + 10

abbrev pub decreases-negation : goal.decreases-negation
decreases-negation l = 16 * length l.self.now.rest + 11

abbrev pub invariant-chain-loop-kind : goal.invariant-chain-loop-kind
invariant-chain-loop-kind l = record { read : Goes l.level l.fn.self l.left l.self; shorter : length l.self.rest < length l.fn.self.rest }

abbrev pub decreases-chain-loop-kind : goal.decreases-chain-loop-kind
decreases-chain-loop-kind l = length l.self.rest
