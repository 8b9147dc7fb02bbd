-- The readers of expressions call each other without a token between in this order: the number falls.
use Rattle.std.proofs.Common.{ℕ}
use Rattle.rg_reader.specs.declared.reader.kinds.Level.{Level}
use Rattle.rg_reader.specs.declared.reader.kinds.Level.TheVariants as level

abbrev pub chain_rank : Level → ℕ
chain_rank level.Or = 15
chain_rank level.And = 13
chain_rank level.Sum = 8
chain_rank level.Product = 6

abbrev pub operand_rank : Level → ℕ
operand_rank level.Or = 14
operand_rank level.And = 12
operand_rank level.Sum = 7
operand_rank level.Product = 4
