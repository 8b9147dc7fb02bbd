use Rattle.std.proofs.Common.{List, sym, subst, ◌∙◌}
use Rattle.rg_code.specs.declared.operands.Operand.{Operand}
use Rattle.rg_code.specs.Operands.{operands_of, listed}
use Rattle.rg_compare.specs.Telling.{TellsSame}
use Rattle.rg_compare.proofs.Instructions.{op-told}
use Rattle.rg_compare.proofs.operands.same_op.Goals as goal

pub returns : goal.returns
returns c =
    let told = c.same_operands.result in
    let first = subst (λ (ps : List Operand). TellsSame told ps (listed c.operands_of-2.result)) c.operands_of.ensures c.same_operands.ensures in
    op-told told c.args.one c.args.other (sym c.number_of.ensures ∙ c.if-number_of.false ∙ c.number_of-2.ensures)
    (subst (λ (ps : List Operand). TellsSame told (operands_of c.args.one) ps) c.operands_of-2.ensures first)
