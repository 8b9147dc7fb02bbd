-- An instruction is told by its number and its operands.
use Rattle.std.proofs.Common.{◌≡◌, Bool, true, false, Some, refl, sym, ap, ◌∙◌}
use Rattle.rg_code.specs.declared.op.Op.{Op}
use Rattle.rg_code.specs.declared.op.Op.TheVariants as i
use Rattle.rg_code.specs.Operands.{number_of, operands_of}
use Rattle.rg_spell.specs.Makings.{of_parts}
use Rattle.rg_compare.specs.Telling.{TellsSame}
use Rattle.rg_compare.proofs.Answers.{some_is}

of_parts-same : (o : Op) → of_parts (number_of o) (operands_of o) ≡ Some o
of_parts-same (i.Mark n) = refl
of_parts-same _ = refl

-- of two instructions with one number, the operands tell whether they are the same
pub op-told : (b : Bool) (o p : Op) → number_of o ≡ number_of p → TellsSame b (operands_of o) (operands_of p) → TellsSame b o p
op-told true o p e f =
    some_is o p (sym (of_parts-same o) ∙ ap (λ n. of_parts n (operands_of o)) e ∙ ap (λ ps. of_parts (number_of p) ps) f ∙ of_parts-same p)
op-told false o p e differ = λ g. differ (ap operands_of g)
