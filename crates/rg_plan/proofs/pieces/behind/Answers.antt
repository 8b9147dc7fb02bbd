use Rattle.std.proofs.Common.{Some, sym, ap, ◌∙◌, ◌+◌, arith}
use Rattle.std.proofs.lemmas.List.{take_rest}
use Rattle.rg_plan.proofs.PieceSteps.{behind-some, behind-none}
use Rattle.rg_plan.proofs.pieces.behind.Goals as goal

pub returns-then-at-bytes : goal.returns-then-at-bytes
returns-then-at-bytes c =
    ap Some (take_rest c.args.bytes.now (c.args.at + 1))
    ∙ sym (behind-some c.args.at c.args.bytes.now (omega (arith, c.if-at-bytes.true)))

pub returns-else-at-bytes : goal.returns-else-at-bytes
returns-else-at-bytes c = sym (behind-none c.args.at c.args.bytes.now (omega (arith, c.if-at-bytes.false)))
