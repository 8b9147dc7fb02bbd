use Rattle.std.proofs.Common.{sym, ◌∙◌, ap, List, ℕ}
use Rattle.rg_verify_expressions.specs.Blocks.{cleared}
use Rattle.rg_raise.specs.Telling.{given}
use Rattle.rg_raise.proofs.RightSides.{right-uncleared, right-value}
use Rattle.rg_raise.proofs.rights.value_at.Goals as goal

pub returns-in_default : goal.returns-in_default
returns-in_default c e tree spans =
    let clears = rw c.code.ensures at c.in_default.ensures in
    let end = c.args.code.end in
    let types = c.args.types.now.items in
    let same = ap (λ (ss : List ℕ). cleared c.args.source.now.parts.now.code.ops ss end) (spans types) in
    right-uncleared (given c.args.source.now) types e end (sym (clears ∙ same))

pub returns : goal.returns
returns c e tree spans =
    let clears = rw c.code.ensures at c.in-Some.ensures in
    let end = c.args.code.end in
    let types = c.args.types.now.items in
    let same = ap (λ (ss : List ℕ). cleared c.args.source.now.parts.now.code.ops ss end) (spans types) in
    right-value (given c.args.source.now) types e end c.args.program.now c.args.source.now.body.in_method c.args.row c.in-Some.end
    (sym (clears ∙ same)) tree
