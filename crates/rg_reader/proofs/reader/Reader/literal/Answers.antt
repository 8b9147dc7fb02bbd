use Rattle.std.proofs.Common.{◌∙◌, ap}
use Rattle.rg_tree.specs.Phrases as p
use Rattle.rg_tree.specs.Table.{row}
use Rattle.rg_reader.proofs.Tokens.{exit}
use Rattle.rg_reader.proofs.Halting.{halts-here, halts-row}
use Rattle.rg_reader.proofs.ExprRows.{literal-found}
use Rattle.rg_tree.specs.Rows.Tables.{at_first}
use Rattle.rg_tree.proofs.ByRows.{literal_of-row as literal-row}
use Rattle.rg_reader.proofs.reader.Reader.literal.Goals as goal

pub returns-in_err-take-clause-fault : goal.returns-in_err-take-clause-fault
returns-in_err-take-clause-fault c = exit _ c.from_residual.ensures.1 (halts-row _ _ (ap (row p.Primary) c.requires.next ∙ literal-row _ _
    (c.requires.literal at_first)) (halts-here _ c.in_err-take.ensures.fault))

pub returns-clause-ok : goal.returns-clause-ok
returns-clause-ok c = literal-found _ _ (c.requires.literal _) c.in_ok-take.ensures.ok c.in_ok-number.ensures.kept c.in_ok-number.ensures.means

pub add_expr-requires : goal.add_expr-requires
add_expr-requires c = c.requires.within _ _
