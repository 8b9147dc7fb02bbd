use Rattle.std.proofs.Common.{drop}
use Rattle.rg_expressions.proofs.PathSteps.{WalkedTo}
use Rattle.rg_expressions.proofs.paths.walk_fields.Given as goal

abbrev pub invariant-loop-field : goal.invariant-loop-field
invariant-loop-field l = WalkedTo l.book.program l.fn.ty l.fields l.ty (drop l.field-index l.fields)
