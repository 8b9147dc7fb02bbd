use Rattle.std.proofs.Common.{drop}
use Rattle.rg_lower.proofs.Codes.{FollowedTo}
use Rattle.rg_lower.proofs.paths.write_fields.Given as goal

abbrev pub invariant-loop-name : goal.invariant-loop-name
invariant-loop-name l = FollowedTo l.book.program l.fn.code l.fn.ty l.fields l.code l.here (drop l.name-index l.fields)
