use Rattle.std.proofs.lemmas.List.{drop_more}
use Rattle.rg_spell.specs.Spelling.{four, ty_bytes}
use Rattle.rg_spell.proofs.Writers.{on_err, in_turn}
use Rattle.std.proofs.Common.{length}
use Rattle.rg_spell.proofs.writing.write_types.Goals as goal

pub returns-in_err-write_type-clause-part : goal.returns-in_err-write_type-clause-part
returns-in_err-write_type-clause-part c =
    let types = c.args.types.now in
    on_err _ (in_turn ty_bytes types c.loop-ty.ty-index _ (four (length types)) _ _ _
    (drop_more types c.loop-ty.ty-index _ c.loop-ty-test.true) c.loop-ty.invariant c.in_err-write_type.ensures.part)
