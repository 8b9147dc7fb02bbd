use Rattle.std.proofs.Common.{◌∷◌, ◌+◌, length, drop, sym, ap, ◌∙◌}
use Rattle.std.proofs.lemmas.List.{drop_more}
use Rattle.std.proofs.lemmas.List.Elements.{All-from_recursion}
use Rattle.rg_spell.specs.Spelling.{four, head_bytes, FitsHead}
use Rattle.rg_spell.proofs.Writers.{on_err, in_turn}
use Rattle.rg_spell.proofs.writing.write_heads.Goals as goal

pub write_head-requires : goal.write_head-requires
write_head-requires c = rw c.head-item.is (All-from_recursion FitsHead c.args.heads.now c.requires.1 c.loop-head.head-index _ c.loop-head-test.true)

pub returns-in_err-write_head-clause-part : goal.returns-in_err-write_head-clause-part
returns-in_err-write_head-clause-part c =
    let all = c.args.heads.now in
    let i = c.loop-head.head-index in
    let next = drop_more all i c.head-item.result c.loop-head-test.true ∙ ap (λ x. x ∷ drop (i + 1) all) (sym c.head-item.is) in
    on_err _ (in_turn head_bytes all i c.head-item.result (four (length all)) _ _ _ next c.loop-head.invariant c.in_err-write_head.ensures.part)
