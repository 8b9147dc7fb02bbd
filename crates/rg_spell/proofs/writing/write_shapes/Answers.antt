use Rattle.std.proofs.Common.{◌∷◌, ◌+◌, length, drop, sym, ap, ◌∙◌}
use Rattle.std.proofs.lemmas.List.{drop_more}
use Rattle.std.proofs.lemmas.List.Elements.{All-from_recursion}
use Rattle.rg_spell.specs.Spelling.{four, shape_bytes, FitsShape}
use Rattle.rg_spell.proofs.Writers.{on_err, in_turn}
use Rattle.rg_spell.proofs.writing.write_shapes.Goals as goal

pub write_shape-requires : goal.write_shape-requires
write_shape-requires c = rw c.shape-item.is (All-from_recursion FitsShape c.args.shapes.now c.requires.1 c.loop-shape.shape-index _
    c.loop-shape-test.true)

pub returns-in_err-write_shape-clause-part : goal.returns-in_err-write_shape-clause-part
returns-in_err-write_shape-clause-part c =
    let all = c.args.shapes.now in
    let i = c.loop-shape.shape-index in
    let next = drop_more all i c.shape-item.result c.loop-shape-test.true ∙ ap (λ x. x ∷ drop (i + 1) all) (sym c.shape-item.is) in
    on_err _ (in_turn shape_bytes all i c.shape-item.result (four (length all)) _ _ _ next c.loop-shape.invariant c.in_err-write_shape.ensures.part)
