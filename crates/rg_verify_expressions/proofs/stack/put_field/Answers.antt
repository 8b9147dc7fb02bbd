use Rattle.rg_tree.proofs.Adding.{extends-trans}
use Rattle.rg_verify_expressions.proofs.Path.{taken-pile, field-tree, field-put}
use Rattle.std.proofs.lemmas.Result.{err_from_is_err_and}
use Rattle.std.proofs.Common.{[], ◌∷◌, ◌++◌}
use Rattle.rg_verify_expressions.specs.Raised.{path}
use Rattle.rg_verify_expressions.proofs.Refused.{path-refused}
use Rattle.rg_verify_expressions.proofs.stack.put_field.Goals as goal

pub returns-in_err-slot-clause-makes : goal.returns-in_err-slot-clause-makes
returns-in_err-slot-clause-makes c items p =
    let t = c.args.program.now in
    let m = c.args.body.in_method in
    let q = err_from_is_err_and c.from_residual.result c.from_residual.ensures.1 in
    rw (q.1, q.2) (path-refused t m c.take_path.new.stack.items items c.in_err-slot.field-0.0 (λ s ks. path s (ks ++ c.args.index ∷ []))
    c.args.end (c.in_err-slot.ensures t m items p))

pub settle-requires-clause-pile : goal.settle-requires-clause-pile
settle-requires-clause-pile c =
    let t = c.args.program.now in
    let m = c.args.body.in_method in
    let (items, p) = c.requires in
    taken-pile t c.add_name.new.program m c.take_path.new.stack.items items c.in_ok-slot.slot c.in_ok-slot.fields
    (c.in_ok-slot.ensures t m items p) c.in-Ok.ensures.adds.extends

pub settle-requires-clause-tree : goal.settle-requires-clause-tree
settle-requires-clause-tree c =
    let t = c.args.program.now in
    let m = c.args.body.in_method in
    let (items, p) = c.requires in
    field-tree t c.add_name.new.program m c.take_path.new.stack.items items c.in_ok-slot.slot c.in_ok-slot.fields
    (c.in_ok-slot.ensures t m items p) c.args.index c.push.new.self c.in-Ok.ensures.adds c.in-Ok-push.ensures.items

pub returns-clause-makes : goal.returns-clause-makes
returns-clause-makes c items p =
    let t = c.args.program.now in
    let m = c.args.body.in_method in
    field-put t c.add_name.new.program m c.take_path.new.stack.items items c.in_ok-slot.slot c.in_ok-slot.fields
    (c.in_ok-slot.ensures t m items p) c.args.index c.push.new.self c.in-Ok.ensures.adds c.in-Ok-push.ensures.items
    c.settle.new.program c.settle.new.stack.items c.args.end c.settle.result c.settle.ensures.makes

pub returns-clause-grows : goal.returns-clause-grows
returns-clause-grows c = extends-trans c.in-Ok.ensures.grows c.settle.ensures.grows
