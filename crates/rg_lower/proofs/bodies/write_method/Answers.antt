use Rattle.std.proofs.Common.{◌≡◌, ◌∙◌, refl, ap, suc, ℕ, List, [], map, length, None, arith}
use Rattle.std.proofs.lemmas.List.{length-map}
use Rattle.std.proofs.lemmas.Result.{on_ok_weaker}
use Rattle.rg_base.specs.declared.ty.Ty.TheVariants as ty
use Rattle.rg_tree.specs.Rows.RowTrees as rows
use Rattle.rg_tree.specs.Rows.Tables.{numbers_in}
use Rattle.rg_code.specs.Lowering.{Scope, with_slot, with_params, method_scope}
use Rattle.rg_lower.specs.Inner.Slots.{scope_of}
use Rattle.rg_lower.specs.Inner.Methods.{method_of}
use Rattle.rg_lower.proofs.BodySteps.{method-written, body-there}
use Rattle.rg_lower.proofs.bodies.write_method.Goals as goal

pub push_params-requires-clause-room : goal.push_params-requires-clause-room
push_params-requires-clause-room c =
    let t = c.args.book.now.program in
    let numbers = numbers_in t c.args.method.params in
    let one : length c.push.new.self ≡ 1 = rw (c.in_ok-push.ensures, c.new-slots.ensures) refl in
    let as_many : length c.order.result.now ≡ length numbers = ap length c.order.ensures in
    omega (arith, one, as_many, length-map numbers (rows.param_at t), c.requires.names)

pub write_block-requires-clause-room : goal.write_block-requires-clause-room
write_block-requires-clause-room c =
    let t = c.args.book.now.program in
    let numbers = numbers_in t c.args.method.params in
    let one : length c.push.new.self ≡ 1 = rw (c.in_ok-push.ensures, c.new-slots.ensures) refl in
    let as_many : length c.order.result.now ≡ length numbers = ap length c.order.ensures in
    omega (arith, one, as_many, c.in_ok-push_params.ensures.count, length-map numbers (rows.param_at t), c.requires.names)

pub slots_from-slots-requires : goal.slots_from-slots-requires
slots_from-slots-requires c =
    let t = c.args.book.now.program in
    body-there c.args.code.now c.write_block.new.code c.write_end.new.code _ _ c.len-at.result c.len-at.ensures c.in_ok-write_block.ensures.code
    (c.in_ok-write_end.ensures t)

pub returns : goal.returns
returns c =
    let t = c.args.book.now.program in
    let all = rows.classes_of t in
    let m = method_of t c.args.method in
    let numbers = numbers_in t c.args.method.params in
    let receiver : Scope = with_slot [] None (ty.Ref m.receiver c.args.class) in
    let opened : scope_of t c.push.new.self ≡ receiver = rw (c.in_ok-push.ensures, c.new-slots.ensures) refl in
    let scope : scope_of t c.push_params.new.slots ≡ method_scope all c.args.class m =
    c.in_ok-push_params.ensures.scope ∙ ap (λ (s : Scope). with_params all s (map (rows.param_at t) c.order.result.now)) opened
    ∙ ap (λ (ks : List ℕ). with_params all receiver (map (rows.param_at t) ks)) c.order.ensures in
    let one : length c.push.new.self ≡ 1 = rw (c.in_ok-push.ensures, c.new-slots.ensures) refl in
    let as_many : length c.order.result.now ≡ length numbers = ap length c.order.ensures in
    let given : c.next-given.result ≡ suc (length m.params) =
    omega (arith, c.next-given.ensures.is, c.in_ok-push_params.ensures.count, one, as_many, length-map numbers (rows.param_at t)) in
    on_ok_weaker _
    (λ n. method-written t c.args.class m c.push_params.new.slots c.args.code.now c.write_block.new.code c.write_end.new.code c.add_method.new.self
    c.len-at.result c.next-given.result c.slots_from-slots.result scope c.in_ok-write_block.ensures.code (c.in_ok-write_end.ensures t)
    c.len-at.ensures given c.slots_from-slots.ensures n)
    c.add_method.ensures
