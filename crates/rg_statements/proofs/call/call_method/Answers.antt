use Rattle.std.proofs.Common.{◌≡◌, refl, subst, ◌∙◌, ap, rules}
use Rattle.std.proofs.Math.ListN.{length-map}
use Rattle.rg_tree.specs.Rows.RowTrees.{classes_of, method_of}
use Rattle.rg_rules.specs.RightSides.{called_frame}
use Rattle.rg_tree.specs.Rows.Tables.{numbers_in}
use Rattle.rg_statements.specs.Inner.Calls.{Enters}
use Rattle.rg_values.specs.Kept.{Kept, kept_of, kept_frame, frame_of, target_of}
use Rattle.rg_rules.specs.Steps.{stepped}
use Rattle.rg_statements.proofs.Statements.Call.{may-enter, called-is}
use Rattle.rg_statements.proofs.call.call_method.Goals as goal

pub returns-clause-called : goal.returns-clause-called
returns-clause-called c input rest top =
    let t = c.args.book.now.program in
    let m = c.args.m.now in
    let same : kept_of (record m { below = c.reserve.new.self; items = c.reserve-2.new.self }) ≡ kept_of m =
    rw (c.reserve.ensures.items, c.reserve-2.ensures.items) refl in
    let Enters-from : Kept → Type 0 = λ k.
    Enters t k (kept_of c.enter_method.new.m) c.args.at.number (numbers_in t c.args.call.args) c.args.callee.method in
    ap (stepped c.args.at.line)
    (called-is t (kept_of m) (kept_of c.enter_method.new.m) input rest c.args.at.number c.args.callee.to c.args.call c.args.callee.found
    c.args.callee.method
    c.in_ok-args.args.items (search rules)
    (may-enter _ _ c.is_deep.result (length-map m.below.items kept_frame) c.is_deep.ensures c.if-is_deep.false)
    (ap (λ f. frame_of t (kept_frame f)) c.enter_method.ensures.frame ∙ c.in_ok-frame.ensures.frame
    ∙ ap (called_frame (classes_of t) (target_of t c.args.callee.to) (method_of t c.args.callee.method) c.args.callee.found.class
    c.args.callee.found.value)
    c.deref-3.ensures.value)
    (subst Enters-from same c.enter_method.ensures.enters) top)
