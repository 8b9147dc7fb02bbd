use Rattle.std.proofs.Common.{◌++◌, ◌∷◌, [], List, unwrap_or, length, slice_get, ◌∙◌, ap, arith}
use Rattle.std.proofs.lemmas.List.{length_push}
use Rattle.rg_base.specs.declared.value.Val.TheVariants.{Nil}
use Rattle.rg_tree.specs.Rows.RowTrees.{classes_of, param_at}
use Rattle.rg_rules.specs.State.{Local}
use Rattle.rg_values.specs.Shown.{locals_of}
use Rattle.rg_values.proofs.Statements.Bind.{bound-more, locals_of-push, AreNamed-push, local_of-param}
use Rattle.rg_values.proofs.frames.bind.Goals as goal

pub loop-i-preserved : goal.loop-i-preserved
loop-i-preserved c =
    let t = c.args.book.now.program in
    let front = locals_of t c.loop-i.locals.items in
    let add = c.push_reserved.ensures.items in
    let last : List Local → List Local = λ ls. front ++ ls in
    record {
      bound =
          bound-more (classes_of t) (param_at t) c.args.params.now c.args.values.now c.loop-i.i front
          (locals_of t c.push_reserved.new.self.items) (omega arith)
          (ap (locals_of t) add ∙ locals_of-push t c.loop-i.locals.items _
          ∙ ap (λ l. front ++ l ∷ [])
          (local_of-param t (classes_of t) c.param-param.result _ _ _ (unwrap_or (slice_get c.args.values.now c.loop-i.i) Nil)
          c.param-param.ensures.tree c.written_type.ensures c.value_at.ensures))
          ∙ c.loop-i.invariant.bound;
      named = rw add (AreNamed-push t c.loop-i.locals.items _ c.loop-i.invariant.named c.param-param.ensures.below.name);
      room = omega (arith, c.push_reserved.ensures.capacity, ap length add ∙ length_push c.loop-i.locals.items _);
    }
