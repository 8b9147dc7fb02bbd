use Rattle.std.proofs.Common.{ℕ, ◌<◌, List, refl, ◌∙◌, map, length, arith}
use Rattle.rg_tree.specs.Canonical.{expr_text, arg_texts}
use Rattle.rg_tree.specs.Rows.RowTrees.{expr_at}
use Rattle.rg_print.proofs.Joined.{joined_behind-first, joined_behind-further}
use Rattle.rg_print.proofs.calls.write_args.Goals as goal
use Rattle.rg_print.proofs.calls.write_args.Goals.{then-i-gt0+in_ok-extend-2, else-i-gt0}

pub loop-i-preserved : goal.loop-i-preserved
loop-i-preserved c =
    let t = c.args.program.now in
    let texts = λ (ks : List ℕ). arg_texts (map (expr_at t) ks) in
    let one = λ (k : ℕ). expr_text (expr_at t k) in
    let l : c.loop-i.i < length c.order-arg-items.result.now = omega arith in
    let new = c.in_ok-write_expr.ensures in
    elim c.if-i-gt0.branch [
      | then-i-gt0+in_ok-extend-2 w ↦ joined_behind-further texts one (λ k ks. refl) c.loop-i.i _ c.loop-i.out _ c.if-i-gt0.out _ l
          w.if-i-gt0.true c.loop-i.invariant (w.out-is ∙ w.in_ok-extend-2.ensures.ok) new
      | else-i-gt0 w ↦ joined_behind-first texts one (λ k ks. refl) c.loop-i.i _ c.loop-i.out _ c.if-i-gt0.out _ l
          (omega arith) c.loop-i.invariant w.out-is new
    ]
