use Rattle.std.proofs.Common.{◌≡◌, ℕ, ◌<◌, List, refl, ◌∙◌, ◌++◌, get_or, codes, map, length, arith}
use Rattle.rg_tree.specs.Canonical.{param_texts, ty_text}
use Rattle.rg_tree.specs.Rows.RowTrees.{param_at}
use Rattle.rg_print.proofs.Joined.{joined_behind-first, joined_behind-further}
use Rattle.rg_print.proofs.classes.write_params.Goals as goal
use Rattle.rg_print.proofs.classes.write_params.Goals.{then-i-gt0+in_ok-extend-2, else-i-gt0}

pub loop-i-preserved : goal.loop-i-preserved
loop-i-preserved c =
    let t = c.args.program.now in
    let texts = λ (ks : List ℕ). param_texts (map (param_at t) ks) in
    let one = λ (k : ℕ). (param_at t k).name ++ codes ": " ++ ty_text (param_at t k).ty in
    let l : c.loop-i.i < length c.order-param-items.result.now = omega arith in
    let new : c.write_typed.new.out ≡ c.if-i-gt0.out ++ one (get_or c.order-param-items.result.now c.loop-i.i 0) =
    rw c.param-row.ensures.tree c.in_ok-write_typed.ensures in
    elim c.if-i-gt0.branch [
      | then-i-gt0+in_ok-extend-2 w ↦ joined_behind-further texts one (λ k ks. refl) c.loop-i.i _ c.loop-i.out _ c.if-i-gt0.out _ l
          w.if-i-gt0.true c.loop-i.invariant (w.out-is ∙ w.in_ok-extend-2.ensures.ok) new
      | else-i-gt0 w ↦ joined_behind-first texts one (λ k ks. refl) c.loop-i.i _ c.loop-i.out _ c.if-i-gt0.out _ l
          (omega arith) c.loop-i.invariant w.out-is new
    ]
