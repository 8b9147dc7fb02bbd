use Rattle.std.proofs.Common.{◌≡◌, ◌≤◌, ◌+◌, ◌++◌, replicate, vec_len, vec_capacity}
use Rattle.rg_base.specs.declared.value.Word.TheVariants.{Nil}
use Rattle.rg_frames.proofs.frames.fill.Given as goal

abbrev pub invariant-fill : goal.invariant-fill
invariant-fill l = (l.all.items ++ replicate l.left Nil ≡ l.fn.all.items ++ replicate l.fn.more Nil)
    × (vec_capacity l.all ≡ vec_capacity l.fn.all) × (vec_len l.all + l.left ≤ vec_capacity l.all)

abbrev pub decreases-fill : goal.decreases-fill
decreases-fill l = l.left
