use Rattle.std.proofs.Common.{◌+◌, ◌∙◌, slice_index_or, slice_set, ap, arith}
use Rattle.rg_base.specs.declared.value.Word.TheVariants.{Nil}
use Rattle.rg_frames.proofs.Taken.{copied}
use Rattle.rg_frames.proofs.frames.copy.Goals as goal

pub copy-preserved : goal.copy-preserved
copy-preserved c = (
  omega (arith, c.copy-test.true),
  ap (λ ys. slice_set ys (c.args.at + c.copy.k) (slice_index_or c.args.words.now c.copy.k Nil)) c.copy.invariant.1
      ∙ copied c.args.all.now.items c.args.words.now c.args.at c.copy.k c.requires c.copy-test.true,
  c.copy.invariant.2,
)
