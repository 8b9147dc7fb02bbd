use Rattle.std.proofs.Common.{length}
use Rattle.rg_spell.specs.Spelling.{eight}
use Rattle.rg_image.specs.ImageText.{value_bytes, FitsValue}
use Rattle.rg_image.proofs.Loops.{text-next}
use Rattle.rg_image.proofs.Ranges.{ranges-next}
use Rattle.rg_image.proofs.writing.write_values.Goals as goal

pub loop-k-preserved : goal.loop-k-preserved
loop-k-preserved c =
    let values = c.args.values.now in
    let k = c.loop-k.k in
    let there = c.at-value.ensures in
    record {
      text = text-next value_bytes values k c.at-value.result (eight (length values)) _ _ _ there c.loop-k.invariant.text
          c.in_ok-write_value.ensures.text;
      ranges = λ rest. c.loop-k.invariant.ranges
          (ranges-next FitsValue values k c.at-value.result there c.in_ok-write_value.ensures.ranges rest);
    }
