use Rattle.std.proofs.Common.{map, drop}
use Rattle.rg_code.specs.Inner.Headings.{shown}
use Rattle.rg_code.proofs.HeadingReads.{lines-next}
use Rattle.rg_code.proofs.whole.write_lines.Goals as goal

pub loop-at-preserved : goal.loop-at-preserved
loop-at-preserved c =
    lines-next (map shown (drop c.loop-at.next c.args.all.now)) _ c.loop-at.at c.args.code.now.ops c.get.result c.loop-at.out
    c.write_heading.new.out _ _ c.get.ensures c.in_ok-next.ensures.behind c.in_ok-next.ensures.wrote c.in_ok-write_line.ensures c.loop-at.invariant
