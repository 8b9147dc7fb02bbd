use Rattle.rg_tree.proofs.Adding.{extends-by}
use Rattle.rg_blocks.proofs.Put.{block-put}
use Rattle.rg_blocks.proofs.parts.put_block.Goals as goal

pub returns-clause-adds : goal.returns-clause-adds
returns-clause-adds c =
    let e = c.in_ok-span.ensures in
    block-put e.keeps e.program e.span

pub returns-clause-grows : goal.returns-clause-grows
returns-clause-grows c =
    let e = c.in_ok-span.ensures in
    extends-by e.keeps e.program
