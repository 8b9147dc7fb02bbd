use Rattle.rg_make.proofs.Adding.{adds-block}
use Rattle.rg_make.proofs.builder.add_block.Goals as goal

pub returns : goal.returns
returns c =
    let e = c.in_ok-span.ensures in
    adds-block e.keeps e.program e.span
