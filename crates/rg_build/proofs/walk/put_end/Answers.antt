use Rattle.rg_build.proofs.walk.put_end.Goals as goal

pub returns : goal.returns
returns c t = rw c.if-not-marked.false (c.in_ok-put_types.ensures t)
