use Rattle.rg_frames.proofs.Nils.{one-nil, two-nil, three-nil}
use Rattle.rg_frames.proofs.frames.make_nil.Goals as goal

pub returns-then-many-lt2 : goal.returns-then-many-lt2
returns-then-many-lt2 c = one-nil c.args.part.now c.requires c.if-many-lt2.true

pub returns-then-many-lt3 : goal.returns-then-many-lt3
returns-then-many-lt3 c = two-nil c.args.part.now c.if-many-lt2.false c.if-many-lt3.true

pub returns : goal.returns
returns c = three-nil c.args.part.now c.if-many-lt3.false c.if-many-gt3.false
