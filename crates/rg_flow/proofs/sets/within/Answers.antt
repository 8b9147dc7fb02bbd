use Rattle.std.proofs.Common.{arith, rules}
use Rattle.rg_flow.proofs.Set.{not_within, within_by_words}
use Rattle.rg_flow.proofs.sets.within.Goals as goal

pub returns-then-a-b : goal.returns-then-a-b
returns-then-a-b c = not_within c.args.a.now c.args.b.now 0 (omega arith) (search rules) (search rules) c.if-a-b.true

pub returns-then-a-b-2 : goal.returns-then-a-b-2
returns-then-a-b-2 c = not_within c.args.a.now c.args.b.now 1 (omega arith) (search rules) (search rules) c.if-a-b-2.true

pub returns-then-a-b-3 : goal.returns-then-a-b-3
returns-then-a-b-3 c = not_within c.args.a.now c.args.b.now 2 (omega arith) (search rules) (search rules) c.if-a-b-3.true

pub returns : goal.returns
returns c =
    within_by_words c.args.a.now c.args.b.now (search rules) (search rules) (search rules) (search rules) (search rules) (search rules)
    (search rules) (search rules) (search rules) c.if-a-b.false c.if-a-b-2.false c.if-a-b-3.false
