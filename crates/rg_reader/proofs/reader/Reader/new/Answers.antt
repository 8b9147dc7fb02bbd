use Rattle.std.proofs.Common.{refl, ap, arith}
use Rattle.rg_reader.proofs.reader.Reader.new.Goals as goal

pub invariant_of-result : goal.invariant_of-result
invariant_of-result c = (c.requires, record { params = omega arith; names = omega arith })

pub returns-clause-start : goal.returns-clause-start
returns-clause-start c = rw c.keyed.ensures.tables refl

pub returns-clause-classes : goal.returns-clause-classes
returns-clause-classes c = ap (λ t. t.classes) c.keyed.ensures.program
