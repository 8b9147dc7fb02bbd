use Rattle.rg_lower.proofs.Class.{callee-tree}
use Rattle.rg_lower.proofs.calls.callee.Goals as goal

pub returns-else-class-class_count : goal.returns-else-class-class_count
returns-else-class-class_count c =
    let t = c.args.book.now.program in
    rw c.in-Ref.is (callee-tree t c.in-Ref.class c.args.name c.method.result c.method.ensures.method)
