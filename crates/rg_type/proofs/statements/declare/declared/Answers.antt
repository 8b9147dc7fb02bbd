use Rattle.rg_tree.specs.Rows.RowTrees.{right_of}
use Rattle.rg_type.proofs.BlockSteps.{right-room}
use Rattle.rg_type.proofs.statements.declare.declared.Goals as goal

pub returns-clause-room : goal.returns-clause-room
returns-clause-room c =
    right-room c.args.book.now.program c.args.env.now c.right_side.new.env _
    (right_of c.args.book.now.program c.args.right) _ c.in_ok-right_side.ensures.judged
