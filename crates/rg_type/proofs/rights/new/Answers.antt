use Rattle.std.proofs.Common.{option_map}
use Rattle.rg_tree.specs.Rows.Tables.{name_at}
use Rattle.rg_tree.specs.Rows.RowTrees.{classes_of, expr_at}
use Rattle.rg_flow.specs.Scope.{env_of}
use Rattle.rg_flow.specs.States.{IsReadable}
use Rattle.rg_type.proofs.RightSteps.{TypedAs-new, OnOk-where}
use Rattle.rg_type.proofs.rights.new.Goals as goal

pub returns-clause-judged : goal.returns-clause-judged
returns-clause-judged c =
    let t = c.args.book.now.program in
    let out = env_of t c.sized.new.env in
    TypedAs-new (classes_of t) (env_of t c.args.env.now) out c.args.wanted c.in_ok-ty.ty c.args.cap (name_at t c.args.name)
    (option_map (expr_at t) c.args.size) c.against.result c.in_ok-ty.ensures.tree c.in_ok-sized.ensures.judged (c.against.ensures.judged out)

pub returns-clause-scope : goal.returns-clause-scope
returns-clause-scope c =
    OnOk-where (IsReadable c.args.book.now.program c.sized.new.env) c.against.result c.in_ok-sized.ensures.scope
