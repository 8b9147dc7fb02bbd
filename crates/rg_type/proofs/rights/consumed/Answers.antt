use Rattle.std.proofs.Common.{sym}
use Rattle.rg_tree.specs.Rows.Tables.{name_at}
use Rattle.rg_flow.specs.Scope.{env_of}
use Rattle.rg_flow.specs.States.{IsReadable}
use Rattle.rg_type.proofs.RightSteps.{TypedAs-consumed, OnOk-where}
use Rattle.rg_type.proofs.rights.consumed.Goals as goal

pub returns-clause-judged : goal.returns-clause-judged
returns-clause-judged c =
    let t = c.args.book.now.program in
    let new = env_of t c.mark.new.self in
    let f = c.in_ok-variable.ensures.tree t c.requires.scope c.requires.name in
    let m = c.mark.ensures.tree t c.requires.scope c.requires.name in
    TypedAs-consumed (env_of t c.args.env.now) new c.args.wanted c.args.cap (name_at t c.args.name) _ c.in-Some.class c.against.result
    f.entry c.in-Some.ensures.class (sym c.if-not-is_ready.ensures) m (c.against.ensures.judged new)

pub returns-clause-scope : goal.returns-clause-scope
returns-clause-scope c =
    OnOk-where (IsReadable c.args.book.now.program c.mark.new.self) c.against.result (c.mark.ensures.within c.args.book.now.program c.requires.scope)
