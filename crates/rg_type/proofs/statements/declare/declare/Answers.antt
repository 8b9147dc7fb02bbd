use Rattle.std.proofs.Common.{true, Some}
use Rattle.std.proofs.lemmas.Result.{on_ok_weaker}
use Rattle.rg_rules.specs.Environment.{ready}
use Rattle.rg_flow.specs.Scope.{Slot, env_of}
use Rattle.rg_type.proofs.AddSteps.{LeavesAs-added, IsReadable-added}
use Rattle.rg_type.proofs.statements.declare.declare.Goals as goal

pub returns-in-Ok-clause-judged : goal.returns-in-Ok-clause-judged
returns-in-Ok-clause-judged c =
    let t = c.args.book.now.program in
    LeavesAs-added _ c.args.line (env_of t c.add.new.env) _ c.add.result c.in-Ok.ensures.judged c.add.ensures.memory (c.add.ensures.tree t)

pub returns-in-Ok-clause-scope : goal.returns-in-Ok-clause-scope
returns-in-Ok-clause-scope c =
    let t = c.args.book.now.program in
    let s : Slot = record { name = Some c.args.name; ty = c.in-Ok.ty; depth = c.declared.new.env.depth; readiness = ready; assignable = true } in
    on_ok_weaker c.add.result (λ e. rw e (IsReadable-added t c.declared.new.env (c.declared.new.env.depth) s c.in-Ok.ensures.scope
    (record { name = c.requires.name; ty = c.in-Ok.ensures.known }))) c.add.ensures.scope
