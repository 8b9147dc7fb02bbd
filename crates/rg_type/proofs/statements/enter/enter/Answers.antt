use Rattle.std.proofs.Common.{◌+◌, true, Some}
use Rattle.std.proofs.lemmas.Result.{on_ok_weaker}
use Rattle.rg_base.specs.declared.words.Cap.TheVariants.{Mut}
use Rattle.rg_base.specs.declared.ty.Ty.TheVariants.{Ref}
use Rattle.rg_rules.specs.Environment.{ready}
use Rattle.rg_flow.specs.Scope.{Slot, env_of}
use Rattle.rg_type.proofs.AddSteps.{LeavesAs-added, IsReadable-added}
use Rattle.rg_type.proofs.statements.enter.enter.Goals as goal

pub returns-in-Ok-clause-judged : goal.returns-in-Ok-clause-judged
returns-in-Ok-clause-judged c =
    let t = c.args.book.now.program in
    LeavesAs-added _ c.args.line (env_of t c.add_within.new.env) _ c.add_within.result c.in-Ok.ensures.judged c.add_within.ensures.memory
    (c.add_within.ensures.tree t)

pub returns-in-Ok-clause-scope : goal.returns-in-Ok-clause-scope
returns-in-Ok-clause-scope c =
    let t = c.args.book.now.program in
    let s : Slot =
    record { name = Some c.args.name; ty = Ref Mut c.in-Ok.class; depth = c.entered.new.env.depth + 1; readiness = ready; assignable = true } in
    on_ok_weaker c.add_within.result (λ e. rw e (IsReadable-added t c.entered.new.env (c.entered.new.env.depth + 1) s c.in-Ok.ensures.scope
    (record { name = c.requires.name; ty = c.in-Ok.ensures.known }))) c.add_within.ensures.scope
