use Rattle.std.proofs.Common.{sym}
use Rattle.std.specs.Prelude.{Ok, Err}
use Rattle.rg_base.specs.declared.fault.Code.TheVariants.{Unknown}
use Rattle.rg_flow.proofs.Envs.{found-some, found-none}
use Rattle.rg_flow.proofs.Scope.{found-tree}
use Rattle.rg_flow.proofs.env.Env.find.Goals as goal

pub returns-in-Some : goal.returns-in-Some
returns-in-Some c =
    let i = c.self.inside in
    let s = found-some i.depth i.vars.items i.flow c.args.self.now c.args.name c.in-Some.place c.found_at.result c.self.view_is
    (sym (rw c.as_slice-vars.ensures.value at c.in-Some.ensures.place))
    (rw c.as_slice-vars.ensures.value at c.found_at.ensures) in
    record { slot = s; tree = λ t h l. found-tree t h.names c.args.name l c.args.self.now h.slots (Ok c.found_at.result) s }

pub returns-in-None : goal.returns-in-None
returns-in-None c =
    let i = c.self.inside in
    let s = found-none i.depth i.vars.items i.flow c.args.self.now c.args.name c.self.view_is
    (sym (rw c.as_slice-vars.ensures.value at c.in-None.ensures.place)) in
    record { slot = s; tree = λ t h l. found-tree t h.names c.args.name l c.args.self.now h.slots (Err Unknown) s }
