use Rattle.std.proofs.Common.{◌≡◌, ◌≤◌, ◌∙◌, ap, length, subst}
use Rattle.rg_flow.specs.Scope.{closed_at}
use Rattle.rg_flow.proofs.FlowSteps.{IsGoneTo}
use Rattle.rg_flow.proofs.Envs.{length-seen, kept-take, scope-take}
use Rattle.rg_flow.proofs.env.Env.close.Goals as goal

pub forget-requires-clause-ordered : goal.forget-requires-clause-ordered
forget-requires-clause-ordered c =
    let i = c.self.inside in
    let e : length i.vars.items ≡ length c.args.self.now.slots = length-seen i.depth i.vars.items i.flow c.args.self.now c.self.view_is in
    let n : length c.as_slice.result.now ≡ length i.vars.items = ap length c.as_slice.ensures.value in
    rw (n, e) c.requires.within

pub invariant_of-self : goal.invariant_of-self
invariant_of-self c =
    let i = c.self.inside in
    let e : length i.vars.items ≡ length c.args.self.now.slots = length-seen i.depth i.vars.items i.flow c.args.self.now c.self.view_is in
    let n : length c.as_slice.result.now ≡ length i.vars.items = ap length c.as_slice.ensures.value in
    let l : c.args.len ≤ length i.vars.items = rw e c.requires.within in
    rw c.truncate.ensures.items
    (kept-take c.args.depth i.depth c.args.len i.vars.items i.places i.flow c.forget.new.flow c.self.invariant c.requires.ordered l
    (subst (IsGoneTo c.forget.new.flow i.flow c.args.len) n c.forget.ensures))

pub returns : goal.returns
returns c =
    let i = c.self.inside in
    let e : length i.vars.items ≡ length c.args.self.now.slots = length-seen i.depth i.vars.items i.flow c.args.self.now c.self.view_is in
    let n : length c.as_slice.result.now ≡ length i.vars.items = ap length c.as_slice.ensures.value in
    let l : c.args.len ≤ length i.vars.items = rw e c.requires.within in
    rw c.truncate.ensures.items
    (scope-take c.args.depth i.depth c.args.len i.vars.items i.flow c.forget.new.flow l
    (subst (IsGoneTo c.forget.new.flow i.flow c.args.len) n c.forget.ensures)
    ∙ ap (closed_at c.args.depth c.args.len) c.self.view_is)
