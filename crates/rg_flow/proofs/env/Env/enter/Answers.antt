use Rattle.std.proofs.Common.{◌≡◌, ◌+◌, true, [], ◌∷◌, ◌∙◌, length, ap, arith}
use Rattle.std.proofs.lemmas.List.{length-append}
use Rattle.rg_flow.specs.Scope.{Scope}
use Rattle.rg_flow.specs.Inner.Layout.{ready_slot}
use Rattle.rg_flow.proofs.Envs.{length-seen, kept-deeper}
use Rattle.rg_flow.proofs.env.Env.enter.Goals as goal

pub invariant_of-self : goal.invariant_of-self
invariant_of-self c =
    let i = c.self.inside in
    let j = c.self-2.inside in
    let e : length i.vars.items ≡ length c.args.self.now.slots = length-seen i.depth i.vars.items i.flow c.args.self.now c.self.view_is in
    let n : length j.vars.items ≡ length c.append.new.self.slots = length-seen j.depth j.vars.items j.flow c.append.new.self c.self-2.view_is in
    let ok = c.in_ok-append.ensures.ok in
    let m : length c.append.new.self.slots ≡ length c.args.self.now.slots + 1 =
    ap (λ (s : Scope). length s.slots) ok
    ∙ length-append c.args.self.now.slots (ready_slot (record { name = c.args.name; ty = c.args.ty; depth = i.depth + 1; assignable = true }) ∷ []) in
    let o = c.self.invariant.ordered in
    kept-deeper j.depth (i.depth + 1) j.vars.items j.places j.flow c.self-2.invariant (omega arith)
