use Rattle.std.proofs.Common.{◌≡◌, ◌<◌, ◌∙◌, refl, sym, ap, length}
use Rattle.rg_flow.specs.Scope.{Scope}
use Rattle.rg_flow.specs.Inner.Layout.{with_slot, ready_slot}
use Rattle.rg_flow.proofs.Envs.{length-seen, kept-noted, kept-push, scope-push}
use Rattle.rg_flow.proofs.env.Env.append.Goals as goal

pub invariant_of-self-in_default : goal.invariant_of-self-in_default
invariant_of-self-in_default c =
    let i = c.self.inside in
    rw c.in_default.ensures.items
    (kept-noted i.depth i.vars.items i.places c.note_last.new.places i.flow c.self.invariant
    (rw c.deref.ensures.value at c.in_ok-note_last.ensures.still))

pub set-requires : goal.set-requires
set-requires c =
    let i = c.self.inside in
    let e : length i.vars.items ≡ length c.args.self.now.slots = length-seen i.depth i.vars.items i.flow c.args.self.now c.self.view_is in
    let n : c.len-place.result ≡ length i.vars.items = c.len-place.ensures ∙ sym c.deref.ensures.len ∙ ap length c.deref.ensures.value in
    let r = c.requires in
    rw (n, e) r

pub invariant_of-self-2 : goal.invariant_of-self-2
invariant_of-self-2 c =
    let i = c.self.inside in
    let e : length i.vars.items ≡ length c.args.self.now.slots = length-seen i.depth i.vars.items i.flow c.args.self.now c.self.view_is in
    let l : length i.vars.items < 256 = rw e c.requires in
    let n : c.len-place.result ≡ length i.vars.items = c.len-place.ensures ∙ sym c.deref.ensures.len ∙ ap length c.deref.ensures.value in
    rw c.in-Ok.ensures.items
    (kept-push i.depth i.vars.items i.places c.note_last.new.places i.flow c.set.new.flow c.args.var c.len-place.result n c.self.invariant l
    c.set.ensures
    (rw c.deref.ensures.value at (c.in_ok-note_last.ensures.noted c.args.var refl)))

pub returns-clause-ok : goal.returns-clause-ok
returns-clause-ok c =
    let i = c.self.inside in
    let n : c.len-place.result ≡ length i.vars.items = c.len-place.ensures ∙ sym c.deref.ensures.len ∙ ap length c.deref.ensures.value in
    rw c.in-Ok.ensures.items
    (scope-push i.depth i.vars.items i.flow c.set.new.flow c.args.var c.len-place.result n c.set.ensures
    ∙ ap (λ (s : Scope). with_slot s (ready_slot c.args.var)) c.self.view_is)
