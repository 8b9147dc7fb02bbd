use Rattle.std.proofs.Common.{◌≡◌, ◌≤◌, ◌+◌, ◌-◌, ◌∙◌, suc, length, ap, refl, subst, sym, arith}
use Rattle.rg_frames.specs.Changes.{ended}
use Rattle.rg_machine.specs.Effects.{ending}
use Rattle.rg_machine.specs.Inner.Ends.{MayEnd}
use Rattle.rg_machine.specs.Parts.{Parts}
use Rattle.rg_machine.specs.Cores.{core_of}
use Rattle.rg_machine.specs.Stands.{AllLead, Stands}
use Rattle.rg_machine.specs.contracts.machine.Machine.{the_view}
use Rattle.rg_machine.proofs.End.Emptied.{ending-there}
use Rattle.rg_machine.proofs.End.Home.{Nearing, nearing-final, nearing-init, nearing-nil, nearing-on, nearing-rest}
use Rattle.rg_machine.proofs.End.Nil.{backs-ending}
use Rattle.rg_machine.proofs.machine.Machine.end_written.Goals as goal

pub slots-init : goal.slots-init
slots-init c =
    let p = the_view c.self.inside in
    let nil = subst (λ (p : Parts). ended p.frames c.args.live ≡ p.frames) (sym c.self.view_is) c.requires.nil in
    let within = subst (λ (p : Parts). p.frames.first + c.args.live ≤ length p.frames.slots) (sym c.self.view_is) c.requires.within in
    let may = subst MayEnd (sym c.self.view_is) c.requires.may in
    subst (λ p. Nearing p p c.args.s c.args.live) c.self.view_is
    (nearing-init p c.is_forest.ensures.serials c.is_forest.ensures.forest c.self.invariant.0 c.args.s c.args.live nil within
    (omega (arith, c.requires.some)) may)

pub end_nth-requires : goal.end_nth-requires
end_nth-requires c = record {
  there =
      ending-there c.args.self.now c.slots.self c.args.s c.slots.left (c.slots.left - 1) c.slots.invariant.goes (omega (arith, c.slots-test.true));
}

pub slots-preserved : goal.slots-preserved
slots-preserved c =
    let is : c.slots.left ≡ suc (c.slots.left - 1) = omega (arith, c.slots-test.true) in
    let e = c.if-not-end_nth.ensures in
    nearing-on c.args.self.now c.slots.self c.end_nth.new.self c.args.s c.slots.left (c.slots.left - 1) c.slots.invariant
    (omega (arith, c.slots-test.true)) is (e.gone refl) (e.nil refl) e.words e.heap

pub end_owning-requires : goal.end_owning-requires
end_owning-requires c =
    let n = subst (λ now. Nearing c.args.self.now now c.args.s c.slots.left) (sym (c.if-not-end_nth.ensures.stays refl)) c.slots.invariant in
    record { once = n.goes.once; stack = n.goes.stack }

pub returns-then-not-end_nth-clause-ended : goal.returns-then-not-end_nth-clause-ended
returns-then-not-end_nth-clause-ended c =
    let p = the_view c.self-then-not-end_nth.inside in
    let same = sym (c.self-then-not-end_nth.view_is ∙ c.if-not-end_nth.ensures.stays refl) in
    let n = subst (λ now. Nearing c.args.self.now now c.args.s c.slots.left) same c.slots.invariant in
    let new = core_of c.end_owning.new.self in
    nearing-rest c.args.self.now p new c.args.s c.slots.left c.is_forest-then-not-end_nth.ensures.serials
    c.is_forest-then-not-end_nth.ensures.forest c.self-then-not-end_nth.invariant.0 n
    (subst (λ x. new ≡ ending (core_of x) c.args.s) (sym c.self-then-not-end_nth.view_is) c.end_owning.ensures.ended)

pub settle-requires-clause-nil : goal.settle-requires-clause-nil
settle-requires-clause-nil c =
    let n = subst (λ now. Nearing c.args.self.now now c.args.s c.slots.left) (sym c.self-2.view_is) c.slots.invariant in
    (nearing-nil c.args.self.now (the_view c.self-2.inside) c.args.s c.slots.left n c.slots-test.false).0

pub settle-requires-clause-within : goal.settle-requires-clause-within
settle-requires-clause-within c =
    let n = subst (λ now. Nearing c.args.self.now now c.args.s c.slots.left) (sym c.self-2.view_is) c.slots.invariant in
    (nearing-nil c.args.self.now (the_view c.self-2.inside) c.args.s c.slots.left n c.slots-test.false).1

pub invariant_of-self : goal.invariant_of-self
invariant_of-self c =
    let p = c.self-2.inside in
    subst (λ v. Stands p.heap v × AllLead p.heap v p.stack.items) (sym c.settle.ensures) c.self-2.invariant

pub returns-clause-ended : goal.returns-clause-ended
returns-clause-ended c =
    let n = subst (λ now. Nearing c.args.self.now now c.args.s c.slots.left) (sym c.self-2.view_is) c.slots.invariant in
    ap (λ v. core_of (record (the_view c.self-2.inside) { frames = v })) c.settle.ensures
    ∙ nearing-final c.args.self.now (the_view c.self-2.inside) c.args.s c.slots.left n c.slots-test.false

pub returns-clause-words : goal.returns-clause-words
returns-clause-words c =
    let n = subst (λ now. Nearing c.args.self.now now c.args.s c.slots.left) (sym c.self-2.view_is) c.slots.invariant in n.goes.words

pub returns-clause-backs : goal.returns-clause-backs
returns-clause-backs c =
    let n = subst (λ now. Nearing c.args.self.now now c.args.s c.slots.left) (sym c.self-2.view_is) c.slots.invariant in
    let p = the_view c.self-2.inside in
    backs-ending (core_of c.args.self.now) (core_of (record p { frames = c.settle.new.self })) c.args.s
    (ap (λ v. core_of (record p { frames = v })) c.settle.ensures ∙ nearing-final c.args.self.now p c.args.s c.slots.left n c.slots-test.false)

pub returns-clause-high : goal.returns-clause-high
returns-clause-high c =
    let n = subst (λ now. Nearing c.args.self.now now c.args.s c.slots.left) (sym c.self-2.view_is) c.slots.invariant in n.goes.made
