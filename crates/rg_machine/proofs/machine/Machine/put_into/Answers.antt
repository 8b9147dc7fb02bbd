use Rattle.std.proofs.Common.{◌≡◌, ◌∷◌, [], ◌∙◌, ℤ, ap, arith, of_z, refl, subst, sym, to_z, w64}
use Rattle.std.proofs.lemmas.Int.{to_z-of_z}
use Rattle.rg_code.specs.declared.op.Op.TheVariants as i
use Rattle.rg_heap.specs.Parts.{Parts as Heaps}
use Rattle.rg_rules.specs.Values.{as_int}
use Rattle.rg_stack.specs.Effects.{put_element}
use Rattle.rg_machine.specs.Among.{IsAmong, NamesPlace}
use Rattle.rg_machine.specs.Core.{Has, with_machine}
use Rattle.rg_machine.specs.Cores.{core_of}
use Rattle.rg_machine.specs.Parts.{Parts, machine_in, val_in}
use Rattle.rg_machine.specs.contracts.machine.Machine.{the_view}
use Rattle.rg_machine.specs.Stands.{AllLead, Leads, Stands}
use Rattle.rg_machine.proofs.Callers.High.{none-same, none-written}
use Rattle.rg_machine.proofs.Placed.{among-at, lacks-at, no-object}
use Rattle.rg_machine.proofs.Write.Element.{MayPut, element-core, element-may, element-stands}
use Rattle.rg_machine.proofs.machine.Machine.put_into.Goals as goal
use Rattle.rg_machine.proofs.machine.Machine.put_into.Goals.{After-has_few_fields}

may-put : (c : goal.After-has_few_fields) → MayPut (the_view c.self.inside) c.args.r c.args.index c.args.w c.in-Slot.slot c.place_of-place.result
may-put c =
    let same : to_z w64 (of_z w64 c.number.result) ≡ c.number.result = grind (arith, to_z-of_z, c.number.type_inv) in
    let N : ℤ → Type 0 = λ z. NamesPlace z c.place_of-place.result in
    let V : Parts → Type 0 = λ p. NamesPlace (as_int (val_in p c.args.index)) c.place_of-place.result in
    let R : Parts → Type 0 = λ p. Leads p.heap p.frames c.args.r in
    let W : Parts → Type 0 = λ p. Leads p.heap p.frames c.args.w in
    let G : Parts → Type 0 = λ p. IsAmong (machine_in p) (val_in p c.args.r) (val_in p c.args.index)
    → Has i.PutElement (record (core_of p) { stack = val_in p c.args.w ∷ val_in p c.args.index ∷ val_in p c.args.r ∷ [] }) in
    record {
      located = record {
        is = c.in-Slot.is;
        known = record {
          forest = c.is_forest.ensures.forest;
          serials = c.is_forest.ensures.serials;
          stands = c.self.invariant.0;
          lead = c.self.invariant.1;
        };
        leads = subst R (sym c.self.view_is) c.requires.object;
        few = c.has_few_fields.ensures;
        names = subst V (sym c.self.view_is) (subst N (same ∙ c.number.ensures) c.place_of-place.ensures);
      };
      leads = subst W (sym c.self.view_is) c.requires.leads;
      given = subst G (sym c.self.view_is) c.requires.given;
    }

pub returns-in_default-clause-lacks : goal.returns-in_default-clause-lacks
returns-in_default-clause-lacks c = λ e. (
  no-object c.args.self.now c.args.r (val_in c.args.self.now c.args.index) c.in_default.not-Slot,
  refl,
)

pub has_few_fields-requires : goal.has_few_fields-requires
has_few_fields-requires c =
    let L : Parts → Type 0 = λ p. Leads p.heap p.frames c.args.r in
    (subst L (sym c.self.view_is) c.requires.object).held c.in-Slot.slot c.in-Slot.is

pub write_element-requires-clause-held : goal.write_element-requires-clause-held
write_element-requires-clause-held c =
    let m = may-put (goal.at.write_element-requires-clause-held c).After-has_few_fields in
    m.located.leads.held c.in-Slot.slot c.in-Slot.is

pub write_element-requires-clause-place : goal.write_element-requires-clause-place
write_element-requires-clause-place c =
    let m = may-put (goal.at.write_element-requires-clause-place c).After-has_few_fields in λ t.
    element-may _ _ _ _ _ _ m t

-- Where it isn't there, nothing changed

pub invariant_of-self : goal.invariant_of-self
invariant_of-self c =
    let same = sym (c.if-not-write_element.ensures.lacks refl).1 in
    let S : Heaps → Type 0 = λ h. Stands h c.self.inside.frames in
    let A : Heaps → Type 0 = λ h. AllLead h c.self.inside.frames c.self.inside.stack.items in
    (subst S same c.self.invariant.0, subst A same c.self.invariant.1)

pub returns-then-not-write_element-clause-lacks : goal.returns-then-not-write_element-clause-lacks
returns-then-not-write_element-clause-lacks c =
    let m = may-put (goal.at.returns-then-not-write_element-clause-lacks c).After-has_few_fields in λ e.
    let done = c.if-not-write_element.ensures.lacks refl in
    let P : Parts → Type 0 = λ p. IsAmong (machine_in p) (val_in p c.args.r) (val_in p c.args.index) → ⊥ in (
      subst P c.self.view_is (lacks-at _ _ _ _ _ m.located done.0),
      ap (λ h. record (the_view c.self.inside) { heap = h }) done.1 ∙ c.self.view_is,
    )

pub returns-then-not-write_element-clause-high : goal.returns-then-not-write_element-clause-high
returns-then-not-write_element-clause-high c =
    rw (← c.self.view_is) (none-same c.self.inside.heap c.write_element.new.self (c.if-not-write_element.ensures.lacks refl).1)

-- Where it is, it is written

pub invariant_of-self-2 : goal.invariant_of-self-2
invariant_of-self-2 c =
    let m = may-put (goal.at.invariant_of-self-2 c).After-has_few_fields in
    let done = c.if-not-write_element.ensures.put refl in
    element-stands _ _ _ _ _ _ m done.0 c.write_element.new.self done.1 c.write_element.ensures.regions

pub returns-clause-put : goal.returns-clause-put
returns-clause-put c =
    let m = may-put (goal.at.returns-clause-put c).After-has_few_fields in λ e.
    let done = c.if-not-write_element.ensures.put refl in
    let new = c.write_element.new.self in
    let A : Parts → Type 0 = λ p. IsAmong (machine_in p) (val_in p c.args.r) (val_in p c.args.index) in
    let P : Parts → Type 0 = λ p. core_of (record (the_view c.self.inside) { heap = new }) ≡ with_machine (core_of p) (record (machine_in p) {
      store = put_element (machine_in p).store (val_in p c.args.r) (val_in p c.args.index) (val_in p c.args.w);
    }) in (
      subst A c.self.view_is (among-at _ _ _ _ _ m.located done.0),
      subst P c.self.view_is (element-core _ _ _ _ _ _ m done.0 new done.1 c.write_element.ensures.regions),
    )

pub returns-clause-high : goal.returns-clause-high
returns-clause-high c =
    rw (← c.self.view_is) (none-written c.self.inside.heap c.write_element.new.self c.in-Slot.slot c.place_of-place.result c.args.w
    (c.if-not-write_element.ensures.put refl).1)
