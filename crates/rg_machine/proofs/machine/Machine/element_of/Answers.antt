use Rattle.std.proofs.Common.{◌≡◌, ◌∷◌, [], ◌∙◌, ℤ, IfNone, IfSome, arith, of_z, subst, sym, to_z, w64}
use Rattle.std.proofs.lemmas.Int.{to_z-of_z}
use Rattle.rg_code.specs.declared.op.Op.TheVariants as i
use Rattle.rg_rules.specs.Values.{as_int}
use Rattle.rg_machine.specs.Among.{ElementIs, IsAmong, NamesPlace}
use Rattle.rg_machine.specs.Core.{Has}
use Rattle.rg_machine.specs.Cores.{core_of}
use Rattle.rg_machine.specs.Parts.{Parts, machine_in, val_in}
use Rattle.rg_machine.specs.contracts.machine.Machine.{the_view}
use Rattle.rg_machine.specs.Stands.{Leads}
use Rattle.rg_machine.proofs.Placed.{Located, element-lacks, element-some, no-object}
use Rattle.rg_machine.proofs.machine.Machine.element_of.Goals as goal

located : (c : goal.After-element) → Located (the_view c.self.inside) c.args.r c.args.index c.in-Slot.slot c.place_of-place.result
located c =
    let same : to_z w64 (of_z w64 c.number.result) ≡ c.number.result = grind (arith, to_z-of_z, c.number.type_inv) in
    let N : ℤ → Type 0 = λ z. NamesPlace z c.place_of-place.result in
    let V : Parts → Type 0 = λ p. NamesPlace (as_int (val_in p c.args.index)) c.place_of-place.result in
    let L : Parts → Type 0 = λ p. Leads p.heap p.frames c.args.r in
    record {
      is = c.in-Slot.is;
      known = record {
        forest = c.is_forest.ensures.forest;
        serials = c.is_forest.ensures.serials;
        stands = c.self.invariant.0;
        lead = c.self.invariant.1;
      };
      leads = subst L (sym c.self.view_is) c.requires.leads;
      few = c.has_few_fields.ensures;
      names = subst V (sym c.self.view_is) (subst N (same ∙ c.number.ensures) c.place_of-place.ensures);
    }

pub returns-in_default-clause-none : goal.returns-in_default-clause-none
returns-in_default-clause-none c =
    no-object c.args.self.now c.args.r (val_in c.args.self.now c.args.index) c.in_default.not-Slot

pub has_few_fields-requires : goal.has_few_fields-requires
has_few_fields-requires c =
    let L : Parts → Type 0 = λ p. Leads p.heap p.frames c.args.r in
    (subst L (sym c.self.view_is) c.requires.leads).held c.in-Slot.slot c.in-Slot.is

pub element-requires : goal.element-requires
element-requires c =
    let L : Parts → Type 0 = λ p. Leads p.heap p.frames c.args.r in
    (subst L (sym c.self.view_is) c.requires.leads).held c.in-Slot.slot c.in-Slot.is

pub returns-clause-some : goal.returns-clause-some
returns-clause-some c =
    let G : Parts → Type 0 = λ p. IsAmong (machine_in p) (val_in p c.args.r) (val_in p c.args.index)
    → Has i.Element (record (core_of p) { stack = val_in p c.args.index ∷ val_in p c.args.r ∷ [] }) in
    let S : Parts → Type 0 = λ p. IfSome c.element.result (ElementIs p (val_in p c.args.r) (val_in p c.args.index)) in
    subst S c.self.view_is (element-some _ _ _ _ _ (located c) c.element.result c.element.ensures
    (subst G (sym c.self.view_is) c.requires.given))

pub returns-clause-none : goal.returns-clause-none
returns-clause-none c =
    let S : Parts → Type 0 = λ p. IfNone c.element.result (IsAmong (machine_in p) (val_in p c.args.r) (val_in p c.args.index) → ⊥) in
    subst S c.self.view_is (element-lacks _ _ _ _ _ (located c) c.element.result c.element.ensures)
