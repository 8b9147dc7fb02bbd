use Rattle.std.proofs.Common.{◌≡◌, ◌∙◌, ap, arith, of_z, sym, to_z, w64}
use Rattle.std.proofs.lemmas.Int.{to_z-of_z}
use Rattle.rg_rules.specs.Evaluation.{place_among}
use Rattle.rg_machine.specs.Parts.{machine_in, val_in}
use Rattle.rg_machine.proofs.Indexed.{place-nil, place-none, place-some}
use Rattle.rg_machine.proofs.machine.Machine.element_place.Goals as goal

pub returns-in-Err : goal.returns-in-Err
returns-in-Err c =
    sym (place-nil (machine_in c.args.self.now).store (val_in c.args.self.now c.args.r) (val_in c.args.self.now c.args.index) c.in-Err.kind
    c.in-Err.ensures.err)

pub returns-in-Some : goal.returns-in-Some
returns-in-Some c =
    let same : to_z w64 (of_z w64 c.number.result) ≡ c.number.result = grind (arith, to_z-of_z, c.number.type_inv) in
    place-some (machine_in c.args.self.now).store (val_in c.args.self.now c.args.r) (val_in c.args.self.now c.args.index) c.in-Ok.many
    c.number.result c.place_among.result c.in-Ok.ensures.ok c.number.ensures
    (c.place_among.ensures ∙ ap (place_among c.in-Ok.many) same) c.in-Some.place c.in-Some.is

pub returns-in-None : goal.returns-in-None
returns-in-None c =
    let same : to_z w64 (of_z w64 c.number.result) ≡ c.number.result = grind (arith, to_z-of_z, c.number.type_inv) in
    place-none (machine_in c.args.self.now).store (val_in c.args.self.now c.args.r) (val_in c.args.self.now c.args.index) c.in-Ok.many
    c.number.result c.place_among.result c.in-Ok.ensures.ok c.number.ensures
    (c.place_among.ensures ∙ ap (place_among c.in-Ok.many) same) c.in-None.is
