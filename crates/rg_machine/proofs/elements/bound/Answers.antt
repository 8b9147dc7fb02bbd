use Rattle.std.proofs.Common.{◌∙◌, rules, sym}
use Rattle.rg_machine.specs.Cores.{core_of}
use Rattle.rg_machine.specs.Parts.{val_in}
use Rattle.rg_machine.proofs.Indexed.{bound-err, bound-ok}
use Rattle.rg_machine.proofs.elements.bound.Goals as goal

pub returns-in-Ok : goal.returns-in-Ok
returns-in-Ok c at =
    record {
      effect = bound-ok at (core_of c.args.p.now) (val_in c.args.p.now c.in-Some.r) (val_in c.args.p.now c.in-Some.index) c.in-Some.ensures.core
          c.in-Ok.field-0 (sym c.element_place.ensures ∙ c.in-Ok.is);
      keeps = search rules;
      high = search rules;
    }

pub returns-in-Err : goal.returns-in-Err
returns-in-Err c at =
    record {
      effect = bound-err at (core_of c.args.p.now) (val_in c.args.p.now c.in-Some.r) (val_in c.args.p.now c.in-Some.index) c.in-Some.ensures.core
          c.in-Err.kind (sym c.element_place.ensures ∙ c.in-Err.is);
      keeps = search rules;
      high = search rules;
    }
