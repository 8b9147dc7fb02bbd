use Rattle.std.proofs.Common.{sym, ap, ◌∙◌, subst}
use Rattle.rg_machine.specs.Parts.{Parts, machine_in}
use Rattle.rg_begin.specs.Begun.{FirstHeld}
use Rattle.rg_begin.proofs.Callers.Runs.{begun-shows}
use Rattle.rg_begin.proofs.Standing.{Whole, whole}
use Rattle.rg_begin.proofs.Starting.{may-come, class-opens, method-there}
use Rattle.rg_begin.proofs.beginning.begin.Goals as goal
use Rattle.rg_begin.proofs.beginning.begin.Goals.{After-is_forest}

pub make_first-requires-clause-opens : goal.make_first-requires-clause-opens
make_first-requires-clause-opens c = class-opens c.args.code.now c.args.class c.args.method c.args.given.now c.requires

pub take_contents-requires-clause-may : goal.take_contents-requires-clause-may
take_contents-requires-clause-may c = may-come c.args.code.now c.args.class c.args.method c.args.given.now c.requires

pub entry-entry-requires : goal.entry-entry-requires
entry-entry-requires c = record { there = method-there c.args.code.now c.args.class c.args.method c.args.given.now c.requires }

all : (c : After-is_forest) → Whole c.take_contents.new.heap c.push_method.new.frames c.args.code.now.main_slots c.entry-entry.result c.args.class
    c.args.given.now
all c =
    let first = c.in_ok-object.ensures in
    whole c.take_contents.new.heap c.make_first.new.frames c.push_method.new.frames first.key c.args.code.now.main_slots c.in_ok-object.object
    c.args.class c.entry-entry.result c.args.given.now (may-come c.args.code.now c.args.class c.args.method c.args.given.now c.requires)
    c.is_forest.ensures.serials c.is_forest.ensures.forest c.in_ok-take_contents.ensures first.frames c.in_ok-push_method.ensures

pub over-requires : goal.over-requires
over-requires c = (all (goal.at.over-requires c).After-is_forest).stands

pub returns-clause-shows : goal.returns-clause-shows
returns-clause-shows c = λ t m s.
    begun-shows c.behaviour_opening_fits.ensures t c.args.code.now c.args.class c.args.method m c.args.given.now (machine_in c.over.result)
    c.entry-entry.result s c.entry-entry.ensures
    (ap machine_in c.over.ensures ∙ (all (goal.at.returns-clause-shows c).After-is_forest).shows)

pub returns-clause-first : goal.returns-clause-first
returns-clause-first c =
    subst (λ (m : Parts). FirstHeld m.heap) (sym c.over.ensures) (all (goal.at.returns-clause-first c).After-is_forest).first
