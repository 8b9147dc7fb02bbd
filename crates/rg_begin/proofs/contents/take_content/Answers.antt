use Rattle.std.proofs.Common.{◌≡◌, Some, slice_get, sym, ap, ◌∙◌}
use Rattle.std.proofs.lemmas.Option.{slice_get-get_or}
use Rattle.rg_opening.specs.declared.given.Given.TheVariants.{Held}
use Rattle.rg_begin.proofs.Owning.{start-laid, held-laid, owner-width, owner-place, next-laid}
use Rattle.rg_begin.proofs.contents.take_content.Goals as goal
use Rattle.rg_begin.proofs.contents.take_content.Goals.{After-is_forest}

held : (c : After-is_forest) → slice_get c.args.given.now c.args.field ≡ Some (Held c.in-Held.cargo)
held c =
    slice_get-get_or c.args.given.now c.args.field c.index-given-field.result c.requires.within
    ∙ ap Some (sym c.index-given-field.is ∙ c.in-Held.is)

pub returns-in-Start : goal.returns-in-Start
returns-in-Start c =
    next-laid c.args.heap.now c.args.frames.now c.args.object c.args.class c.args.given.now c.args.field
    (start-laid c.args.heap.now c.args.frames.now c.args.object c.args.class c.args.given.now c.args.field c.in-Start.field-0
    (slice_get-get_or c.args.given.now c.args.field c.index-given-field.result c.requires.within
    ∙ ap Some (sym c.index-given-field.is ∙ c.in-Start.is)) c.requires.laid)

pub load-requires : goal.load-requires
load-requires c = c.requires.may c.args.field (Held c.in-Held.cargo) (held (goal.at.load-requires c).After-is_forest)

pub swap-requires-clause-width : goal.swap-requires-clause-width
swap-requires-clause-width c =
    owner-width c.args.heap.now c.load.new.self c.args.frames.now c.args.object c.args.class c.args.given.now c.args.field c.in_ok-bridge.bridge
    c.in-Held.cargo c.requires.may (held (goal.at.swap-requires-clause-width c).After-is_forest) c.is_forest.ensures.serials
    c.is_forest.ensures.forest c.requires.laid c.in_ok-bridge.ensures.loaded c.in_ok-bridge.ensures.bridge c.is_forest-2.ensures.serials
    c.is_forest-2.ensures.forest

pub swap-requires-clause-place : goal.swap-requires-clause-place
swap-requires-clause-place c =
    owner-place c.args.heap.now c.load.new.self c.args.frames.now c.args.object c.args.class c.args.given.now c.args.field c.in_ok-bridge.bridge
    c.in-Held.cargo c.requires.may (held (goal.at.swap-requires-clause-place c).After-is_forest) c.is_forest.ensures.serials
    c.is_forest.ensures.forest c.requires.laid c.in_ok-bridge.ensures.loaded c.in_ok-bridge.ensures.bridge c.is_forest-2.ensures.serials
    c.is_forest-2.ensures.forest

pub returns : goal.returns
returns c =
    next-laid c.swap.new.self c.args.frames.now c.args.object c.args.class c.args.given.now c.args.field
    (held-laid c.args.heap.now c.load.new.self c.args.frames.now c.args.object c.args.class c.args.given.now c.args.field c.in_ok-bridge.bridge
    c.in-Held.cargo c.requires.may (held (goal.at.returns c).After-is_forest) c.is_forest.ensures.serials c.is_forest.ensures.forest
    c.requires.laid c.in_ok-bridge.ensures.loaded c.in_ok-bridge.ensures.bridge c.is_forest-2.ensures.serials c.is_forest-2.ensures.forest
    c.swap.new.self c.swap.ensures.heap c.swap.ensures.regions)
