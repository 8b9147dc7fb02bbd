use Rattle.std.proofs.Common.{Some, sym, ap, ◌∙◌, option_map}
use Rattle.rg_regions.specs.Table.{Record}
use Rattle.rg_heap.proofs.Slides.{shown_is, slides_still}
use Rattle.rg_heap.proofs.sliding.slide_by.Goals as goal

pub returns-in-Count-clause-slides : goal.returns-in-Count-clause-slides
returns-in-Count-clause-slides g c = λ r at.
    let v = c.args.frames.now in
    let shown = shown_is v _ c.requires.begun.1 c.slots-slots.ensures in
    let is = sym (ap (option_map (λ (z : Record). z.manager)) at) ∙ c.manager.ensures ∙ ap Some c.in-Count.is in
    slides_still _ _ c.args.key r v c.collect_by.result _ _ is shown c.temps-temps.ensures (c.collect_by.ensures.collects r at)
