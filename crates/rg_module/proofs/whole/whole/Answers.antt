use Rattle.std.proofs.Common.{◌∙◌, Some, List, sym, ap}
use Rattle.rg_spell.specs.declared.rows.Shape.{Shape}
use Rattle.rg_spell.specs.declared.rows.Head.{Head}
use Rattle.rg_module.specs.Follows.{code_for}
use Rattle.rg_module.proofs.Filling.{whole_is}
use Rattle.rg_module.proofs.whole.whole.Goals as goal

pub complete-requires : goal.complete-requires
complete-requires c = c.requires.bare

pub returns : goal.returns
returns c =
    let ops = c.args.found.code.ops in
    let classes = c.args.classes.items in
    let methods = c.args.methods.items in
    let is = c.in-Ok.ensures ∙ ap (λ (cs : List Shape). code_for cs c.as_slice-2.result.now ops) c.as_slice.ensures.value
    ∙ ap (λ (hs : List Head). code_for classes hs ops) c.as_slice-2.ensures.value in
    ap Some (whole_is c.args.manager classes methods c.args.found.code _ c.args.found.maps.items c.requires.even is ∙ sym c.of.ensures)
