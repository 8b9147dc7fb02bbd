use Rattle.std.proofs.Common.{◌≡◌, replicate, option_and_then, sym, ◌∙◌, ap, rules}
use Rattle.rg_tree.specs.Tree.{Class}
use Rattle.rg_rules.specs.RightSides.{opening_element}
use Rattle.rg_store.specs.Shown.{object_of}
use Rattle.rg_store.proofs.made.new_array.Goals as goal

pub returns-clause-shown : goal.returns-clause-shown
returns-clause-shown c =
    let items : c.in-Ok.fields.items ≡ replicate c.args.size c.opening_element-opening.result = search rules in
    ap (λ fields. object_of c.args.class fields c.args.label) items
    ∙ ap (λ v. object_of c.args.class (replicate c.args.size v) c.args.label)
    (c.opening_element-opening.ensures c.args.book.now.program
    ∙ ap (λ o. opening_element (option_and_then (λ (d : Class). d.element) o)) (sym c.class.ensures.tree))
