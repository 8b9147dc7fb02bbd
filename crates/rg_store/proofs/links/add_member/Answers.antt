use Rattle.std.proofs.Common.{◌≡◌, ◌∷◌, ◌++◌, drop, filter_map, ◌∙◌, ap, sym, arith}
use Rattle.rg_tree.specs.Rows.Tables.{name_at}
use Rattle.rg_tree.specs.Tree.{Field, field}
use Rattle.rg_tree.specs.Rows.RowTrees.{classes_of, member_at, member_of, type_of}
use Rattle.rg_rules.specs.Types.{field_member}
use Rattle.rg_store.specs.Inner.Found.{links_in}
use Rattle.rg_store.specs.Shown.{store_of}
use Rattle.rg_store.proofs.Link.{links-more, links-end}
use Rattle.rg_store.proofs.links.add_member.Goals as goal

pub returns-then-before-values-clause-added : goal.returns-then-before-values-clause-added
returns-then-before-values-clause-added c rest =
    let t = c.args.book.now.program in
    links-end t (store_of c.args.store.now) (member_at t c.args.member) rest c.args.values.now c.args.links.now.items c.args.before
    (omega (arith, c.if-before-values.true))

pub returns-in_ok-add_link-in-Field-clause-added : goal.returns-in_ok-add_link-in-Field-clause-added
returns-in_ok-add_link-in-Field-clause-added c rest =
    let t = c.args.book.now.program in
    let cs = classes_of t in
    let st = store_of c.args.store.now in
    let links = c.args.links.now.items in
    let values = c.args.values.now in
    let f : Field = record { name = name_at t c.in-Field.name; ty = type_of t c.in-Field.ty; line = c.in-Field.line } in
    let is : member_at t c.args.member ≡ field f = c.member.ensures.tree ∙ ap (member_of t) c.in-Field.is in
    links-more cs st f (filter_map field_member rest) values c.args.before _ links c.add_link.new.links.items
    (omega (arith, c.if-before-values.false, c.requires.before)) (c.in_ok-add_link-in-Field.ensures t cs)
    ∙ ap (λ q. links ++ links_in t st (q ∷ rest) (drop c.args.before values)) (sym is)
