use Rattle.std.proofs.Common.{◌∙◌, refl, sym, ap, filter_map, ◌++◌}
use Rattle.rg_tree.specs.Rows.RowTrees.{classes_of}
use Rattle.rg_rules.specs.Regions.{region_at, owned_in}
use Rattle.rg_rules.specs.Types.{fields_of}
use Rattle.rg_store.specs.Links.{listed}
use Rattle.rg_store.specs.Shown.{seen_of, store_of}
use Rattle.rg_store.proofs.Callers.Label.{some-below}
use Rattle.rg_store.proofs.Link.{listed-added, owned-label}
use Rattle.rg_store.proofs.links.add_object.Goals as goal

pub returns-clause-added : goal.returns-clause-added
returns-clause-added c r =
    let cs = classes_of c.args.book.now.program in
    let st = store_of c.args.store.now in
    let o = seen_of c.args.object.now in
    listed-added c.args.led.now.items o.label c.in-Some.region c.index_mut-links.result.now c.add_links.new.links _
    (filter_map (region_at st) (owned_in cs (fields_of cs o.class) o.fields)) c.in-Some.ensures
    (some-below _ o.label c.in-Some.region c.requires.label (sym c.in-Some.ensures)) c.index_mut-links.ensures.value c.in_ok-add_links.ensures refl r
    ∙ ap (λ q. listed c.args.led.now.items r ++ q) (owned-label cs st o r)
