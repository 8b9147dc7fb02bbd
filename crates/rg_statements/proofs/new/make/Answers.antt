use Rattle.std.proofs.Common.{◌<◌, length, ◌∙◌, sym, ap, ◌∷◌, []}
use Rattle.std.proofs.lemmas.List.{map-append, length-map}
use Rattle.rg_store.specs.Shown.{seen_of, store_of}
use Rattle.rg_values.specs.Kept.{kept_of}
use Rattle.rg_tree.specs.Rows.RowTrees.{classes_of}
use Rattle.rg_statements.proofs.Statements.Call.{All-under}
use Rattle.rg_statements.proofs.Rows.Fit.{made-fits}
use Rattle.rg_statements.proofs.Statements.Make.{made-as}
use Rattle.rg_statements.proofs.new.make.Goals as goal

pub returns-clause-made : goal.returns-clause-made
returns-clause-made c input =
    let store = c.args.m.now.store.items in
    c.put.ensures.put input
    ∙ made-as c.args.book.now.program (kept_of c.args.m.now) input c.args.aim c.args.kind (seen_of c.args.object) _ _ _ _
    (ap store_of c.push_reserved.ensures.items ∙ map-append seen_of store (c.args.object ∷ [])) c.add_region.ensures
    (c.len-serial.ensures ∙ c.args.m.now.store.ok.0 ∙ sym (length-map store seen_of))

pub put-requires-clause-fit : goal.put-requires-clause-fit
put-requires-clause-fit c =
    let t = c.args.book.now.program in
    let m = c.args.m.now in
    let fits = c.requires.fit in record {
      objects =
          All-under (λ o. o.class < length (classes_of t)) m.store.items c.args.object c.push_reserved.new.self.items c.push_reserved.ensures.items
          fits.objects c.requires.class;
      named = fits.named;
      below = fits.below;
      targets = fits.targets;
      target = fits.target;
      items = fits.items;
      regions =
          made-fits c.args.kind m.managers.items c.add_region.new.managers.items m.store.items c.push_reserved.new.self.items c.args.object m.window
          m.outer.items fits.regions c.requires.label c.push_reserved.ensures.items c.add_region.ensures;
    }
