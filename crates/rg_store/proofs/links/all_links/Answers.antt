use Rattle.std.proofs.Common.{◌∙◌, ◌∷◌, [], ◌++◌, take, sym, ap, subst, arith}
use Rattle.rg_tree.specs.Rows.RowTrees.{classes_of}
use Rattle.rg_rules.specs.Regions.{in_regions, led_from}
use Rattle.rg_store.specs.Regions.{LabelFits}
use Rattle.rg_store.specs.Shown.{seen_of, store_of}
use Rattle.rg_store.proofs.Among.{led-append}
use Rattle.rg_store.proofs.Callers.Label.{LabelsFit-at}
use Rattle.rg_store.proofs.Link.{store_of-more, store_of-whole}
use Rattle.rg_store.proofs.links.all_links.Goals as goal

pub add_object-requires-clause-label : goal.add_object-requires-clause-label
add_object-requires-clause-label c =
    let o = c.object-item.result in
    subst (λ n. LabelFits n o.label) (sym c.loop-object.invariant.count)
    (LabelsFit-at c.args.count c.args.store.now c.loop-object.object-index o (omega (arith, c.loop-object-test.true)) c.object-item.is
    c.requires.labels)

pub loop-object-preserved : goal.loop-object-preserved
loop-object-preserved c =
    let cs = classes_of c.args.book.now.program in
    let st = store_of c.args.store.now in
    let i = c.loop-object.object-index in
    let o = c.object-item.result in
    let count = c.loop-object.invariant.count in record {
      count = c.add_object.ensures.count ∙ count;
      led = λ r.
          let test = in_regions (r ∷ []) in
          c.in_ok-add_object.ensures.added r
          ∙ ap (λ q. q ++ led_from cs st test (seen_of o ∷ [])) (c.loop-object.invariant.led r)
          ∙ sym (led-append cs st test (take i st) (seen_of o ∷ []))
          ∙ ap (led_from cs st test) (store_of-more c.args.store.now i o (omega (arith, c.loop-object-test.true)) c.object-item.is);
    }

pub returns : goal.returns
returns c =
    let st = store_of c.args.store.now in
    record {
      count_is = c.loop-object.invariant.count;
      led = λ r.
          c.loop-object.invariant.led r
          ∙ ap (led_from (classes_of c.args.book.now.program) st (in_regions (r ∷ [])))
          (store_of-whole c.args.store.now c.loop-object.object-index c.loop-object-test.false);
    }
