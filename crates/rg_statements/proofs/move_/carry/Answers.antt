use Rattle.std.proofs.Common.{List, length, ◌∙◌, sym, ap, subst, Some}
use Rattle.std.proofs.lemmas.List.{with_items_is}
use Rattle.rg_base.specs.declared.value.Val.TheVariants.{Nil}
use Rattle.rg_tree.specs.Rows.Tables.{name_at}
use Rattle.rg_rules.specs.Regions.{relabelled}
use Rattle.rg_rules.specs.State.{set_in}
use Rattle.rg_store.specs.declared.objects.ObjectRow.{ObjectRow}
use Rattle.rg_store.specs.Regions.{LabelsFit}
use Rattle.rg_store.specs.Shown.{AreOfClasses, store_of}
use Rattle.rg_values.specs.declared.state.rows.LocalRow.{LocalRow}
use Rattle.rg_values.specs.Kept.{kept_of}
use Rattle.rg_values.specs.Shown.{AreNamed, locals_of}
use Rattle.rg_values.specs.Spots.{use_of}
use Rattle.rg_statements.proofs.Statements.Moves.{set-nil}
use Rattle.rg_statements.proofs.move_.carry.Goals as goal

pub put-requires-clause-fit : goal.put-requires-clause-fit
put-requires-clause-fit c =
    let t = c.args.book.now.program in
    let m = c.args.m.now in
    let fits = c.requires.fit in
    let count = length m.managers.items in
    let store = with_items_is m.store c.relabel.new.store (c.relabel.auto.store ∙ c.deref_mut.ensures.len) in
    let locals = with_items_is m.frame.locals c.set.new.locals (c.set.auto.locals ∙ c.deref_mut-2.ensures.len) in record {
      objects = subst (λ (q : List ObjectRow). AreOfClasses t q) (sym store)
          (c.relabel.ensures.classes t (subst (λ (q : List ObjectRow). AreOfClasses t q) (sym c.deref_mut.ensures.value) fits.objects));
      named = subst (λ (q : List LocalRow). AreNamed t q) (sym locals) c.set.ensures.named;
      below = fits.below;
      targets = fits.targets;
      target = fits.target;
      items = fits.items;
      regions = record {
        labels =
            subst (λ (q : List ObjectRow). LabelsFit count (store_of q)) (sym store)
            (c.relabel.ensures.labels count c.requires.label
            (subst (λ (q : List ObjectRow). LabelsFit count (store_of q)) (sym c.deref_mut.ensures.value) fits.regions.labels));
        active = fits.regions.active;
        outer = fits.regions.outer;
      };
    }

pub returns-clause-carried : goal.returns-clause-carried
returns-clause-carried c input these are =
    let t = c.args.book.now.program in
    let m = c.args.m.now in
    let y = Some (name_at t c.args.taken.name) in
    let store = with_items_is m.store c.relabel.new.store (c.relabel.auto.store ∙ c.deref_mut.ensures.len) in
    let locals = with_items_is m.frame.locals c.set.new.locals (c.set.auto.locals ∙ c.deref_mut-2.ensures.len) in
    c.put.ensures.put input
    ∙ ap (λ s. use_of t c.args.aim s c.args.taken.value)
    (set-nil t (kept_of m) input y _ (relabelled these c.args.label (store_of m.store.items)) _
    (ap store_of store ∙ c.relabel.ensures.relabelled these are ∙ ap (λ q. relabelled these c.args.label (store_of q)) c.deref_mut.ensures.value)
    (ap (locals_of t) locals ∙ c.set.ensures.set ∙ ap (λ q. set_in y Nil (locals_of t q)) c.deref_mut-2.ensures.value))
