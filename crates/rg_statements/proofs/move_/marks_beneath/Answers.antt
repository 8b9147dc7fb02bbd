use Rattle.std.proofs.Common.{List, ℕ, [], ◌∷◌, length, ◌∙◌, sym, subst, IfOk}
use Rattle.rg_tree.specs.Rows.RowTrees.{classes_of}
use Rattle.rg_rules.specs.Regions.{beneath}
use Rattle.rg_store.specs.declared.objects.ObjectRow.{ObjectRow}
use Rattle.rg_store.specs.Regions.{AreMarked, LabelsFit}
use Rattle.rg_store.specs.Shown.{store_of}
use Rattle.rg_statements.proofs.move_.marks_beneath.Goals as goal

pub beneath-requires-clause-labels : goal.beneath-requires-clause-labels
beneath-requires-clause-labels c =
    let m = c.args.m.now in
    let count_is = c.len.ensures ∙ m.managers.ok.0 in
    subst (λ (n : ℕ). LabelsFit n (store_of c.deref.result.now)) (sym count_is)
    (subst (λ (q : List ObjectRow). LabelsFit (length m.managers.items) (store_of q)) (sym c.deref.ensures.value) c.requires.fit.regions.labels)

pub returns : goal.returns
returns c =
    let m = c.args.m.now in
    let cs = classes_of c.args.book.now.program in
    let r = c.args.region in
    subst (λ (n : ℕ). IfOk c.beneath.result (λ marks. AreMarked marks.items (beneath cs (store_of m.store.items) n (r ∷ []))))
    (c.len.ensures ∙ m.managers.ok.0)
    (subst (λ (q : List ObjectRow). IfOk c.beneath.result (λ marks. AreMarked marks.items (beneath cs (store_of q) c.len.result (r ∷ []))))
    c.deref.ensures.value c.beneath.ensures)
