use Rattle.std.proofs.Common.{length, ◌∙◌, sym, ap, refl}
use Rattle.std.proofs.lemmas.List.{with_items_is}
use Rattle.rg_tree.specs.Rows.Tables.{name_at}
use Rattle.rg_tree.specs.Rows.RowTrees.{classes_of}
use Rattle.rg_rules.specs.State.{State}
use Rattle.rg_store.specs.Shown.{store_of}
use Rattle.rg_store.proofs.Callers.Write.{put_field-written}
use Rattle.rg_values.specs.Kept.{kept_of, plain_of}
use Rattle.rg_values.specs.Spots.{use_of}
use Rattle.rg_values.proofs.Rows.Stored.{PartsFit-stored}
use Rattle.rg_values.proofs.targets.put.Goals as goal

pub returns-in-Field-clause-put : goal.returns-in-Field-clause-put
returns-in-Field-clause-put c input =
    let t = c.args.book.now.program in
    let m = c.args.m.now in
    let s = plain_of t (kept_of m) input in
    let fits = rw c.in-Field.is at c.requires.aim in
    ap (λ q. let u : State = record s { store = store_of q } in u)
    (with_items_is m.store c.write_field.new.store (c.write_field.auto.store ∙ c.deref_mut-in-Field.ensures.len))
    ∙ put_field-written (classes_of t) s c.in-Field.place (name_at t c.in-Field.name) c.args.v c.deref_mut-in-Field.result.now
    m.store.items (store_of c.write_field.new.store) c.deref_mut-in-Field.ensures.value refl fits.0 c.write_field.ensures.written
    ∙ ap (λ a. use_of t a s c.args.v) (sym c.in-Field.is)

pub returns-in-Field-clause-fit : goal.returns-in-Field-clause-fit
returns-in-Field-clause-fit c =
    let m = c.args.m.now in
    PartsFit-stored c.args.book.now.program m c.deref_mut-in-Field.result.now c.write_field.new.store _ c.deref_mut-in-Field.ensures.value
    (with_items_is m.store c.write_field.new.store (c.write_field.auto.store ∙ c.deref_mut-in-Field.ensures.len)) c.requires.fit
    (λ fits. c.write_field.ensures.objects) (c.write_field.ensures.labels (length m.managers.items))
