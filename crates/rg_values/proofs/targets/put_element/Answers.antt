use Rattle.std.proofs.Common.{length, refl, ◌∙◌, ap}
use Rattle.std.proofs.lemmas.List.{with_items_is}
use Rattle.rg_rules.specs.State.{State}
use Rattle.rg_store.specs.Shown.{store_of}
use Rattle.rg_store.proofs.Callers.Write.{put_element-written}
use Rattle.rg_values.specs.Kept.{kept_of, plain_of}
use Rattle.rg_values.proofs.Rows.Stored.{PartsFit-stored}
use Rattle.rg_values.proofs.targets.put_element.Goals as goal

pub returns-clause-put : goal.returns-clause-put
returns-clause-put c input =
    let m = c.args.m.now in
    let s = plain_of c.args.book.now.program (kept_of m) input in
    ap (λ q. let u : State = record s { store = store_of q } in u)
    (with_items_is m.store c.write_at.new.store (c.write_at.auto.store ∙ c.deref_mut.ensures.len))
    ∙ put_element-written s c.args.place c.args.element c.args.v c.deref_mut.result.now m.store.items (store_of c.write_at.new.store)
    c.deref_mut.ensures.value refl c.requires.there c.write_at.ensures.written

pub returns-clause-fit : goal.returns-clause-fit
returns-clause-fit c =
    let m = c.args.m.now in
    let t = c.args.book.now.program in
    PartsFit-stored t m c.deref_mut.result.now c.write_at.new.store _ c.deref_mut.ensures.value
    (with_items_is m.store c.write_at.new.store (c.write_at.auto.store ∙ c.deref_mut.ensures.len)) c.requires.fit (c.write_at.ensures.objects t)
    (c.write_at.ensures.labels (length m.managers.items))
