use Rattle.std.proofs.Common.{refl, ap, ◌∙◌}
use Rattle.std.proofs.lemmas.List.{with_items_is}
use Rattle.std.proofs.lemmas.Option.{slice_get_read}
use Rattle.rg_rules.specs.State.{set_at}
use Rattle.rg_values.specs.Shown.{locals_of}
use Rattle.rg_values.proofs.Rows.Numbered.{set-rows}
use Rattle.rg_values.proofs.owners.set_beneath.Goals as goal

pub returns-clause-set : goal.returns-clause-set
returns-clause-set c =
    let t = c.args.book.now.program in
    let f = c.index_mut-frame.result.now in
    let whole = with_items_is f.locals c.set_at.new.locals (c.set_at.auto.locals ∙ c.deref_mut.ensures.len) in
    set-rows c.args.slot c.args.v t c.args.below.now.items c.args.frame f _
    (slice_get_read c.args.below.now.items _ c.args.frame f refl c.requires.there c.index_mut-frame.ensures.value) refl
    (ap (locals_of t) whole ∙ c.set_at.ensures.set ∙ ap (λ q. set_at c.args.slot c.args.v (locals_of t q)) c.deref_mut.ensures.value)
