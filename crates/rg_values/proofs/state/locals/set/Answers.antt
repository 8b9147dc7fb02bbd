use Rattle.std.proofs.Common.{◌∙◌, ap, option_map}
use Rattle.rg_tree.specs.Rows.Tables.{name_at}
use Rattle.rg_rules.specs.State.{set_at}
use Rattle.rg_values.specs.Shown.{locals_of}
use Rattle.rg_values.proofs.Rows.Local.{set_at-place}
use Rattle.rg_values.proofs.state.locals.set.Goals as goal

pub returns-clause-set : goal.returns-clause-set
returns-clause-set c =
    let t = c.args.book.now.program in
    let ls = locals_of t c.args.locals.now in
    c.set_at.ensures.set ∙ ap (λ k. set_at k c.args.value ls) c.place-k.ensures
    ∙ set_at-place ls (option_map (name_at t) c.args.name) c.args.value
