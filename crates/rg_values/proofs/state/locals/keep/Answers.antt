use Rattle.std.proofs.Common.{◌∙◌, sym, ap}
use Rattle.std.proofs.lemmas.List.{take-map}
use Rattle.rg_values.specs.Shown.{local_of, locals_of}
use Rattle.rg_values.proofs.state.locals.keep.Goals as goal

pub returns-clause-kept : goal.returns-clause-kept
returns-clause-kept c =
    ap (locals_of c.args.book.now.program) c.truncate.ensures.items ∙ sym (take-map (local_of c.args.book.now.program) c.args.kept
    c.args.locals.now.items)
