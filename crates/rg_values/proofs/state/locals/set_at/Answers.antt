use Rattle.std.proofs.Common.{None, get_or, arith}
use Rattle.std.proofs.lemmas.Option.{slice_get-get_or}
use Rattle.rg_base.specs.declared.ty.Ty.TheVariants.{Int}
use Rattle.rg_base.specs.declared.value.Val.TheVariants.{Nil}
use Rattle.rg_values.specs.declared.state.rows.LocalRow.{LocalRow}
use Rattle.rg_values.proofs.Rows.Local.{set_at-row}
use Rattle.rg_values.proofs.state.locals.set_at.Goals as goal

-- no variable
none : LocalRow
none = record { name = None; ty = Int; value = Nil }

pub returns-then-place-locals-clause-set : goal.returns-then-place-locals-clause-set
unfolding none
returns-then-place-locals-clause-set c =
    set_at-row c.args.book.now.program c.args.locals.now c.args.place c.args.value (get_or c.args.locals.now c.args.place none)
    (slice_get-get_or c.args.locals.now c.args.place none (omega arith))
