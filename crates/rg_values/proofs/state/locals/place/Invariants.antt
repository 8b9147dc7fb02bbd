use Rattle.std.proofs.Common.{◌≡◌, ◌+◌, drop, option_map}
use Rattle.rg_tree.specs.Rows.Tables.{name_at}
use Rattle.rg_rules.specs.State.{place_in}
use Rattle.rg_values.specs.Shown.{locals_of}
use Rattle.rg_values.proofs.state.locals.place.Given as goal

abbrev pub invariant-loop-i : goal.invariant-loop-i
invariant-loop-i l =
    l.i + place_in (locals_of l.book.program (drop l.i l.locals)) (option_map (name_at l.book.program) l.name)
    ≡ place_in (locals_of l.book.program l.locals) (option_map (name_at l.book.program) l.name)
