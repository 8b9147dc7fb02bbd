use Rattle.std.proofs.Common.{◌≡◌, map, drop}
use Rattle.rg_tree.specs.Rows.RowTrees.{classes_of}
use Rattle.rg_code.specs.Listing.{headings, method_names}
use Rattle.rg_code.specs.Inner.Headings.{shown, with_headings}
use Rattle.rg_code.proofs.headings.headings.Given as goal

-- the headings so far with those of the classes that are left are all headings
abbrev pub invariant-loop-i : goal.invariant-loop-i
invariant-loop-i l =
    with_headings l.fn.entries (map shown l.all.items) (method_names (drop l.i (classes_of l.program)))
    ≡ headings l.fn.entries (method_names (classes_of l.program))
