use Rattle.std.proofs.Common.{◌≡◌, ◌++◌, codes, drop, map}
use Rattle.std.specs.Prelude.{flat_map}
use Rattle.rg_tree.specs.Canonical.{path_text}
use Rattle.rg_tree.specs.Rows.RowTrees.{path_of}
use Rattle.rg_tree.specs.Rows.Tables.{name_at}
use Rattle.rg_print.proofs.names.write_path.Given as goal

abbrev pub invariant-loop-field : goal.invariant-loop-field
invariant-loop-field l =
    l.out ++ flat_map (λ f. codes "." ++ f) (map (name_at l.program) (drop l.field-index l.field-items))
    ≡ l.fn.out ++ path_text (path_of l.program l.fn.path)
