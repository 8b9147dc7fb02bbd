use Rattle.std.proofs.Common.{◌≡◌, ◌≤◌, ◌++◌, drop, map, length}
use Rattle.rg_tree.specs.Rows.RowTrees.{classes_of, member_at}
use Rattle.rg_spell.specs.Spelling.{Counted, FitsTy}
use Rattle.rg_build.specs.ModuleOf.{field_types}
use Rattle.rg_build.proofs.classes.fields.Given as goal

abbrev pub invariant-loop-k : goal.invariant-loop-k
invariant-loop-k l =
    let t = l.book.program in
    (l.types ++ field_types (classes_of t) (map (member_at t) (drop l.k-index l.these)) ≡ field_types (classes_of t) (map (member_at t) l.these))
    × (Counted FitsTy l.types × (length l.types ≤ l.k-index))
