use Rattle.std.proofs.Common.{◌≡◌, ◌++◌, drop, map}
use Rattle.rg_tree.specs.Tree.{Param}
use Rattle.rg_tree.specs.Rows.RowTrees.{classes_of, param_at}
use Rattle.rg_rules.specs.Types.{type_of}
use Rattle.rg_build.proofs.heads.params.Given as goal

abbrev pub invariant-loop-k : goal.invariant-loop-k
invariant-loop-k l =
    let t = l.book.program in
    l.types ++ map (λ (p : Param). type_of (classes_of t) p.ty) (map (param_at t) (drop l.k-index l.these))
    ≡ map (λ (p : Param). type_of (classes_of t) p.ty) (map (param_at t) l.these)
