use Rattle.std.proofs.Common.{◌≡◌, ◌++◌, drop, map}
use Rattle.rg_tree.specs.Rows.RowTrees.{classes_of, member_at}
use Rattle.rg_build.specs.ModuleOf.{member_heads}
use Rattle.rg_build.proofs.heads.add_members.Given as goal

abbrev pub invariant-loop-k : goal.invariant-loop-k
invariant-loop-k l =
    let t = l.book.program in
    record l.«module» {
      methods = l.«module».methods ++ member_heads (classes_of t) l.class (map (member_at t) (drop l.k-index l.these));
    } ≡ record l.fn.«module» {
      methods = l.fn.«module».methods ++ member_heads (classes_of t) l.class (map (member_at t) l.these);
    }
