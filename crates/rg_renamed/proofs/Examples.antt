-- Programs with numbers for names, computed.
use Rattle.std.proofs.Common.{◌≡◌, ℕ, pos, true, false, List, [], ◌∷◌, Some, None, codes, refl}
use Prim.Native.String.{String}
use Rattle.std.specs.Fmt.{digits}
use Rattle.rg_base.specs.declared.words.Cap.TheVariants as cap
use Rattle.rg_base.specs.declared.words.Manager.TheVariants as manager
use Rattle.rg_tree.specs.Tree as tree
use Rattle.rg_tree.specs.Tree.{Path, Param, Field, Method, Block, StmtKind, stmt, then as next, field, method, Tree}
use Rattle.rg_renamed.specs.Renamed.{renamed}

-- statements that all stand on line 2
abbrev in_line : List StmtKind → Block
in_line [] = tree.empty
in_line (k ∷ ks) = next (stmt 2 k) (in_line ks)

abbrev at : String → List (List ℕ) → Path
at x fs = record { base = Some (codes x); fields = fs }

-- `class Pair { .. } main arena { .. }`, with these names: a method stands in front of a field, and blocks that follow each other declare anew
abbrev program : (class first second get more own a b : String) → (members : Method → Field → Field → List tree.Member) → Tree
program class first second get more own a b members = record {
  classes = record {
    name = codes class;
    is_tmp = false;
    element = None;
    members = members
        (record {
          receiver = cap.Mut;
          name = codes get;
          params = record { name = codes more; ty = tree.int } ∷ [];
          result = Some tree.int;
          body = in_line (tree.return (tree.path (record { base = None; fields = codes second ∷ [] })) ∷ []);
          line = 4;
        })
        (record { name = codes first; ty = tree.ref cap.Iso (codes class); line = 5 })
        (record { name = codes second; ty = tree.int; line = 6 });
    line = 3;
  } ∷ [];
  manager = manager.Arena;
  body = in_line (
      tree.declare (codes own) (tree.ref cap.Iso (codes class)) (tree.new_iso (codes class) None manager.Trace)
      ∷ tree.enter (at own []) (codes a) (in_line (
      tree.assign (at a (codes second ∷ [])) (tree.value (tree.number (pos 7)))
      ∷ tree.declare (codes b) tree.int (tree.result_of (record {
        target = at a [];
        method = codes get;
        args = tree.path (at a (codes second ∷ [])) ∷ [];
      })) ∷ [])) None ∷ []);
  line = 9;
}

-- fields come first
its-numbers : renamed (program "Pair" "first" "second" "get" "more" "own" "it" "sum" (λ m f g. method m ∷ field f ∷ field g ∷ []))
    ≡ program "c0" "f0" "f1" "m0" "v1" "v0" "v1" "v2" (λ m f g. field f ∷ field g ∷ method m ∷ [])
unfolding digits
its-numbers = refl

-- an array class, and names that are those of other numbers
abbrev swapped : (array : String) → (class : String) → (x y : String) → Tree
swapped array class x y = record {
  classes = record { name = codes array; is_tmp = false; element = Some (tree.ref cap.Mut (codes class)); members = []; line = 1 }
      ∷ record { name = codes class; is_tmp = false; element = None; members = []; line = 2 } ∷ [];
  manager = manager.Count;
  body = in_line (
      tree.branch (tree.boolean true) (in_line (tree.declare (codes x) tree.int (tree.value (tree.number (pos 1))) ∷ []))
      (tree.otherwise (in_line (tree.declare (codes y) tree.bool tree.more ∷ tree.print (tree.path (at y [])) ∷ []))) ∷ []);
  line = 3;
}

its-own-numbers : renamed (swapped "c1" "c0" "v1" "v3") ≡ swapped "c0" "c1" "v0" "v0"
unfolding digits
its-own-numbers = refl
