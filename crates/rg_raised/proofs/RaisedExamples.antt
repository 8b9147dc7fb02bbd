-- Programs raised from their modules again, computed.
use Rattle.std.proofs.Common.{◌≡◌, pos, true, false, List, [], ◌∷◌, Option, Some, None, codes, refl}
use Rattle.std.specs.Fmt.{digits}
use Rattle.rg_base.specs.declared.words.Cap.TheVariants as cap
use Rattle.rg_base.specs.declared.words.Manager.TheVariants as manager
use Rattle.rg_tree.specs.Tree.{Path, Expr, int, bool, ref, number, boolean, path, value, new, result_of, stmt, StmtKind, declare, call, branch}
use Rattle.rg_tree.specs.Tree.{while, print, return, otherwise, Block, empty, then as next, field, method, Tree}
use Rattle.rg_verify_expressions.specs.Raising.{walk, raised}
use Rattle.rg_verify_expressions.specs.Blocks.{block_told}
use Rattle.rg_build.specs.ModuleOf.{module_of}
use Rattle.rg_raised.specs.Told.{program_told}

-- what is raised from the module of a program
abbrev raised_again : Tree → Option Tree
raised_again t = program_told (module_of t)

-- `main arena { print 7; }`
abbrev seven : Tree
seven = record { classes = []; manager = manager.Arena; body = next (stmt 1 (print (number (pos 7)))) empty; line = 1 }

seven-again : raised_again seven ≡ Some seven
unfolding block_told raised walk digits
seven-again = refl

-- statements that stand on line 2
abbrev block : List StmtKind → Block
block [] = empty
block (k ∷ ks) = next (stmt 2 k) (block ks)

-- `v0`, `v1`
abbrev v0 : Path
v0 = record { base = Some (codes "v0"); fields = [] }

abbrev v1 : Path
v1 = record { base = Some (codes "v1"); fields = [] }

-- `self.f0`
abbrev own : Expr
own = path (record { base = None; fields = codes "f0" ∷ [] })

-- a class without members, an array class, and one with a field, a method with a parameter and a result, and one without
abbrev counting : Tree
counting = record {
  classes =
      record { name = codes "c0"; is_tmp = false; element = None; members = []; line = 0 }
      ∷ record { name = codes "c1"; is_tmp = true; element = Some int; members = []; line = 0 }
      ∷ record {
        name = codes "c2";
        is_tmp = false;
        element = None;
        members =
            field (record { name = codes "f0"; ty = int; line = 0 })
            ∷ method (record {
              receiver = cap.Mut;
              name = codes "m0";
              params = record { name = codes "v1"; ty = bool } ∷ [];
              result = Some int;
              body = block
                  (branch (path v1) (block (declare (codes "v2") int (value own) ∷ [])) (otherwise (block (print own ∷ []))) ∷ return own ∷ []);
              line = 0;
            })
            ∷ method (record {
              receiver = cap.Paused;
              name = codes "m1";
              params = [];
              result = None;
              body = block (print own ∷ []);
              line = 7;
            }) ∷ [];
        line = 0;
      } ∷ [];
  manager = manager.Trace;
  body = block
      (declare (codes "v0") (ref cap.Mut (codes "c2")) (new (codes "c2") None)
      ∷ while (boolean true)
      (block (declare (codes "v1") int (result_of (record { target = v0; method = codes "m0"; args = boolean false ∷ [] })) ∷ []))
      ∷ call (record { target = v0; method = codes "m1"; args = [] }) ∷ []);
  line = 9;
}

counting-again : raised_again counting ≡ Some counting
unfolding block_told raised walk digits
counting-again = refl
