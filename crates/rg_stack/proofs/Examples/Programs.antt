-- Programs whose code runs in the examples. Each statement has a line of its own.
use Rattle.std.proofs.Common.{ℕ, suc, pos, false, List, [], ◌∷◌, Some, None, codes}
use Prim.Native.String.{String}
use Rattle.rg_base.specs.declared.words.Cap.TheVariants as cap
use Rattle.rg_base.specs.declared.words.Manager.TheVariants as manager
use Rattle.rg_tree.specs.declared.rows.BinOp.TheVariants as op
use Rattle.rg_tree.specs.Tree.{Path, ref, int, Expr, number, path, binary, size, element, Call, value, new, new_iso, freeze, result_of}
use Rattle.rg_tree.specs.Tree.{StmtKind, stmt, declare, assign, assign_element, call, branch, otherwise, while, enter, print, return, Block, empty}
use Rattle.rg_tree.specs.Tree.{then}
use Rattle.rg_tree.specs.Tree.{field, method, Class, Tree}

abbrev var : String → Path
var x = record { base = Some (codes x); fields = [] }

abbrev dot : String → String → Path
dot x f = record { base = Some (codes x); fields = codes f ∷ [] }

-- self.n
abbrev self_n : Path
self_n = record { base = None; fields = codes "n" ∷ [] }

abbrev use_of : String → Expr
use_of x = path (var x)

abbrev whole : ℕ → Expr
whole n = number (pos n)

abbrev call_of : String → String → List Expr → Call
call_of x m args = record { target = var x; method = codes m; args = args }

-- statements on the lines from one on
abbrev lines : ℕ → List StmtKind → Block
lines n [] = empty
lines n (k ∷ ks) = then (stmt n k) (lines (suc n) ks)

-- class C { n: int; down: iso C; def mut add(k: int): int { self.n = self.n + k; return self.n; } def mut rest() { } }
abbrev adder : Class
adder = record {
  name = codes "C";
  is_tmp = false;
  line = 1;
  element = None;
  members = field (record { name = codes "n"; ty = int; line = 1 }) ∷ field (record { name = codes "down"; ty = ref cap.Iso (codes "C"); line = 1 })
      ∷ method (record {
        receiver = cap.Mut;
        name = codes "add";
        params = record { name = codes "k"; ty = int } ∷ [];
        result = Some int;
        body = lines 101 (assign self_n (value (binary op.Add (path self_n) (use_of "k"))) ∷ return (path self_n) ∷ []);
        line = 1;
      })
      ∷ method (record { receiver = cap.Mut; name = codes "rest"; params = []; result = None; body = empty; line = 1 }) ∷ [];
}

-- main arena {
--   let i: int = 0; while i < 2 { i = i + 1; } if i == 2 { print i; } else { print 0; }
--   let y: iso C = new iso C in trace; enter y as z { let s: int = call z.add(5); print s; call z.rest(); }
--   let f: imm C = freeze y; print f.n; print 7 / (f.n - 5); }
abbrev pub all_kinds : Tree
all_kinds = record {
  classes = adder ∷ [];
  manager = manager.Arena;
  line = 1;
  body = lines 2
      (declare (codes "i") int (value (whole 0))
      ∷ while (binary op.Lt (use_of "i") (whole 2)) (lines 30 (assign (var "i") (value (binary op.Add (use_of "i") (whole 1))) ∷ []))
      ∷ branch (binary op.Eq (use_of "i") (whole 2)) (lines 40 (print (use_of "i") ∷ [])) (otherwise (lines 41 (print (whole 0) ∷ [])))
      ∷ declare (codes "y") (ref cap.Iso (codes "C")) (new_iso (codes "C") None manager.Trace)
      ∷ enter (var "y") (codes "z")
      (lines 60 (declare (codes "s") int (result_of (call_of "z" "add" (whole 5 ∷ []))) ∷ print (use_of "s") ∷ call (call_of "z" "rest" []) ∷ []))
      None
      ∷ declare (codes "f") (ref cap.Imm (codes "C")) (freeze (codes "y"))
      ∷ print (path (dot "f" "n"))
      ∷ print (binary op.Div (whole 7) (binary op.Sub (path (dot "f" "n")) (whole 5))) ∷ []);
}

-- main arena { let i: int = 1; print i; }
abbrev pub two_lines : Tree
two_lines = record {
  classes = [];
  manager = manager.Arena;
  line = 1;
  body = lines 1
      (declare (codes "i") int (value (whole 1)) ∷ print (use_of "i") ∷ []);
}

-- class Cells [int]; class N { v: int; }
abbrev cells : Class
cells = record { name = codes "Cells"; is_tmp = false; element = Some int; members = []; line = 1 }

abbrev numbered : Class
numbered = record {
  name = codes "N";
  is_tmp = false;
  element = None;
  members = field (record { name = codes "v"; ty = int; line = 2 }) ∷ [];
  line = 2;
}

-- main trace {
--   let a: mut Cells = new Cells [2]; a[1] = 7; print a[1] + size a;
--   let y: iso N = new iso N in trace; enter y as z { let w: mut N = new N; w.v = 8; } giving w; enter y as z { print z.v; }
--   print a[2]; }
abbrev pub arrays : Tree
arrays = record {
  classes = cells ∷ numbered ∷ [];
  manager = manager.Trace;
  line = 3;
  body = lines 4
      (declare (codes "a") (ref cap.Mut (codes "Cells")) (new (codes "Cells") (Some (whole 2)))
      ∷ assign_element (var "a") (whole 1) (value (whole 7))
      ∷ print (binary op.Add (element (var "a") (whole 1)) (size (var "a")))
      ∷ declare (codes "y") (ref cap.Iso (codes "N")) (new_iso (codes "N") None manager.Trace)
      ∷ enter (var "y") (codes "z")
      (lines 20 (declare (codes "w") (ref cap.Mut (codes "N")) (new (codes "N") None) ∷ assign (dot "w" "v") (value (whole 8)) ∷ []))
      (Some (codes "w"))
      ∷ enter (var "y") (codes "z") (lines 30 (print (path (dot "z" "v")) ∷ [])) None
      ∷ print (element (var "a") (whole 2)) ∷ []);
}
