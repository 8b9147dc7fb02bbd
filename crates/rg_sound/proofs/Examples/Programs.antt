-- Two programs whose runs the examples follow. Each statement has a line of its own.
use Rattle.std.proofs.Common.{ℕ, suc, pos, true, false, List, [], ◌∷◌, Some, None, codes, Option}
use Prim.Native.String.{String}
use Rattle.rg_base.specs.declared.words.Cap.{Cap}
use Rattle.rg_base.specs.declared.words.Cap.TheVariants as cap
use Rattle.rg_base.specs.declared.words.Manager.TheVariants as manager
use Rattle.rg_tree.specs.declared.rows.BinOp.TheVariants as op
use Rattle.rg_tree.specs.Tree.{Ty, int, number, is_nil, binary, value, new, new_tmp, new_iso, freeze, merge, result_of}
use Rattle.rg_tree.specs.Tree.{StmtKind, stmt, declare, assign, call, swap, branch, no_else, while, enter, print, return, Block, empty, then}
use Rattle.rg_tree.specs.Tree.{Param, Member, method, Class, Tree}
use Rattle.rg_rules.proofs.Sources.{var, dot, self_dot, use_of, to, call_of, field_named, param}

-- statements on the lines from one on
abbrev pub lines : ℕ → List StmtKind → Block
lines n [] = empty
lines n (k ∷ ks) = then (stmt n k) (lines (suc n) ks)

abbrev pub class_named : String → List Member → Class
class_named c members = record { name = codes c; is_tmp = false; element = None; members = members; line = 1 }

abbrev pub tmp_class : String → List Member → Class
tmp_class c members = record { name = codes c; is_tmp = true; element = None; members = members; line = 1 }

abbrev pub method_named : Cap → String → List Param → Option Ty → Block → Member
method_named k m ps r body = method (record { receiver = k; name = codes m; params = ps; result = r; body = body; line = 1 })

-- class N { v: int; next: mut N; down: iso N; def mut go(y: iso N): iso N { self.v = 1; return y; } def mut put() { self.v = 2; } }
abbrev node : Class
node = class_named "N" (field_named "v" int ∷ field_named "next" (to cap.Mut "N") ∷ field_named "down" (to cap.Iso "N")
    ∷ method_named cap.Mut "go" (param "y" (to cap.Iso "N") ∷ []) (Some (to cap.Iso "N"))
    (lines 101 (assign (self_dot "v") (value (number (pos 1))) ∷ return (use_of "y") ∷ []))
    ∷ method_named cap.Mut "put" [] None (lines 201 (assign (self_dot "v") (value (number (pos 2))) ∷ [])) ∷ [])

-- tmp class T { p: paused N; m: mut N; y: iso N; t: tmp T; }
abbrev temp : Class
temp = tmp_class "T" (field_named "p" (to cap.Paused "N") ∷ field_named "m" (to cap.Mut "N") ∷ field_named "y" (to cap.Iso "N")
    ∷ field_named "t" (to cap.Tmp "T") ∷ [])

-- windows in windows, calls, swaps, temporaries, freeze and merge
abbrev pub all_kinds : Tree
all_kinds = record {
  classes = node ∷ temp ∷ [];
  manager = manager.Arena;
  line = 1;
  body = lines 2
      (declare (codes "a") (to cap.Mut "N") (new (codes "N") None)
      ∷ declare (codes "x") (to cap.Iso "N") (new_iso (codes "N") None manager.Trace)
      ∷ declare (codes "y") (to cap.Iso "N") (new_iso (codes "N") None manager.Count)
      ∷ swap (codes "y") (dot "a" "down")
      ∷ assign (var "x") (result_of (call_of (var "a") "go" (use_of "x" ∷ [])))
      ∷ enter (var "x") (codes "z") (lines 20
      (declare (codes "t") (to cap.Tmp "T") (new_tmp (codes "T") None)
      ∷ assign (dot "t" "p") (value (use_of "a"))
      ∷ assign (dot "t" "m") (value (use_of "z"))
      ∷ declare (codes "w") (to cap.Iso "N") (new_iso (codes "N") None manager.Arena)
      ∷ swap (codes "w") (dot "z" "down")
      ∷ enter (dot "z" "down") (codes "u") (lines 40
      (assign (dot "u" "v") (value (number (pos 3)))
      ∷ call (call_of (var "u") "put" []) ∷ [])) None
      ∷ declare (codes "q") (to cap.Iso "N") (new_iso (codes "N") None manager.Arena)
      ∷ swap (codes "q") (dot "t" "y") ∷ [])) None
      ∷ declare (codes "k") int (value (number (pos 0)))
      ∷ while (binary op.Lt (use_of "k") (number (pos 2))) (lines 60
      (branch (is_nil (var "y")) (lines 70 (assign (var "k") (value (binary op.Add (use_of "k") (number (pos 1)))) ∷ [])) no_else ∷ []))
      ∷ declare (codes "i") (to cap.Imm "N") (freeze (codes "x"))
      ∷ declare (codes "n") (to cap.Iso "N") (new_iso (codes "N") None manager.Arena)
      ∷ declare (codes "b") (to cap.Mut "N") (merge (codes "n"))
      ∷ assign (dot "a" "next") (value (use_of "b")) ∷ print (use_of "k") ∷ []);
}

-- class D { v: int; next: mut D; down: iso D;
--   def mut dig() { let d: iso D = new iso D in arena; swap d, self.down; enter self.down as u { u.v = 1; } } }
abbrev digger : Class
digger = class_named "D" (field_named "v" int ∷ field_named "next" (to cap.Mut "D") ∷ field_named "down" (to cap.Iso "D")
    ∷ method_named cap.Mut "dig" [] None (lines 101
    (declare (codes "d") (to cap.Iso "D") (new_iso (codes "D") None manager.Arena)
    ∷ swap (codes "d") (self_dot "down")
    ∷ enter (self_dot "down") (codes "u") (lines 110 (assign (dot "u" "v") (value (number (pos 1))) ∷ [])) None ∷ [])) ∷ [])

-- tmp class T { }
abbrev mark : Class
mark = tmp_class "T" []

-- main arena { let k: int = 0; let a: mut D = new D; let y: iso D = new iso D in trace;
--   enter y as z { k = 1; z.v = 3; let t: tmp T = new tmp T; let n: iso D = new iso D in arena; let b: mut D = merge n; z.next = b; call z.dig(); }
--   let i: imm D = freeze y; }
abbrev pub inner : Tree
inner = record {
  classes = digger ∷ mark ∷ [];
  manager = manager.Arena;
  line = 1;
  body = lines 2
      (declare (codes "k") int (value (number (pos 0)))
      ∷ declare (codes "a") (to cap.Mut "D") (new (codes "D") None)
      ∷ declare (codes "y") (to cap.Iso "D") (new_iso (codes "D") None manager.Trace)
      ∷ enter (var "y") (codes "z") (lines 20
      (assign (var "k") (value (number (pos 1)))
      ∷ assign (dot "z" "v") (value (number (pos 3)))
      ∷ declare (codes "t") (to cap.Tmp "T") (new_tmp (codes "T") None)
      ∷ declare (codes "n") (to cap.Iso "D") (new_iso (codes "D") None manager.Arena)
      ∷ declare (codes "b") (to cap.Mut "D") (merge (codes "n"))
      ∷ assign (dot "z" "next") (value (use_of "b"))
      ∷ call (call_of (var "z") "dig" []) ∷ [])) None
      ∷ declare (codes "i") (to cap.Imm "D") (freeze (codes "y")) ∷ []);
}
