-- A method that calls itself: its heading, its entry, results that are taken, and the end of a block in it.
use Rattle.std.proofs.Common.{◌≡◌, refl, pos, false, [], ◌∷◌, Some, codes, None}
use Rattle.std.specs.Fmt.{digits}
use Rattle.rg_base.specs.declared.words.Cap.TheVariants as cap
use Rattle.rg_base.specs.declared.words.Manager.TheVariants as manager
use Rattle.rg_tree.specs.declared.rows.BinOp.TheVariants as op
use Rattle.rg_tree.specs.Tree.{int, number, binary, value, new, read, result_of, declare, assign, branch, no_else}
use Rattle.rg_tree.specs.Tree.{print, return, Tree, stmt, then, empty}
use Rattle.rg_code.specs.Lowering.{lowered}
use Rattle.rg_rules.proofs.Sources.{self, var, use_of, to, call_of, param}
use Rattle.rg_code.proofs.Examples.Words.{method_on, class_on, program_on, Lists}

abbrev pub recursion : Tree
recursion = program_on 10
    (class_on 1 "R" false
    (method_on 2 cap.Mut "go" (param "k" int ∷ []) (Some int)
    (then (stmt 3 (declare (codes "r") int (value (use_of "k"))))
    (then (stmt 4 (branch (binary op.Gt (use_of "k") (number (pos 0)))
    (then (stmt 5 (assign (var "r") (result_of (call_of self "go" (binary op.Sub (use_of "k") (number (pos 1)) ∷ []))))) empty) no_else))
    (then (stmt 7 (return (use_of "r"))) empty))) ∷ []) ∷ [])
    manager.Trace
    (then (stmt 11 (declare (codes "a") (to cap.Mut "R") (new (codes "R") None)))
    (then (stmt 12 (declare (codes "n") int read))
    (then (stmt 13 (declare (codes "r") int (result_of (call_of (var "a") "go" (use_of "n" ∷ [])))))
    (then (stmt 14 (print (use_of "r"))) empty))))

recursion-lists : Lists
    ("class R {"
    ∷ "  def mut go(k: int): int {"
    ∷ "    let r: int = k;"
    ∷ "    if k > 0 {"
    ∷ "      r = call self.go(k - 1);"
    ∷ "    }"
    ∷ "    return r;"
    ∷ "  }"
    ∷ "}"
    ∷ "main trace {"
    ∷ "  let a: mut R = new R;"
    ∷ "  let n: int = read;"
    ∷ "  let r: int = call a.go(n);"
    ∷ "  print r;"
    ∷ "}" ∷ [])
    ("main:"
    ∷ "0 mark 11" ∷ "1 new 0" ∷ "2 store 0" ∷ "3 pace"
    ∷ "4 mark 12" ∷ "5 read" ∷ "6 store 1"
    ∷ "7 mark 13" ∷ "8 load 0" ∷ "9 check" ∷ "10 load 1" ∷ "11 room" ∷ "12 call 0" ∷ "13 store 2"
    ∷ "14 mark 14" ∷ "15 load 2" ∷ "16 print"
    ∷ "17 mark 10" ∷ "18 end 0" ∷ "19 halt"
    ∷ "R.go:"
    ∷ "20 mark 3" ∷ "21 load 1" ∷ "22 store 2"
    ∷ "23 mark 4" ∷ "24 load 1" ∷ "25 int 0" ∷ "26 gt" ∷ "27 jfalse 39"
    ∷ "28 mark 5" ∷ "29 load 0" ∷ "30 check" ∷ "31 load 1" ∷ "32 int 1" ∷ "33 sub" ∷ "34 room" ∷ "35 call 0" ∷ "36 store 2"
    ∷ "37 mark 4" ∷ "38 end 3"
    ∷ "39 mark 7" ∷ "40 load 2" ∷ "41 ret" ∷ [])
    recursion
unfolding digits
recursion-lists = (refl, refl)

-- `self` and `k` are given, and `r` has a slot of its own
recursion-entries : (lowered recursion).entries ≡ record { at = 20; given = 2; slots = 3 } ∷ []
recursion-entries = refl

recursion-main_slots : (lowered recursion).main_slots ≡ 3
recursion-main_slots = refl
