-- A loop with an `if` that has both blocks, a temporary, `merge`, the input, and an owner that is handed to a call.
use Rattle.std.proofs.Common.{◌≡◌, refl, pos, true, false, [], ◌∷◌, Some, codes, None}
use Rattle.std.specs.Fmt.{digits}
use Rattle.rg_base.specs.declared.words.Cap.TheVariants as cap
use Rattle.rg_base.specs.declared.words.Manager.TheVariants as manager
use Rattle.rg_base.specs.declared.value.Word.TheVariants as word
use Rattle.rg_tree.specs.Tree.{int, bool, is_nil, value, new, new_tmp, new_iso, merge, more, declare, assign, call, branch, otherwise, while}
use Rattle.rg_tree.specs.Tree.{collect, return, Tree, StmtKind, stmt, then, empty}
use Rattle.rg_code.specs.Lowering.{lowered}
use Rattle.rg_rules.proofs.Sources.{var, dot, use_of, to, call_of, param}
use Rattle.rg_code.proofs.Examples.Words.{field_on, method_on, class_on, program_on, Lists}

-- `if y is nil { .. } else { .. }`
abbrev pub choice : StmtKind
choice = branch (is_nil (var "y")) (then (stmt 16 (assign (dot "t" "n") (new (codes "N") None))) empty)
    (otherwise
    (then (stmt 18 (declare (codes "n") (to cap.Mut "N") (merge (codes "y"))))
    (then (stmt 19 (assign (dot "t" "n") (value (use_of "n")))) empty)))

-- `while go { .. }`
abbrev pub loop : StmtKind
loop = while (use_of "go")
    (then (stmt 15 choice)
    (then (stmt 21 (assign (var "y") (new_iso (codes "N") None manager.Trace)))
    (then (stmt 22 (assign (var "go") more)) empty)))

abbrev pub merging : Tree
merging = program_on 10
    (class_on 1 "N" false (field_on 2 "v" int ∷ [])
    ∷ class_on 4 "T" true
    (field_on 5 "n" (to cap.Paused "N")
    ∷ method_on 6 cap.Tmp "take" (param "k" (to cap.Iso "N") ∷ []) (Some (to cap.Iso "N")) (then (stmt 7 (return (use_of "k"))) empty) ∷ []) ∷ [])
    manager.Count
    (then (stmt 11 (declare (codes "t") (to cap.Tmp "T") (new_tmp (codes "T") None)))
    (then (stmt 12 (declare (codes "y") (to cap.Iso "N") (new_iso (codes "N") None manager.Trace)))
    (then (stmt 13 (declare (codes "go") bool more))
    (then (stmt 14 loop)
    (then (stmt 24 (call (call_of (var "t") "take" (use_of "y" ∷ []))))
    (then (stmt 25 collect) empty))))))

merging-lists : Lists
    ("class N {"
    ∷ "  v: int;"
    ∷ "}"
    ∷ "tmp class T {"
    ∷ "  n: paused N;"
    ∷ "  def tmp take(k: iso N): iso N {"
    ∷ "    return k;"
    ∷ "  }"
    ∷ "}"
    ∷ "main count {"
    ∷ "  let t: tmp T = new tmp T;"
    ∷ "  let y: iso N = new iso N in trace;"
    ∷ "  let go: bool = more;"
    ∷ "  while go {"
    ∷ "    if y is nil {"
    ∷ "      t.n = new N;"
    ∷ "    } else {"
    ∷ "      let n: mut N = merge y;"
    ∷ "      t.n = n;"
    ∷ "    }"
    ∷ "    y = new iso N in trace;"
    ∷ "    go = more;"
    ∷ "  }"
    ∷ "  call t.take(y);"
    ∷ "  collect;"
    ∷ "}" ∷ [])
    ("main:"
    ∷ "0 mark 11" ∷ "1 newtmp 1" ∷ "2 store 0"
    ∷ "3 mark 12" ∷ "4 newiso 0 trace" ∷ "5 store 1"
    ∷ "6 mark 13" ∷ "7 more" ∷ "8 store 2"
    ∷ "9 mark 14" ∷ "10 load 2" ∷ "11 jfalse 44"
    ∷ "12 mark 15" ∷ "13 load 1" ∷ "14 isnil" ∷ "15 jfalse 25"
    ∷ "16 mark 16" ∷ "17 load 0" ∷ "18 check" ∷ "19 new 0" ∷ "20 put 0" ∷ "21 pace"
    ∷ "22 mark 15" ∷ "23 end 3" ∷ "24 jump 35"
    ∷ "25 mark 18" ∷ "26 merge 1" ∷ "27 store 3"
    ∷ "28 mark 19" ∷ "29 load 0" ∷ "30 check" ∷ "31 load 3" ∷ "32 put 0"
    ∷ "33 mark 15" ∷ "34 end 3"
    ∷ "35 mark 21" ∷ "36 newiso 0 trace" ∷ "37 own 1"
    ∷ "38 mark 22" ∷ "39 more" ∷ "40 store 2"
    ∷ "41 mark 14" ∷ "42 end 3" ∷ "43 jump 9"
    ∷ "44 mark 24" ∷ "45 load 0" ∷ "46 check" ∷ "47 load 1" ∷ "48 room" ∷ "49 clear 1" ∷ "50 call 0" ∷ "51 drop"
    ∷ "52 mark 25" ∷ "53 collect"
    ∷ "54 mark 10" ∷ "55 end 0" ∷ "56 halt"
    ∷ "T.take:"
    ∷ "57 mark 7" ∷ "58 load 1" ∷ "59 clear 1" ∷ "60 ret" ∷ [])
    merging
unfolding digits
merging-lists = (refl, refl)

merging-entries : (lowered merging).entries ≡ record { at = 57; given = 2; slots = 2 } ∷ []
merging-entries = refl

merging-openings : (lowered merging).openings ≡ (word.Int (pos 0) ∷ []) ∷ (word.Nil ∷ []) ∷ []
merging-openings = refl

merging-main_slots : (lowered merging).main_slots ≡ 4
merging-main_slots = refl
