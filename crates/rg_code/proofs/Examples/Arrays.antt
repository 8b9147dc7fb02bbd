-- Arrays: a size, an index on both sides, `size` and what elements start as; and `giving`, in the scope at the end of its block.
use Rattle.std.proofs.Common.{◌≡◌, refl, pos, true, false, [], ◌∷◌, Some, None, codes}
use Rattle.std.specs.Fmt.{digits}
use Rattle.rg_base.specs.declared.value.Word.TheVariants as word
use Rattle.rg_base.specs.declared.words.Cap.TheVariants as cap
use Rattle.rg_base.specs.declared.words.Manager.TheVariants as manager
use Rattle.rg_tree.specs.declared.rows.BinOp.TheVariants as op
use Rattle.rg_tree.specs.Tree.{int, number, binary, size, element, value, new, new_tmp, new_iso, declare, assign_element, enter, print, Tree, stmt}
use Rattle.rg_tree.specs.Tree.{then, empty}
use Rattle.rg_code.specs.Lowering.{lowered}
use Rattle.rg_rules.proofs.Sources.{var, to}
use Rattle.rg_code.proofs.Examples.Words.{field_on, class_on, array_on, program_on, Lists}

abbrev pub cells : Tree
cells = program_on 3
    (array_on 1 "Cells" false int ∷ array_on 2 "Refs" true (to cap.Paused "Cells") ∷ [])
    manager.Trace
    (then (stmt 4 (declare (codes "a") (to cap.Mut "Cells") (new (codes "Cells") (Some (number (pos 3))))))
    (then (stmt 5 (declare (codes "t") (to cap.Tmp "Refs") (new_tmp (codes "Refs") (Some (size (var "a"))))))
    (then (stmt 6 (assign_element (var "a") (number (pos 0)) (value (number (pos 7)))))
    (then (stmt 7 (print (binary op.Add (element (var "a") (number (pos 0))) (size (var "t"))))) empty))))

cells-lists : Lists
    ("class Cells [int];"
    ∷ "tmp class Refs [paused Cells];"
    ∷ "main trace {"
    ∷ "  let a: mut Cells = new Cells [3];"
    ∷ "  let t: tmp Refs = new tmp Refs [size a];"
    ∷ "  a[0] = 7;"
    ∷ "  print a[0] + size t;"
    ∷ "}" ∷ [])
    ("main:"
    ∷ "0 mark 4" ∷ "1 int 3" ∷ "2 newarr 0" ∷ "3 store 0" ∷ "4 pace"
    ∷ "5 mark 5" ∷ "6 load 0" ∷ "7 size" ∷ "8 newtmparr 1" ∷ "9 store 1"
    ∷ "10 mark 6" ∷ "11 load 0" ∷ "12 check" ∷ "13 int 0" ∷ "14 bound" ∷ "15 int 7" ∷ "16 putelem"
    ∷ "17 mark 7" ∷ "18 load 0" ∷ "19 check" ∷ "20 int 0" ∷ "21 bound" ∷ "22 elem" ∷ "23 load 1" ∷ "24 size" ∷ "25 add" ∷ "26 print"
    ∷ "27 mark 3" ∷ "28 end 0" ∷ "29 halt" ∷ [])
    cells
unfolding digits
cells-lists = (refl, refl)

cells-openings : (lowered cells).openings ≡ (word.Int (pos 0) ∷ []) ∷ (word.Nil ∷ []) ∷ []
cells-openings = refl

abbrev pub handing : Tree
handing = program_on 4
    (class_on 1 "N" false (field_on 2 "v" int ∷ []) ∷ [])
    manager.Trace
    (then (stmt 5 (declare (codes "y") (to cap.Iso "N") (new_iso (codes "N") None manager.Trace)))
    (then (stmt 6 (enter (var "y") (codes "z")
    (then (stmt 7 (declare (codes "w") (to cap.Mut "N") (new (codes "N") None))) empty) (Some (codes "w")))) empty))

handing-lists : Lists
    ("class N {"
    ∷ "  v: int;"
    ∷ "}"
    ∷ "main trace {"
    ∷ "  let y: iso N = new iso N in trace;"
    ∷ "  enter y as z {"
    ∷ "    let w: mut N = new N;"
    ∷ "  } giving w;"
    ∷ "}" ∷ [])
    ("main:"
    ∷ "0 mark 5" ∷ "1 newiso 0 trace" ∷ "2 store 0"
    ∷ "3 mark 6" ∷ "4 enter 0 1"
    ∷ "5 mark 7" ∷ "6 new 0" ∷ "7 store 2" ∷ "8 pace"
    ∷ "9 mark 6" ∷ "10 leaveg 2 1"
    ∷ "11 mark 4" ∷ "12 end 0" ∷ "13 halt" ∷ [])
    handing
unfolding digits
handing-lists = (refl, refl)

handing-main_slots : (lowered handing).main_slots ≡ 3
handing-main_slots = refl
