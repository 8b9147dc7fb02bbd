-- Regions: `enter` of a variable and of a field, `swap`, `freeze`, what is used up and what is released; calls on the way.
use Rattle.std.proofs.Common.{◌≡◌, refl, pos, false, [], ◌∷◌, Some, None, codes}
use Rattle.std.specs.Fmt.{digits}
use Rattle.rg_base.specs.declared.words.Cap.TheVariants as cap
use Rattle.rg_base.specs.declared.words.Manager.TheVariants as manager
use Rattle.rg_base.specs.declared.value.Word.TheVariants as word
use Rattle.rg_tree.specs.Tree.{int, number, path, value, new_iso, freeze, declare, assign, call, swap, enter, print, return, Tree, stmt, then, empty}
use Rattle.rg_code.specs.Lowering.{lowered}
use Rattle.rg_rules.proofs.Sources.{self_dot, var, dot, dots, use_of, to, call_of, param}
use Rattle.rg_code.proofs.Examples.Words.{field_on, method_on, class_on, program_on, Lists}

abbrev pub regions : Tree
regions = program_on 11
    (class_on 1 "N" false
    (field_on 2 "v" int
    ∷ field_on 3 "down" (to cap.Iso "N")
    ∷ method_on 4 cap.Mut "set" (param "k" int ∷ []) None (then (stmt 5 (assign (self_dot "v") (value (use_of "k")))) empty)
    ∷ method_on 7 cap.Paused "get" [] (Some int) (then (stmt 8 (return (path (self_dot "v")))) empty) ∷ []) ∷ [])
    manager.Trace
    (then (stmt 12 (declare (codes "y") (to cap.Iso "N") (new_iso (codes "N") None manager.Arena)))
    (then (stmt 13 (declare (codes "w") (to cap.Iso "N") (new_iso (codes "N") None manager.Count)))
    (then (stmt 14 (enter (var "y") (codes "z")
    (then (stmt 15 (swap (codes "w") (dot "z" "down")))
    (then (stmt 16 (call (call_of (var "z") "set" (number (pos 4) ∷ []))))
    (then (stmt 17 (enter (dot "z" "down") (codes "q") (then (stmt 18 (call (call_of (var "q") "get" []))) empty) None)) empty))) None))
    (then (stmt 21 (assign (var "w") (value (use_of "y"))))
    (then (stmt 22 (declare (codes "f") (to cap.Imm "N") (freeze (codes "w"))))
    (then (stmt 23 (print (path (dots "f" "down" "v")))) empty))))))

regions-lists : Lists
    ("class N {"
    ∷ "  v: int;"
    ∷ "  down: iso N;"
    ∷ "  def mut set(k: int) {"
    ∷ "    self.v = k;"
    ∷ "  }"
    ∷ "  def paused get(): int {"
    ∷ "    return self.v;"
    ∷ "  }"
    ∷ "}"
    ∷ "main trace {"
    ∷ "  let y: iso N = new iso N in arena;"
    ∷ "  let w: iso N = new iso N in count;"
    ∷ "  enter y as z {"
    ∷ "    swap w, z.down;"
    ∷ "    call z.set(4);"
    ∷ "    enter z.down as q {"
    ∷ "      call q.get();"
    ∷ "    }"
    ∷ "  }"
    ∷ "  w = y;"
    ∷ "  let f: imm N = freeze w;"
    ∷ "  print f.down.v;"
    ∷ "}" ∷ [])
    ("main:"
    ∷ "0 mark 12" ∷ "1 newiso 0 arena" ∷ "2 store 0"
    ∷ "3 mark 13" ∷ "4 newiso 0 count" ∷ "5 store 1"
    ∷ "6 mark 14" ∷ "7 enter 0 2"
    ∷ "8 mark 15" ∷ "9 load 2" ∷ "10 check" ∷ "11 swap 1 1"
    ∷ "12 mark 16" ∷ "13 load 2" ∷ "14 check" ∷ "15 int 4" ∷ "16 room" ∷ "17 call 0"
    ∷ "18 mark 17" ∷ "19 load 2" ∷ "20 enterf 1 3"
    ∷ "21 mark 18" ∷ "22 load 3" ∷ "23 check" ∷ "24 room" ∷ "25 call 1" ∷ "26 pop"
    ∷ "27 mark 17" ∷ "28 leave 3"
    ∷ "29 mark 14" ∷ "30 leave 2"
    ∷ "31 mark 21" ∷ "32 load 0" ∷ "33 clear 0" ∷ "34 own 1"
    ∷ "35 mark 22" ∷ "36 freeze 1" ∷ "37 store 2"
    ∷ "38 mark 23" ∷ "39 load 2" ∷ "40 field 1" ∷ "41 field 0" ∷ "42 print"
    ∷ "43 mark 11" ∷ "44 end 0" ∷ "45 halt"
    ∷ "N.set:"
    ∷ "46 mark 5" ∷ "47 load 0" ∷ "48 check" ∷ "49 load 1" ∷ "50 put 0"
    ∷ "51 mark 4" ∷ "52 retv"
    ∷ "N.get:"
    ∷ "53 mark 8" ∷ "54 load 0" ∷ "55 field 0" ∷ "56 ret" ∷ [])
    regions
unfolding digits
regions-lists = (refl, refl)

regions-entries : (lowered regions).entries ≡ record { at = 46; given = 2; slots = 2 } ∷ record { at = 53; given = 1; slots = 1 } ∷ []
regions-entries = refl

-- numbers start as 0, references as nil
regions-openings : (lowered regions).openings ≡ (word.Int (pos 0) ∷ word.Nil ∷ []) ∷ []
regions-openings = refl

-- the slots of `z` and `f` are one; `q` has the fourth
regions-main_slots : (lowered regions).main_slots ≡ 4
regions-main_slots = refl
