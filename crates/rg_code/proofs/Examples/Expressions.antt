-- Expressions: operators, the jumps of `and` and `or`, numbers at the end of their range.
use Rattle.std.proofs.Common.{refl, pos, true, false, [], ◌∷◌, codes}
use Rattle.std.specs.Fmt.{digits}
use Rattle.rg_base.specs.declared.words.Cap.TheVariants as cap
use Rattle.rg_base.specs.declared.words.Manager.TheVariants as manager
use Rattle.rg_tree.specs.declared.rows.BinOp.TheVariants as op
use Rattle.rg_tree.specs.Tree.{int, number, boolean, nil, path, is_nil, neg, not, binary, value, declare, print, Tree, stmt, then, empty}
use Rattle.rg_rules.proofs.Sources.{var, dot, to}
use Rattle.rg_code.proofs.Examples.Words.{field_on, class_on, program_on, Lists}

-- one number is printed; the program stands on one line
abbrev one_number : Tree
one_number = program_on 1 [] manager.Arena (then (stmt 1 (print (number (pos 7)))) empty)

one_number-lists : Lists
    ("main arena {" ∷ "  print 7;" ∷ "}" ∷ [])
    ("main:" ∷ "0 mark 1" ∷ "1 int 7" ∷ "2 print" ∷ "3 mark 1" ∷ "4 end 0" ∷ "5 halt" ∷ [])
    one_number
unfolding digits
one_number-lists = (refl, refl)

-- the right side of `or` is jumped over; the program stands on one line
abbrev one_choice : Tree
one_choice = program_on 1 [] manager.Arena (then (stmt 1 (print (binary op.Or (boolean true) (boolean false)))) empty)

one_choice-lists : Lists
    ("main arena {" ∷ "  print true or false;" ∷ "}" ∷ [])
    ("main:" ∷ "0 mark 1" ∷ "1 bool true" ∷ "2 or 4" ∷ "3 bool false" ∷ "4 print" ∷ "5 mark 1" ∷ "6 end 0" ∷ "7 halt" ∷ [])
    one_choice
unfolding digits
one_choice-lists = (refl, refl)

-- choices that keep nil from being followed, division of negative numbers, a sum past the range
abbrev choices : Tree
choices = program_on 4 (class_on 1 "N" false (field_on 2 "v" int ∷ []) ∷ []) manager.Arena
    (then (stmt 5 (declare (codes "a") (to cap.Mut "N") (value nil)))
    (then (stmt 6 (print (binary op.Or (is_nil (var "a")) (binary op.Eq (path (dot "a" "v")) (number (pos 1))))))
    (then (stmt 7 (print (binary op.And (not (is_nil (var "a"))) (binary op.Eq (path (dot "a" "v")) (number (pos 1))))))
    (then (stmt 8 (print (binary op.Div (neg (number (pos 7))) (number (pos 2)))))
    (then (stmt 9 (print (binary op.Rem (neg (number (pos 7))) (number (pos 2)))))
    (then (stmt 10 (print (binary op.Add (number (pos 9223372036854775807)) (number (pos 1))))) empty))))))

choices-lists : Lists
    ("class N {" ∷ "  v: int;" ∷ "}"
    ∷ "main arena {"
    ∷ "  let a: mut N = nil;"
    ∷ "  print a is nil or a.v == 1;"
    ∷ "  print not a is nil and a.v == 1;"
    ∷ "  print -7 / 2;"
    ∷ "  print -7 % 2;"
    ∷ "  print 9223372036854775807 + 1;"
    ∷ "}" ∷ [])
    ("main:"
    ∷ "0 mark 5" ∷ "1 nil" ∷ "2 store 0"
    ∷ "3 mark 6" ∷ "4 load 0" ∷ "5 isnil" ∷ "6 or 11" ∷ "7 load 0" ∷ "8 field 0" ∷ "9 int 1" ∷ "10 eq" ∷ "11 print"
    ∷ "12 mark 7" ∷ "13 load 0" ∷ "14 isnil" ∷ "15 not" ∷ "16 and 21" ∷ "17 load 0" ∷ "18 field 0" ∷ "19 int 1" ∷ "20 eq" ∷ "21 print"
    ∷ "22 mark 8" ∷ "23 int 7" ∷ "24 neg" ∷ "25 int 2" ∷ "26 div" ∷ "27 print"
    ∷ "28 mark 9" ∷ "29 int 7" ∷ "30 neg" ∷ "31 int 2" ∷ "32 rem" ∷ "33 print"
    ∷ "34 mark 10" ∷ "35 int 9223372036854775807" ∷ "36 int 1" ∷ "37 add" ∷ "38 print"
    ∷ "39 mark 4" ∷ "40 end 0" ∷ "41 halt" ∷ [])
    choices
unfolding digits
choices-lists = (refl, refl)
