-- Programs and their canonical texts, computed.
use Rattle.std.proofs.Common.{◌≡◌, ℕ, pos, false, List, [], ◌∷◌, ◌++◌, Some, None, codes, flat_map, refl}
use Rattle.std.specs.Fmt.{digits}
use Rattle.rg_tree.specs.declared.rows.BinOp.TheVariants.{Or, And, Eq, Add, Sub, Mul}
use Rattle.rg_base.specs.declared.words.Cap.TheVariants.{Mut, Imm, Iso}
use Rattle.rg_base.specs.declared.words.Manager.TheVariants.{Arena, Count, Trace}
use Rattle.rg_tree.specs.Tree.{Name, Path, int, ref, Expr, number, path, is_nil, neg, not, binary, size, element, value, new, new_iso, freeze, stmt}
use Rattle.rg_tree.specs.Tree.{declare, assign, call, branch, enter, print, collect, otherwise, empty, then, field, method, Tree}
use Rattle.rg_tree.specs.Canonical.{canon, expr_text}

-- lines, each with its end
abbrev pub lines : List (List ℕ) → List ℕ
lines ls = flat_map (λ l. l ++ 10 ∷ []) ls

-- a path from a variable
abbrev from : Name → List Name → Path
from x fs = record { base = Some x; fields = fs }

-- a path from self
abbrev own : List Name → Path
own fs = record { base = None; fields = fs }

-- a number
abbrev num : ℕ → Expr
num n = number (pos n)

-- main arena{print (1+2)*3-(4);}//c
abbrev pub prints_a_difference : Tree
prints_a_difference = record {
  classes = [];
  manager = Arena;
  line = 1;
  body = then (stmt 1 (print (binary Sub (binary Mul (binary Add (num 1) (num 2)) (num 3)) (num 4)))) empty;
}

difference-text : canon prints_a_difference ≡ lines (codes "main arena {" ∷ codes "  print (1 + 2) * 3 - 4;" ∷ codes "}" ∷ [])
unfolding digits
difference-text = refl

-- class A{x:int;}main count{if not 1==2{}else{print - (1);}}
abbrev pub tests_an_inequality : Tree
tests_an_inequality = record {
  classes =
      record {
        name = codes "A";
        is_tmp = false;
        element = None;
        members = field (record { name = codes "x"; ty = int; line = 1 }) ∷ [];
        line = 1;
      } ∷ [];
  manager = Count;
  line = 1;
  body = then (stmt 1 (branch (not (binary Eq (num 1) (num 2))) empty (otherwise (then (stmt 1 (print (neg (num 1)))) empty)))) empty;
}

inequality-text : canon tests_an_inequality ≡
    lines (codes "class A {" ∷ codes "  x: int;" ∷ codes "}" ∷ codes "main count {" ∷ codes "  if not 1 == 2 {" ∷ codes "  } else {"
    ∷ codes "    print -1;" ∷ codes "  }" ∷ codes "}" ∷ [])
unfolding digits
inequality-text = refl

-- the list of nodes that is made in a region, filled in a window and frozen
abbrev pub fills_a_list : Tree
fills_a_list = record {
  classes =
      record {
        name = codes "Node";
        is_tmp = false;
        element = None;
        line = 1;
        members =
            field (record { name = codes "value"; ty = int; line = 1 })
            ∷ field (record { name = codes "next"; ty = ref Mut (codes "Node"); line = 1 }) ∷ [];
      }
      ∷ record {
        name = codes "List";
        is_tmp = false;
        element = None;
        line = 2;
        members =
            field (record { name = codes "head"; ty = ref Mut (codes "Node"); line = 3 })
            ∷ method (record {
              receiver = Mut;
              name = codes "push";
              params = record { name = codes "v"; ty = int } ∷ [];
              result = None;
              line = 4;
              body =
                  then (stmt 5 (declare (codes "n") (ref Mut (codes "Node")) (new (codes "Node") None)))
                  (then (stmt 6 (assign (from (codes "n") (codes "value" ∷ [])) (value (path (from (codes "v") [])))))
                  (then (stmt 7 (assign (from (codes "n") (codes "next" ∷ [])) (value (path (own (codes "head" ∷ []))))))
                  (then (stmt 8 (assign (own (codes "head" ∷ [])) (value (path (from (codes "n") []))))) empty)));
            }) ∷ [];
      }
      ∷ [];
  manager = Arena;
  line = 11;
  body =
      then (stmt 12 (declare (codes "box") (ref Iso (codes "List")) (new_iso (codes "List") None Trace)))
      (then (stmt 13 (enter (from (codes "box") []) (codes "l")
      (then (stmt 13 (call (record { target = from (codes "l") []; method = codes "push"; args = num 3 ∷ [] })))
      (then (stmt 13 collect) empty)) None))
      (then (stmt 14 (declare (codes "f") (ref Imm (codes "List")) (freeze (codes "box"))))
      (then (stmt 15 (print (path (from (codes "f") (codes "head" ∷ codes "value" ∷ []))))) empty)));
}

list-text : canon fills_a_list ≡ lines
    (codes "class Node {" ∷ codes "  value: int;" ∷ codes "  next: mut Node;" ∷ codes "}" ∷ codes "class List {" ∷ codes "  head: mut Node;"
    ∷ codes "  def mut push(v: int) {" ∷ codes "    let n: mut Node = new Node;" ∷ codes "    n.value = v;"
    ∷ codes "    n.next = self.head;" ∷ codes "    self.head = n;"
    ∷ codes "  }" ∷ codes "}" ∷ codes "main arena {" ∷ codes "  let box: iso List = new iso List in trace;" ∷ codes "  enter box as l {"
    ∷ codes "    call l.push(3);"
    ∷ codes "    collect;" ∷ codes "  }" ∷ codes "  let f: imm List = freeze box;" ∷ codes "  print f.head.value;" ∷ codes "}" ∷ [])
unfolding digits
list-text = refl

-- Parentheses stand where the grammar can't take an operand bare, and nowhere else.

-- a variable
abbrev var : Name → Expr
var x = path (from x [])

sum_on_the_right : expr_text (binary Sub (var (codes "a")) (binary Sub (var (codes "b")) (var (codes "c")))) ≡ codes "a - (b - c)"
sum_on_the_right = refl

sum_on_the_left : expr_text (binary Sub (binary Sub (var (codes "a")) (var (codes "b"))) (var (codes "c"))) ≡ codes "a - b - c"
sum_on_the_left = refl

comparison_of_comparison : expr_text (binary Eq (binary Eq (var (codes "a")) (var (codes "b"))) (var (codes "c"))) ≡ codes "(a == b) == c"
comparison_of_comparison = refl

not_of_not : expr_text (not (not (is_nil (from (codes "a") (codes "f" ∷ []))))) ≡ codes "not (not a.f is nil)"
not_of_not = refl

not_of_and : expr_text (binary And (not (var (codes "a"))) (not (binary And (var (codes "b")) (var (codes "c"))))) ≡ codes "not a and not (b and c)"
not_of_and = refl

minus_of_product : expr_text (neg (binary Mul (neg (var (codes "a"))) (neg (neg (var (codes "b")))))) ≡ codes "-(-a * -(-b))"
minus_of_product = refl

or_of_ands : expr_text
    (binary And (binary Or (var (codes "a")) (var (codes "b")))
    (binary Or (var (codes "b")) (binary And (var (codes "a")) (var (codes "c"))))) ≡ codes "(a or b) and (b or a and c)"
or_of_ands = refl

minus_of_size : expr_text (neg (size (own (codes "r" ∷ [])))) ≡ codes "-size self.r"
minus_of_size = refl

element_at_a_sum : expr_text (binary Mul (element (from (codes "a") (codes "r" ∷ [])) (binary Add (size (from (codes "b") []))
    (element (from (codes "b") []) (var (codes "i"))))) (var (codes "k"))) ≡ codes "a.r[size b + b[i]] * k"
element_at_a_sum = refl
