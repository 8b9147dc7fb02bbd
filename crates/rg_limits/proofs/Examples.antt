-- Worked examples of the limits: a small program inside, and one past each.
use Rattle.std.proofs.Common.{◌≡◌, refl, ℕ, zero, suc, ◌+◌, pos, negsuc, [], ◌∷◌, ◌++◌, codes, replicate, Some, None, true, false, arith}
use Rattle.rg_base.specs.declared.limits.TheConstants.{BRACKETS}
use Rattle.rg_base.specs.declared.words.Cap.TheVariants.{Mut}
use Rattle.rg_base.specs.declared.words.Manager.TheVariants.{Arena}
use Rattle.rg_tree.specs.declared.rows.BinOp.TheVariants.{Or, And, Eq, Add, Mul}
use Rattle.rg_tree.specs.Tree.{Expr, number, boolean, neg, not, binary, element, is_nil, int, value, stmt, declare}
use Rattle.rg_tree.specs.Tree.{assign_element, call, while, enter, print, Block, empty, then as next, Param, method, Class, Tree, Path}
use Rattle.rg_tree.specs.Canonical.{canon}
use Rattle.rg_rules.specs.Names.{block_names}
use Rattle.rg_limits.specs.Parts.{HasFewMembers}
use Rattle.rg_limits.specs.Depth.{block_levels}
use Rattle.rg_limits.specs.Each.{own_exprs}
use Rattle.rg_limits.specs.Signs.{expr_signs, exprs_signs, HasFewSigns}
use Rattle.rg_limits.specs.Numbers.{HasSmall}
use Rattle.rg_limits.specs.Brackets.{most_open}
use Rattle.rg_limits.specs.Opens.{expr_opens, tree_opens}
use Rattle.rg_limits.specs.Bare.{IsBareTree}

abbrev one : Expr
one = number (pos 1)

abbrev x : Path
x = record { base = Some (codes "x"); fields = [] }

-- a program with this body of main
abbrev main : Block → Tree
main b = record { classes = []; manager = Arena; body = b; line = 1 }

-- Signs: those of two operands count, wherever they stand; `not`, `is`, and a minus of one operand don't.

two_signs : expr_signs (binary And (not (is_nil x)) (neg (binary Add one one))) ≡ 2
two_signs = refl

an_index_counts : exprs_signs (own_exprs (assign_element x (binary Mul one one) (value (binary Eq one one)))) ≡ 2
an_index_counts = refl

-- those of a block's statements are theirs
a_block_is_apart : exprs_signs (own_exprs (while (binary Or (boolean true) (boolean false)) (next (stmt 2 (print (binary Add one one))) empty))) ≡ 1
a_block_is_apart = refl

arguments_count : exprs_signs (own_exprs (call (record { target = x; method = codes "m"; args = binary Add one one ∷ binary Add one one ∷ [] }))) ≡ 2
arguments_count = refl

-- a sum with so many signs
abbrev sum : ℕ → Expr
sum zero = one
sum (suc n) = binary Add (sum n) one

as_many_as_may_be : HasFewSigns (main (next (stmt 1 (print (sum 512))) empty))
as_many_as_may_be = record { methods = λ k d l. absurd (omega arith); main = ((omega arith, tt), tt) }

one_too_many : HasFewSigns (main (next (stmt 1 (print (sum 513))) empty)) → ⊥
one_too_many h = omega (arith, h.main.0.0)

-- Numbers

the_least_is_too_small : HasSmall (number (negsuc 9223372036854775807)) → ⊥
the_least_is_too_small h = omega (arith, h)

the_next_is_not : HasSmall (number (negsuc 9223372036854775806))
the_next_is_not = omega arith

-- Brackets: those of blocks, parentheses and indices are open together.

three_open : most_open (codes "{(a[b]+c)}()") ≡ 3
three_open = refl

-- `main arena { print (true or true) * x[true]; }`
abbrev in_a_text : Block
in_a_text = next (stmt 1 (print (binary Mul (binary Or (boolean true) (boolean true)) (element x (boolean true))))) empty

two_open : most_open (canon (main in_a_text)) ≡ 2
two_open = refl

two_by_parts : tree_opens (main in_a_text) ≡ 2
two_by_parts = refl

-- so many blocks in one another
abbrev nested : ℕ → Block
nested zero = empty
nested (suc n) = next (stmt 1 (while (boolean true) (nested n))) empty

a_block_opens_one : most_open (canon (main (nested 2))) ≡ 3
a_block_opens_one = refl

as_many_blocks_as_may_be : tree_opens (main (nested 63)) ≡ BRACKETS
as_many_blocks_as_may_be = refl

-- `not`s in one another: the first stands bare
abbrev nots : ℕ → Expr
nots zero = boolean true
nots (suc n) = not (nots n)

sixty_four_nots : expr_opens (nots 64) ≡ 63
sixty_four_nots = refl

-- so main's braces, and these parentheses, are as many as may be, and one more is too many
as_many_nots_as_may_be : tree_opens (main (next (stmt 1 (print (nots 64))) empty)) ≡ BRACKETS
as_many_nots_as_may_be = refl

one_not_too_many : tree_opens (main (next (stmt 1 (print (nots 65))) empty)) ≡ BRACKETS + 1
one_not_too_many = refl

-- `not` and `-` in turn, 1 + 1 * 1, and (1 + 1) * 1
a_minus_is_bare : expr_opens (not (neg one)) ≡ 0
a_minus_is_bare = refl

bare_product : expr_opens (binary Add one (binary Mul one one)) ≡ 0
bare_product = refl

sum_in_parentheses : expr_opens (binary Mul (binary Add one one) one) ≡ 1
sum_in_parentheses = refl

as_many_open_as_may_be : most_open (replicate 64 40) ≡ BRACKETS
as_many_open_as_may_be = refl

one_open_too_many : most_open (replicate 32 40 ++ replicate 33 123) ≡ BRACKETS + 1
one_open_too_many = refl

its_depth : block_levels (nested 64) ≡ BRACKETS + 1
its_depth = refl

-- Names: those of `let` and `enter` count, in blocks too.
names_of_a_body : block_names (next (stmt 1 (declare (codes "a") int (value one))) (next (stmt 2 (enter x (codes "b") (next (stmt 3 (declare (codes
    "c") int (value one))) empty) None)) empty)) ≡ 3
names_of_a_body = refl

-- Classes: those of `class a [int];`, and those of `class b { def mut m() { .. } }`.

abbrev with_class : Block → Tree
with_class body = record {
  classes =
      record { name = codes "a"; is_tmp = false; element = Some int; members = []; line = 1 }
      ∷ record {
        name = codes "b";
        is_tmp = false;
        element = None;
        members = method (record { receiver = Mut; name = codes "m"; params = []; result = None; body = empty; line = 2 }) ∷ [];
        line = 1;
      } ∷ [];
  manager = Arena;
  body = body;
  line = 4;
}

-- the braces of class b, and its method's
empty_main : tree_opens (with_class empty) ≡ 2
empty_main = refl

empty_text : most_open (canon (with_class empty)) ≡ 2
empty_text = refl

-- main's braces, those of `while`, an index, and parentheses
abbrev deep : Tree
deep = with_class (next (stmt 5 (while (boolean false) (next (stmt 6 (print (element x (binary Mul (binary Add one one) one)))) empty))) empty)

deep_main : tree_opens deep ≡ 4
deep_main = refl

-- its names have no brackets
deep_bare : IsBareTree deep
deep_bare = record {
  classes = (record { name = refl; members = (tt, refl) }, (record { name = refl; members = ((refl, tt, tt, tt), tt) }, tt));
  body = ((tt, ((record { base = refl; fields = tt }, ((omega arith, omega arith), omega arith)), tt)), tt);
}

-- Parts: the parameters of each method are tested, and the number of fields and of methods apart.

-- a parameter
abbrev p : Param
p = record { name = codes "p"; ty = int }

-- a class with a method of so many parameters
abbrev with_params : ℕ → Class
with_params n = record {
  name = codes "C";
  is_tmp = false;
  element = None;
  members = method (record { receiver = Mut; name = codes "m"; params = replicate n p; result = None; body = empty; line = 1 }) ∷ [];
  line = 1;
}

sixteen_parameters : HasFewMembers (with_params 16)
sixteen_parameters = record { fields = omega arith; methods = omega arith; params = (omega arith, tt) }

seventeen_parameters : HasFewMembers (with_params 17) → ⊥
seventeen_parameters h = omega (arith, h.params.0)
