-- The canonical text of a program with the brackets of its own alone opens as many as its parts say.
use Rattle.std.proofs.Common.{◌≡◌, sym, ap, ℕ, suc, ◌+◌, max, nat_lt, Bool as Truth, true, false, List, [], ◌∷◌, ◌++◌, codes, flat_map, append-nil}
use Rattle.std.proofs.Common.{Option, Some, None, IfSome, subst, refl, arith}
use Rattle.std.specs.List.{AllByRecursion}
use Rattle.rg_base.specs.Text.{bool_text}
use Rattle.rg_tree.specs.Tree.{Ty, Expr, number, boolean, nil, path, is_nil, neg, not, binary, size, element, Call}
use Rattle.rg_tree.specs.Tree.{Right, value, new, new_tmp, new_iso, freeze, merge, read, more, result_of}
use Rattle.rg_tree.specs.Tree.{stmt, StmtKind, declare, assign, assign_element, call, swap, branch, while, enter, print, collect, return}
use Rattle.rg_tree.specs.Tree.{Else, no_else, otherwise, Block, empty, then as next, Member, field, method, Class, Tree}
use Rattle.rg_tree.specs.Canonical.{op_text, left_level, right_level, level, path_text, in_parens, operand, expr_text, joined, arg_texts, call_text}
use Rattle.rg_tree.specs.Canonical.{size_text, right_text, giving_text, line_of, kind_text, else_text, block_text, head_text, member_text}
use Rattle.rg_tree.specs.Canonical.{class_word}
use Rattle.rg_tree.specs.Canonical.{rest_text, class_text, manager_text, canon}
use Rattle.rg_limits.specs.Brackets.{most_open_from, most_open}
use Rattle.rg_limits.specs.Bare.{IsBareExpr, IsBareCall, IsBareRight, IsBareKind, IsBareElse, IsBareBlock, IsBareMember, HasBareMembers}
use Rattle.rg_limits.specs.Bare.{IsBareClass}
use Rattle.rg_limits.specs.Bare.{IsBareTree}
use Rattle.rg_limits.specs.Opens.{parens_opens, expr_opens, exprs_opens, call_opens, index_opens, right_opens, kind_opens, else_opens, block_opens}
use Rattle.rg_limits.specs.Opens.{member_opens, members_opens, classes_opens, tree_opens}
use Rattle.rg_limits.proofs.Texts.{Goes, Stays, goes, both, nothing, as-many, bare, opening, enclosed, line-stays, opening-line, closing-line}
use Rattle.rg_limits.proofs.Texts.{last-line}
use Rattle.rg_limits.proofs.Texts.{between, framed, number-bare}
use Rattle.rg_limits.proofs.PartTexts.{◌&◌, plain, of, so, op-bare, bool-bare, path-stays, index-stays, new-stays, new_tmp-stays, new_iso-stays}
use Rattle.rg_limits.proofs.PartTexts.{call-stays}
use Rattle.rg_limits.proofs.PartTexts.{giving-stays, element-stays, elements-stay, freeze-stays, merge-stays, let-stays, assign-stays, swap-stays}
use Rattle.rg_limits.proofs.PartTexts.{enter-stays, after-stays, ended-stays, field-stays, head-stays, main-stays, class-stays}

-- Expressions

parens-stays : (v : Truth) (p : ℕ) (s : List ℕ) → Stays p s → Stays (parens_opens v p) (in_parens v s)
parens-stays true p s h = enclosed p s h
parens-stays false p s h = h

expr-stays : (e : Expr) → IsBareExpr e → Stays (expr_opens e) (expr_text e)
expr-stays (number z) h = bare 0 (expr_text (number z)) (number-bare z h)
expr-stays (boolean b) h = bare 0 (bool_text b) (bool-bare b)
expr-stays nil h = bare 0 (codes "nil") refl
expr-stays (path q) h = path-stays q h
expr-stays (is_nil q) h = so 0 (of 0 (path_text q) (path-stays q h) & plain (codes " is nil") refl) (omega arith)
expr-stays (neg a) h =
    after-stays (parens_opens (nat_lt (level a) 7) (expr_opens a)) (codes "-") (operand 7 (level a) (expr_text a)) refl
    (parens-stays (nat_lt (level a) 7) (expr_opens a) (expr_text a) (expr-stays a h))
expr-stays (not a) h =
    after-stays (parens_opens (nat_lt (level a) 3) (expr_opens a)) (codes "not ") (operand 3 (level a) (expr_text a)) refl
    (parens-stays (nat_lt (level a) 3) (expr_opens a) (expr_text a) (expr-stays a h))
expr-stays (binary op a b) h =
    let x = parens_opens (nat_lt (level a) (left_level op)) (expr_opens a) in
    let y = parens_opens (nat_lt (level b) (right_level op)) (expr_opens b) in
    let left = operand (left_level op) (level a) (expr_text a) in
    let right = operand (right_level op) (level b) (expr_text b) in
    let first : Stays x left = parens-stays (nat_lt (level a) (left_level op)) (expr_opens a) (expr_text a) (expr-stays a h.0) in
    let second : Stays y right = parens-stays (nat_lt (level b) (right_level op)) (expr_opens b) (expr_text b) (expr-stays b h.1) in
    so (max x y) (of x left first & plain (op_text op) (op-bare op) & of y right second) (omega arith)
expr-stays (size q) h = after-stays 0 (codes "size ") (path_text q) refl (path-stays q h)
expr-stays (element q e) h = index-stays (path_text q) e (expr_opens e) (path-stays q h.0) (expr-stays e h.1)

args-stay : (es : List Expr) → AllByRecursion IsBareExpr es → Stays (exprs_opens es) (joined (arg_texts es))
args-stay [] h = nothing
args-stay (e ∷ []) h = as-many 0 0 (expr_opens e) (exprs_opens (e ∷ [])) (expr_text e) (omega arith) (expr-stays e h.0)
args-stay (e ∷ f ∷ es) h =
    so (exprs_opens (e ∷ f ∷ es))
    (of (expr_opens e) (expr_text e) (expr-stays e h.0) & plain (codes ", ") refl
    & of (exprs_opens (f ∷ es)) (joined (arg_texts (f ∷ es))) (args-stay (f ∷ es) h.1)) (omega arith)

-- Right sides

size-stays : (o : Option Expr) → IfSome o IsBareExpr → Stays (index_opens o) (size_text o)
size-stays None h = nothing
size-stays (Some e) h = index-stays (codes " ") e (expr_opens e) (bare 0 (codes " ") refl) (expr-stays e h)

call-all-stays : (c : Call) → IsBareCall c → Stays (call_opens c) (call_text c)
call-all-stays c h = call-stays c.target c.method (exprs_opens c.args) (joined (arg_texts c.args)) h.target h.method (args-stay c.args h.args)

right-stays : (r : Right) → IsBareRight r → Stays (right_opens r) (right_text r)
right-stays (value e) h = expr-stays e h
right-stays (new x o) h = new-stays (index_opens o) o (size-stays o h.1) x h.0
right-stays (new_tmp x o) h = new_tmp-stays (index_opens o) o (size-stays o h.1) x h.0
right-stays (new_iso x o m) h = new_iso-stays (index_opens o) o (size-stays o h.1) x h.0 m
right-stays (freeze y) h = freeze-stays y h
right-stays (merge y) h = merge-stays y h
right-stays read h = bare 0 (codes "read") refl
right-stays more h = bare 0 (codes "more") refl
right-stays (result_of c) h = call-all-stays c h

-- Statements

mutual
  kind-stays : (i : ℕ) (k : StmtKind) → IsBareKind k → Stays (kind_opens k) (kind_text i k)
  kind-stays i (declare x t r) h = line-stays (right_opens r) i _ (let-stays (right_opens r) r (right-stays r h.2) x t h.0 h.1)
  kind-stays i (assign q r) h = line-stays (right_opens r) i _ (assign-stays (right_opens r) r (right-stays r h.1) q h.0)
  kind-stays i (assign_element q e r) h =
      line-stays (kind_opens (assign_element q e r)) i _
      (element-stays (right_opens r) r (right-stays r h.2) q e (expr_opens e) h.0 (expr-stays e h.1))
  kind-stays i (call c) h = line-stays (call_opens c) i (call_text c ++ codes ";") (ended-stays (call_opens c) (call_text c) (call-all-stays c h))
  kind-stays i (swap y q) h = line-stays 0 i _ (swap-stays y q h.0 h.1)
  kind-stays i (branch e b other) h =
      let e_text = codes "if " ++ expr_text e in
      let n : max (max (max (expr_opens e) 1) (suc (block_opens b))) (max 1 (else_opens other))
      ≡ max (expr_opens e) (max (suc (block_opens b)) (else_opens other)) = omega arith in
      as-many 0 0 _ (kind_opens (branch e b other)) (kind_text i (branch e b other)) n
      (framed 0 0 (max (expr_opens e) 1) (block_opens b) (max 1 (else_opens other)) (line_of i (e_text ++ codes " {")) (block_text (suc i) b)
      (else_text i other) (opening-line (expr_opens e) i e_text (after-stays (expr_opens e) (codes "if ") (expr_text e) refl (expr-stays e h.0)))
      (block-stays (suc i) b h.1) (else-goes i other h.2))
  kind-stays i (while e b) h =
      let e_text = codes "while " ++ expr_text e in
      let n : max (max (max (expr_opens e) 1) (suc (block_opens b))) 1 ≡ max (expr_opens e) (suc (block_opens b)) = omega arith in
      as-many 0 0 _ (kind_opens (while e b)) (kind_text i (while e b)) n
      (framed 0 0 (max (expr_opens e) 1) (block_opens b) 1 (line_of i (e_text ++ codes " {")) (block_text (suc i) b) (line_of i (codes "}"))
      (opening-line (expr_opens e) i e_text (after-stays (expr_opens e) (codes "while ") (expr_text e) refl (expr-stays e h.0)))
      (block-stays (suc i) b h.1) (last-line i))
  kind-stays i (enter q z b giving) h =
      let front = ((codes "enter " ++ path_text q) ++ codes " as ") ++ z in
      let n : max (max (max 0 1) (suc (block_opens b))) 1 ≡ suc (block_opens b) = omega arith in
      as-many 0 0 _ (kind_opens (enter q z b giving)) (kind_text i (enter q z b giving)) n
      (framed 0 0 (max 0 1) (block_opens b) 1 (line_of i (front ++ codes " {")) (block_text (suc i) b) (line_of i (codes "}" ++ giving_text giving))
      (opening-line 0 i front (enter-stays q z h.0 h.1)) (block-stays (suc i) b h.2)
      (closing-line i (giving_text giving) (giving-stays giving h.3)))
  kind-stays i (print e) h =
      line-stays (expr_opens e) i ((codes "print " ++ expr_text e) ++ codes ";")
      (ended-stays (expr_opens e) (codes "print " ++ expr_text e) (after-stays (expr_opens e) (codes "print ") (expr_text e) refl (expr-stays e h)))
  kind-stays i collect h = line-stays 0 i (codes "collect;") (bare 0 (codes "collect;") refl)
  kind-stays i (return e) h =
      line-stays (expr_opens e) i ((codes "return " ++ expr_text e) ++ codes ";")
      (ended-stays (expr_opens e) (codes "return " ++ expr_text e) (after-stays (expr_opens e) (codes "return ") (expr_text e) refl (expr-stays e h)))

  -- behind the first block, whose brace is open
  else-goes : (i : ℕ) (o : Else) → IsBareElse o → Goes 1 0 (max 1 (else_opens o)) (else_text i o)
  else-goes i no_else h = as-many 1 0 1 (max 1 0) (line_of i (codes "}")) (omega arith) (last-line i)
  else-goes i (otherwise b) h =
      let n : max (max 1 (suc (block_opens b))) 1 ≡ max 1 (suc (block_opens b)) = omega arith in
      as-many 1 0 _ (max 1 (suc (block_opens b))) (else_text i (otherwise b)) n
      (framed 1 0 1 (block_opens b) 1 (line_of i (codes "} else {")) (block_text (suc i) b) (line_of i (codes "}")) (between i)
      (block-stays (suc i) b h) (last-line i))

  block-stays : (i : ℕ) (b : Block) → IsBareBlock b → Stays (block_opens b) (block_text i b)
  block-stays i empty h = nothing
  block-stays i (next (stmt line k) b) h =
      both (kind_opens k) (block_opens b) (kind_text i k) (block_text i b) (kind-stays i k h.0) (block-stays i b h.1)

-- Members and classes

member-stays : (m : Member) → IsBareMember m → Stays (member_opens m) (member_text m)
member-stays (field f) h = line-stays 0 1 _ (field-stays f.name f.ty h.0 h.1)
member-stays (method m) h =
    let n : max (max (max 1 1) (suc (block_opens m.body))) 1 ≡ suc (block_opens m.body) = omega arith in
    as-many 0 0 _ (member_opens (method m)) (member_text (method m)) n
    (framed 0 0 (max 1 1) (block_opens m.body) 1 (line_of 1 ((codes "def " ++ head_text m) ++ codes " {")) (block_text 2 m.body)
    (line_of 1 (codes "}"))
    (opening-line 1 1 (codes "def " ++ head_text m) (after-stays 1 (codes "def ") (head_text m) refl (head-stays m h.0 h.1 h.2)))
    (block-stays 2 m.body h.3) (last-line 1))

members-stay : (ms : List Member) → AllByRecursion IsBareMember ms → Stays (members_opens ms) (flat_map member_text ms)
members-stay [] h = nothing
members-stay (m ∷ ms) h =
    both (member_opens m) (members_opens ms) (member_text m) (flat_map member_text ms) (member-stays m h.0) (members-stay ms h.1)

class-line : Goes 0 1 1 (32 ∷ 123 ∷ 10 ∷ [])
class-line =
    let n : max 0 (max 1 1) ≡ 1 = omega arith in
    as-many 0 1 _ 1 (32 ∷ 123 ∷ 10 ∷ []) n
    (goes 0 0 1 0 _ (32 ∷ []) (123 ∷ 10 ∷ []) (bare 0 (32 ∷ []) refl)
    (goes 0 1 1 1 1 (123 ∷ []) (10 ∷ []) (opening 123 refl) (bare 1 (10 ∷ []) refl)))

rest-stays : (o : Option Ty) (ms : List Member) → HasBareMembers o ms → Stays (suc (members_opens ms)) (rest_text o ms)
rest-stays None ms h =
    let n : max (max 1 (suc (members_opens ms))) 1 ≡ suc (members_opens ms) = omega arith in
    as-many 0 0 _ (suc (members_opens ms)) (rest_text None ms) n
    (framed 0 0 1 (members_opens ms) 1 (32 ∷ 123 ∷ 10 ∷ []) (flat_map member_text ms) (line_of 0 (codes "}")) class-line (members-stay ms h)
    (last-line 0))
rest-stays (Some t) ms h =
    subst (λ (us : List Member). Stays (suc (members_opens us)) (rest_text (Some t) us)) (sym h.1) (elements-stay t h.0)

class-all-stays : (c : Class) → IsBareClass c → Stays (suc (members_opens c.members)) (class_text c)
class-all-stays c h =
    let rest = rest_text c.element c.members in
    so (suc (members_opens c.members))
    (of 0 (class_word c.is_tmp ++ c.name) (class-stays c.is_tmp c.name h.name)
    & of (suc (members_opens c.members)) rest (rest-stays c.element c.members h.members)) (omega arith)

classes-stay : (cs : List Class) → AllByRecursion IsBareClass cs → Stays (classes_opens cs) (flat_map class_text cs)
classes-stay [] h = nothing
classes-stay (c ∷ cs) h =
    both (suc (members_opens c.members)) (classes_opens cs) (class_text c) (flat_map class_text cs) (class-all-stays c h.0) (classes-stay cs h.1)

-- Programs

canon-stays : (t : Tree) → IsBareTree t → Stays (tree_opens t) (canon t)
canon-stays t h =
    let classes = flat_map class_text t.classes in
    let up = line_of 0 ((codes "main " ++ manager_text t.manager) ++ codes " {") in
    let x = classes_opens t.classes in
    let n : max (max (max x (max 0 1)) (suc (block_opens t.body))) 1 ≡ max x (suc (block_opens t.body)) = omega arith in
    let front : Goes 0 1 (max x (max 0 1)) (classes ++ up) =
    goes 0 0 1 x (max 0 1) classes up (classes-stay t.classes h.classes)
    (opening-line 0 0 (codes "main " ++ manager_text t.manager) (main-stays t.manager)) in
    as-many 0 0 _ (tree_opens t) (canon t) n
    (framed 0 0 (max x (max 0 1)) (block_opens t.body) 1 (classes ++ up) (block_text 1 t.body) (line_of 0 (codes "}")) front
    (block-stays 1 t.body h.body) (last-line 0))

-- so many are open together
pub opens-so : (t : Tree) → IsBareTree t → most_open (canon t) ≡ tree_opens t
opens-so t h =
    let e : canon t ++ [] ≡ canon t = append-nil (canon t) in
    let m = canon-stays t h 0 [] in
    let f : most_open_from 0 (canon t ++ []) ≡ most_open_from 0 (canon t) = ap (λ (s : List ℕ). most_open_from 0 s) e in
    let z : most_open_from (0 + 0) (canon t ++ []) ≡ most_open_from 0 (canon t ++ []) = refl in
    let y : most_open_from (0 + 0) [] ≡ 0 = refl in
    omega (arith, m, f, z, y)
