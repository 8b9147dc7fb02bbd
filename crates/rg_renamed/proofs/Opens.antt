-- With numbers for names a program has as many brackets in one another as before.
use Rattle.std.proofs.Common.{◌≡◌, refl, sym, ap, ◌∙◌, subst, ℕ, suc, ◌+◌, ◌≤◌, max, nat_lt, Bool as Truth, true, false, List, [], ◌∷◌, ◌++◌}
use Rattle.std.proofs.Common.{length}
use Rattle.std.proofs.Common.{map, filter_map, Option, Some, None, option_map, arith}
use Rattle.rg_base.specs.declared.limits.TheConstants.{BRACKETS}
use Rattle.rg_tree.specs.Tree.{Name, Variable, Expr, number, boolean, nil, path, is_nil, neg, not, binary, size, element, Right, value, new}
use Rattle.rg_tree.specs.Tree.{new_tmp}
use Rattle.rg_tree.specs.Tree.{new_iso, freeze, merge, read, more, result_of, stmt, StmtKind, declare, assign, assign_element, call, swap, branch}
use Rattle.rg_tree.specs.Tree.{while, enter, print, collect, return, Else, no_else, otherwise, Block, empty, then as next, Field, Member, field}
use Rattle.rg_tree.specs.Tree.{method}
use Rattle.rg_tree.specs.Tree.{Class, Tree}
use Rattle.rg_tree.specs.Canonical.{level, left_level, right_level}
use Rattle.rg_rules.specs.Types.{field_member, method_member}
use Rattle.rg_limits.specs.Opens.{parens_opens, expr_opens, exprs_opens, index_opens, right_opens, kind_opens, else_opens, block_opens}
use Rattle.rg_limits.specs.Opens.{members_opens}
use Rattle.rg_limits.specs.Opens.{class_opens, classes_opens, tree_opens}
use Rattle.rg_limits.specs.Limits.{IsWithinLimits}
use Rattle.rg_code.specs.Lowering.{Scope, slot_of, method_scope, scope_behind, scope_inside, scope_at_end}
use Rattle.rg_verify_expressions.specs.Raised.{named}
use Rattle.rg_verify_expressions.specs.Statements as numbers
use Rattle.rg_verify_expressions.specs.Found as found
use Rattle.rg_verify_expressions.specs.Found.{right_named, kind_named, else_named, block_named}
use Rattle.rg_numbered.specs.Numbered.{numbered, numbered_right, numbered_assign, numbered_swap, numbered_enter, giving_slot, numbered_kind}
use Rattle.rg_numbered.specs.Numbered.{numbered_else}
use Rattle.rg_numbered.specs.Numbered.{numbered_block}
use Rattle.rg_renamed.specs.Renamed.{renamed_method, renamed_field, renamed_from, renamed_members, renamed_class, renamed}
use Rattle.rg_renamed.proofs.Limits.{parts-again, names-again, signs-again, small-again}

module _ (cs : List Class) (m : Truth) where
  abbrev renew : Scope → Expr → Expr
  renew ss e = named m (numbered cs ss e)

  level-again : (ss : Scope) (e : Expr) → level (renew ss e) ≡ level e
  level-again ss (number z) = refl
  level-again ss (boolean b) = refl
  level-again ss nil = refl
  level-again ss (path q) = refl
  level-again ss (is_nil q) = refl
  level-again ss (neg a) = refl
  level-again ss (not a) = refl
  level-again ss (binary o a b) = refl
  level-again ss (size q) = refl
  level-again ss (element q e) = refl

  -- an operand, of a level that stands bare from the least one on
  operand-opens : (ss : Scope) (least : ℕ) (a : Expr) → expr_opens (renew ss a) ≡ expr_opens a →
      parens_opens (nat_lt (level (renew ss a)) least) (expr_opens (renew ss a)) ≡ parens_opens (nat_lt (level a) least) (expr_opens a)
  operand-opens ss least a e =
      ap (λ (l : ℕ). parens_opens (nat_lt l least) (expr_opens (renew ss a))) (level-again ss a)
      ∙ ap (λ (n : ℕ). parens_opens (nat_lt (level a) least) n) e

  expr-opens : (ss : Scope) (e : Expr) → expr_opens (renew ss e) ≡ expr_opens e
  expr-opens ss (number z) = refl
  expr-opens ss (boolean b) = refl
  expr-opens ss nil = refl
  expr-opens ss (path q) = refl
  expr-opens ss (is_nil q) = refl
  expr-opens ss (neg a) = operand-opens ss 7 a (expr-opens ss a)
  expr-opens ss (not a) = operand-opens ss 3 a (expr-opens ss a)
  expr-opens ss (binary o a b) =
      ap (λ (i : ℕ). max i (parens_opens (nat_lt (level (renew ss b)) (right_level o)) (expr_opens (renew ss b))))
      (operand-opens ss (left_level o) a (expr-opens ss a))
      ∙ ap (λ (i : ℕ). max (parens_opens (nat_lt (level a) (left_level o)) (expr_opens a)) i) (operand-opens ss (right_level o) b (expr-opens ss b))
  expr-opens ss (size q) = refl
  expr-opens ss (element q e) = ap (λ (i : ℕ). suc i) (expr-opens ss e)

  args-opens : (ss : Scope) (es : List Expr) → exprs_opens (map (named m) (map (numbered cs ss) es)) ≡ exprs_opens es
  args-opens ss [] = refl
  args-opens ss (e ∷ es) =
      ap (λ (i : ℕ). max i (exprs_opens (map (named m) (map (numbered cs ss) es)))) (expr-opens ss e)
      ∙ ap (λ (i : ℕ). max (expr_opens e) i) (args-opens ss es)

  index-opens : (ss : Scope) (o : Option Expr) → index_opens (option_map (named m) (option_map (numbered cs ss) o)) ≡ index_opens o
  index-opens ss None = refl
  index-opens ss (Some e) = ap (λ (i : ℕ). suc i) (expr-opens ss e)

  right-opens : (ss : Scope) (r : Right) → right_opens (right_named m (numbered_right cs ss r)) ≡ right_opens r
  right-opens ss (value e) = expr-opens ss e
  right-opens ss (new x o) = index-opens ss o
  right-opens ss (new_tmp x o) = index-opens ss o
  right-opens ss (new_iso x o manager) = index-opens ss o
  right-opens ss (freeze y) = refl
  right-opens ss (merge y) = refl
  right-opens ss read = refl
  right-opens ss more = refl
  right-opens ss (result_of c) = ap (λ (i : ℕ). suc i) (args-opens ss c.args)

  -- Statements

  assign-opens : (ss : Scope) (n : ℕ) (x : Variable) (fs : List Name) (r : numbers.Right) →
      kind_opens (kind_named m n (numbered_assign cs ss x fs r)) ≡ right_opens (right_named m r)
  assign-opens ss n x [] r = refl
  assign-opens ss n x (f ∷ fs) r = refl

  swap-opens : (ss : Scope) (n y : ℕ) (x : Variable) (fs : List Name) → kind_opens (kind_named m n (numbered_swap cs ss y x fs)) ≡ 0
  swap-opens ss n y x [] = refl
  swap-opens ss n y x (f ∷ fs) = refl

  enter-opens : (ss : Scope) (n : ℕ) (x : Variable) (fs : List Name) (b : numbers.Block) (w : Option ℕ) →
      kind_opens (kind_named m n (numbered_enter cs ss x fs b w)) ≡ suc (block_opens (block_named m (n + 1) b))
  enter-opens ss n x [] b w = refl
  enter-opens ss n x (f ∷ fs) b w = refl

  mutual
    kind-opens : (ss : Scope) (n : ℕ) (k : StmtKind) → kind_opens (kind_named m n (numbered_kind cs ss k)) ≡ kind_opens k
    kind-opens ss n (declare x t r) = right-opens ss r
    kind-opens ss n (assign p r) = assign-opens ss n p.base p.fields (numbered_right cs ss r) ∙ right-opens ss r
    kind-opens ss n (assign_element q e r) =
        ap (λ (i : ℕ). max (suc i) (right_opens (right_named m (numbered_right cs ss r)))) (expr-opens ss e)
        ∙ ap (λ (i : ℕ). max (suc (expr_opens e)) i) (right-opens ss r)
    kind-opens ss n (call c) = ap (λ (i : ℕ). suc i) (args-opens ss c.args)
    kind-opens ss n (swap y p) = swap-opens ss n (slot_of ss (Some y)) p.base p.fields
    kind-opens ss n (branch e b other) =
        let inner = block_opens (block_named m n (numbered_block cs ss b)) in
        let behind = else_opens (else_named m n (numbered_else cs ss other)) in
        ap (λ (i : ℕ). max i (max (suc inner) behind)) (expr-opens ss e)
        ∙ ap (λ (i : ℕ). max (expr_opens e) (max (suc i) behind)) (block-opens ss n b)
        ∙ ap (λ (i : ℕ). max (expr_opens e) (max (suc (block_opens b)) i)) (else-opens ss n other)
    kind-opens ss n (while e b) =
        ap (λ (i : ℕ). max i (suc (block_opens (block_named m n (numbered_block cs ss b))))) (expr-opens ss e)
        ∙ ap (λ (i : ℕ). max (expr_opens e) (suc i)) (block-opens ss n b)
    kind-opens ss n (enter p z b w) =
        let inside = scope_inside cs ss p z in
        enter-opens ss n p.base p.fields (numbered_block cs inside b) (giving_slot (scope_at_end cs inside b) w)
        ∙ ap (λ (i : ℕ). suc i) (block-opens inside (n + 1) b)
    kind-opens ss n (print e) = expr-opens ss e
    kind-opens ss n collect = refl
    kind-opens ss n (return e) = expr-opens ss e

    else-opens : (ss : Scope) (n : ℕ) (o : Else) → else_opens (else_named m n (numbered_else cs ss o)) ≡ else_opens o
    else-opens ss n no_else = refl
    else-opens ss n (otherwise b) = ap (λ (i : ℕ). suc i) (block-opens ss n b)

    block-opens : (ss : Scope) (n : ℕ) (b : Block) → block_opens (block_named m n (numbered_block cs ss b)) ≡ block_opens b
    block-opens ss n empty = refl
    block-opens ss n (next (stmt line k) b) =
        let behind = scope_behind cs ss k in
        let to = found.slots_behind n (numbered_kind cs ss k) in
        ap (λ (i : ℕ). max i (block_opens (block_named m to (numbered_block cs behind b)))) (kind-opens ss n k)
        ∙ ap (λ (i : ℕ). max (kind_opens k) i) (block-opens behind to b)

-- Members and classes

no-more : (n : ℕ) → max 0 n ≡ n
no-more n = omega arith

module _ (cs : List Class) where
  methods-open : (c k : ℕ) (ms : List Member) →
      members_opens (renamed_from (λ j m. method (renamed_method cs c j m)) k (filter_map method_member ms)) ≡ members_opens ms
  methods-open c k [] = refl
  methods-open c k (field f ∷ ms) = methods-open c k ms ∙ sym (no-more (members_opens ms))
  methods-open c k (method m ∷ ms) =
      let scope = method_scope cs c m in
      ap (λ (i : ℕ). max (suc i) (members_opens (renamed_from (λ j q. method (renamed_method cs c j q)) (suc k) (filter_map method_member ms))))
      (block-opens cs true scope (length scope) m.body)
      ∙ ap (λ (i : ℕ). max (suc (block_opens m.body)) i) (methods-open c (suc k) ms)

  fields-open : (k : ℕ) (fs : List Field) (rest : List Member) →
      members_opens (renamed_from (λ j f. field (renamed_field cs j f)) k fs ++ rest) ≡ members_opens rest
  fields-open k [] rest = refl
  fields-open k (f ∷ fs) rest = no-more _ ∙ fields-open (suc k) fs rest

  members-open : (c : ℕ) (ms : List Member) → members_opens (renamed_members cs c ms) ≡ members_opens ms
  members-open c ms = fields-open 0 (filter_map field_member ms) _ ∙ methods-open c 0 ms

  classes-open : (c : ℕ) (ds : List Class) → classes_opens (renamed_from (renamed_class cs) c ds) ≡ classes_opens ds
  classes-open c [] = refl
  classes-open c (d ∷ ds) =
      ap (λ (i : ℕ). max (suc i) (classes_opens (renamed_from (renamed_class cs) (suc c) ds))) (members-open c d.members)
      ∙ ap (λ (i : ℕ). max (class_opens d) i) (classes-open (suc c) ds)

-- Programs

opens-again : (t : Tree) → tree_opens (renamed t) ≡ tree_opens t
opens-again t =
    let body = block_opens (block_named false 0 (numbered_block t.classes [] t.body)) in
    ap (λ (i : ℕ). max i (suc body)) (classes-open t.classes 0 t.classes)
    ∙ ap (λ (i : ℕ). max (classes_opens t.classes) (suc i)) (block-opens t.classes false [] 0 t.body)

pub within-again : (t : Tree) → IsWithinLimits t → IsWithinLimits (renamed t)
within-again t h = record {
  parts = parts-again t h.parts;
  names = names-again t h.names;
  signs = signs-again t h.signs;
  numbers = small-again t h.numbers;
  brackets = subst (λ (n : ℕ). n ≤ BRACKETS) (sym (opens-again t)) h.brackets;
}
