-- Blocks with numbers are as deep as those with names.
use Rattle.std.proofs.Common.{◌≡◌, refl, sym, ap, ◌∙◌, subst, ℕ, suc, ◌≤◌, max, List, [], ◌∷◌, ◌++◌, Option}
use Rattle.std.specs.List.{AllByRecursion}
use Rattle.rg_tree.specs.Tree.{Name, Variable, stmt, StmtKind, declare, assign, assign_element, call, swap, branch, while, enter, print, collect}
use Rattle.rg_tree.specs.Tree.{return}
use Rattle.rg_tree.specs.Tree.{Else, no_else, otherwise, Block, empty, then as next, Member, field, method, Class, Tree}
use Rattle.rg_code.specs.Lowering.{Scope, scope_behind, scope_inside, method_scope}
use Rattle.rg_verify_expressions.specs.Statements as numbers
use Rattle.rg_verify_expressions.specs.Standing.{kind_depth, else_depth, block_depth}
use Rattle.rg_bodies.specs.Bodies.{RaisedBody}
use Rattle.rg_bodies.specs.Standing.{IsWithin, AreWithin}
use Rattle.rg_numbered.specs.Numbered.{numbered_assign, numbered_swap, numbered_enter, numbered_kind, numbered_else, numbered_block}
use Rattle.rg_verify.specs.Bodies.{members_numbered, classes_numbered, bodies_numbered}
use Rattle.rg_limits.specs.Depth.{kind_levels, else_levels, block_levels, AreMembersShallow, AreClassesShallow, IsShallow}

module _ (cs : List Class) where
  assign-depth : (s : Scope) (x : Variable) (fs : List Name) (r : numbers.Right) → kind_depth (numbered_assign cs s x fs r) ≡ 0
  assign-depth s x [] r = refl
  assign-depth s x (f ∷ fs) r = refl

  swap-depth : (s : Scope) (y : ℕ) (x : Variable) (fs : List Name) → kind_depth (numbered_swap cs s y x fs) ≡ 0
  swap-depth s y x [] = refl
  swap-depth s y x (f ∷ fs) = refl

  enter-depth : (s : Scope) (x : Variable) (fs : List Name) (b : numbers.Block) (w : Option ℕ) →
      kind_depth (numbered_enter cs s x fs b w) ≡ block_depth b
  enter-depth s x [] b w = refl
  enter-depth s x (f ∷ fs) b w = refl

  mutual
    kind-depth : (s : Scope) (k : StmtKind) → kind_depth (numbered_kind cs s k) ≡ kind_levels k
    kind-depth s (declare x t r) = refl
    kind-depth s (assign p r) = assign-depth s p.base p.fields _
    kind-depth s (assign_element q e r) = refl
    kind-depth s (call c) = refl
    kind-depth s (swap y p) = swap-depth s _ p.base p.fields
    kind-depth s (branch e b other) =
        ap (λ (n : ℕ). max n (else_depth (numbered_else cs s other))) (block-depth s b)
        ∙ ap (λ (n : ℕ). max (block_levels b) n) (else-depth s other)
    kind-depth s (while e b) = block-depth s b
    kind-depth s (enter p z b giving) = enter-depth s p.base p.fields _ _ ∙ block-depth (scope_inside cs s p z) b
    kind-depth s (print e) = refl
    kind-depth s collect = refl
    kind-depth s (return e) = refl

    else-depth : (s : Scope) (o : Else) → else_depth (numbered_else cs s o) ≡ else_levels o
    else-depth s no_else = refl
    else-depth s (otherwise b) = block-depth s b

    block-depth : (s : Scope) (b : Block) → block_depth (numbered_block cs s b) ≡ block_levels b
    block-depth s empty = refl
    block-depth s (next (stmt line k) b) =
        let behind = scope_behind cs s k in
        ap (λ (n : ℕ). max (suc n) (block_depth (numbered_block cs behind b))) (kind-depth s k)
        ∙ ap (λ (n : ℕ). max (suc (kind_levels k)) n) (block-depth behind b)

  shallow : (most : ℕ) (s : Scope) (b : Block) → block_levels b ≤ most → block_depth (numbered_block cs s b) ≤ most
  shallow most s b h = subst (λ (n : ℕ). n ≤ most) (sym (block-depth s b)) h

  members-shallow : (most c : ℕ) (ms : List Member) (bs : List RaisedBody) → AreMembersShallow most ms → AllByRecursion (IsWithin most) bs →
      AllByRecursion (IsWithin most) (members_numbered cs c ms ++ bs)
  members-shallow most c [] bs h rest = rest
  members-shallow most c (field f ∷ ms) bs h rest = members-shallow most c ms bs h rest
  members-shallow most c (method m ∷ ms) bs h rest =
      (shallow most (method_scope cs c m) m.body h.0, members-shallow most c ms bs h.1 rest)

  classes-shallow : (most c : ℕ) (ks : List Class) → AreClassesShallow most ks → AllByRecursion (IsWithin most) (classes_numbered cs c ks)
  classes-shallow most c [] h = tt
  classes-shallow most c (k ∷ ks) h =
      members-shallow most c k.members (classes_numbered cs (suc c) ks) h.0 (classes-shallow most (suc c) ks h.1)

pub shallow-within : (most : ℕ) (t : Tree) → IsShallow most t → AreWithin most (bodies_numbered t)
shallow-within most t h = record {
  main = shallow t.classes most [] t.body h.main;
  methods = classes-shallow t.classes most 0 t.classes h.methods;
}
