-- The program that a module tells has numbers for names.
use Rattle.std.proofs.Common.{◌≡◌, refl, sym, ap, subst, ℕ, zero, suc, ◌+◌, ◌==◌, Bool as Truth, true, false, if◌then◌else◌, List, [], ◌∷◌, ◌++◌}
use Rattle.std.proofs.Common.{drop, length, Option, Some, None, option_map, arith}
use Rattle.rg_base.specs.declared.ty.Ty.{Ty}
use Rattle.rg_tree.specs.Tree.{Member, field, method, Tree}
use Rattle.rg_spell.specs.declared.rows.Shape.{Shape}
use Rattle.rg_spell.specs.declared.rows.Head.{Head}
use Rattle.rg_module.specs.Parts.{Parts}
use Rattle.rg_verify_expressions.specs.Naming.{written}
use Rattle.rg_verify_expressions.specs.Statements.{Kind, declare, assign, write, write_element, call, swap, branch, while, enter, enter_field, print, collect}
use Rattle.rg_verify_expressions.specs.Statements.{return, Else, no_else, otherwise, Block, empty, next}
use Rattle.rg_verify_expressions.specs.Found.{slots_behind, kind_named, else_named, block_named}
use Rattle.rg_classes.specs.Written.{Bodied, field_written, param_written, numbered, method_written, methods_written, run, members_written}
use Rattle.rg_classes.specs.Written.{classes_written}
use Rattle.rg_bodies.specs.Bodies.{RaisedBody, Bodies}
use Rattle.rg_bodies.specs.Rows.{method_named, methods_named}
use Rattle.rg_raised.specs.Raises.{slots_after, IsKindNumbered, IsElseNumbered, IsBlockNumbered, AreParamsNumbered, AreMethodsNumbered}
use Rattle.rg_raised.specs.Raises.{AreMembersNumbered, AreMembers, AreClassesNumbered, IsNumbered}
use Rattle.rg_raised.specs.Told.{module_told, tree_named, program_told}

one-more : (n : ℕ) → n + 1 ≡ suc n
one-more n = omega arith

-- Blocks

behind-named : (m : Truth) (n : ℕ) (k : Kind) → slots_behind n k ≡ slots_after n (kind_named m n k)
behind-named m n (declare t r) = one-more n
behind-named m n (assign s r) = refl
behind-named m n (write s ks k r) = refl
behind-named m n (write_element s ks e r) = refl
behind-named m n (call c) = refl
behind-named m n (swap y s ks k) = refl
behind-named m n (branch e b other) = refl
behind-named m n (while e b) = refl
behind-named m n (enter s c b w) = refl
behind-named m n (enter_field s ks k c b w) = refl
behind-named m n (print e) = refl
behind-named m n collect = refl
behind-named m n (return e) = refl

mutual
  kind-numbered : (m : Truth) (n : ℕ) (k : Kind) → IsKindNumbered n (kind_named m n k)
  kind-numbered m n (declare t r) = refl
  kind-numbered m n (assign s r) = tt
  kind-numbered m n (write s ks k r) = tt
  kind-numbered m n (write_element s ks e r) = tt
  kind-numbered m n (call c) = tt
  kind-numbered m n (swap y s ks k) = tt
  kind-numbered m n (branch e b other) = (block-numbered m n b, else-numbered m n other)
  kind-numbered m n (while e b) = block-numbered m n b
  kind-numbered m n (enter s c b w) =
      (refl, subst (λ (k : ℕ). IsBlockNumbered k (block_named m (n + 1) b)) (one-more n) (block-numbered m (n + 1) b))
  kind-numbered m n (enter_field s ks k c b w) =
      (refl, subst (λ (j : ℕ). IsBlockNumbered j (block_named m (n + 1) b)) (one-more n) (block-numbered m (n + 1) b))
  kind-numbered m n (print e) = tt
  kind-numbered m n collect = tt
  kind-numbered m n (return e) = tt

  else-numbered : (m : Truth) (n : ℕ) (o : Else) → IsElseNumbered n (else_named m n o)
  else-numbered m n no_else = tt
  else-numbered m n (otherwise b) = block-numbered m n b

  block-numbered : (m : Truth) (n : ℕ) (b : Block) → IsBlockNumbered n (block_named m n b)
  block-numbered m n empty = tt
  block-numbered m n (next line k b) =
      let s = slots_behind n k in
      (kind-numbered m n k, subst (λ (j : ℕ). IsBlockNumbered j (block_named m s b)) (behind-named m n k) (block-numbered m s b))

-- Methods

params-numbered : (s : ℕ) (ts : List Ty) → AreParamsNumbered s (numbered param_written s ts)
params-numbered s [] = tt
params-numbered s (t ∷ ts) = (refl, params-numbered (suc s) ts)

pub params-long : (s : ℕ) (ts : List Ty) → length (numbered param_written s ts) ≡ length ts
params-long s [] = refl
params-long s (t ∷ ts) = ap (λ (n : ℕ). suc n) (params-long (suc s) ts)

methods-numbered : (c k : ℕ) (hs : List Head) (bs : List RaisedBody) → AreMethodsNumbered k (methods_written c k hs (methods_named hs bs))
methods-numbered c k [] bs = tt
methods-numbered c k (h ∷ hs) [] = tt
methods-numbered c k (h ∷ hs) (b ∷ bs) = by (h.class == c) (methods-numbered c (suc k) hs bs)
  where
    by : (t : Truth) → AreMethodsNumbered (suc k) (methods_written c (suc k) hs (methods_named hs bs)) → AreMethodsNumbered k
        (if t then method (method_written k h (method_named h b)) ∷ methods_written c (suc k) hs (methods_named hs bs) else [])
    by true others =
        let slots = suc (length h.params) in (
          record {
            name = refl;
            params = params-numbered 1 h.params;
            body = subst (λ (n : ℕ). IsBlockNumbered (suc n) (block_named true slots b.block)) (sym (params-long 1 h.params))
                (block-numbered true slots b.block);
          },
          others,
        )
    by false others = tt

-- Members

-- methods alone are members
only-methods : (ms : List Member) → AreMethodsNumbered 0 ms → (k : ℕ) → AreMembersNumbered k ms
only-methods [] h k = tt
only-methods (m ∷ ms) h k = by m h
  where
    by : (m : Member) → AreMethodsNumbered 0 (m ∷ ms) → AreMembersNumbered k (m ∷ ms)
    by (field f) g = absurd g
    by (method q) g = g

fields-numbered : (k : ℕ) (ts : List Ty) (ms : List Member) → AreMethodsNumbered 0 ms → AreMembersNumbered k (numbered field_written k ts ++ ms)
fields-numbered k [] ms h = only-methods ms h k
fields-numbered k (t ∷ ts) ms h = (refl, fields-numbered (suc k) ts ms h)

members-numbered : (e : Option Ty) (ts : List Ty) (ms : List Member) → AreMethodsNumbered 0 ms →
    AreMembers (option_map written e) (members_written e ts ms)
members-numbered None ts ms h = fields-numbered 0 ts ms h
members-numbered (Some t) ts ms h = refl

-- Classes

pub drop-named : (n : ℕ) (hs : List Head) (bs : List RaisedBody) → drop n (methods_named hs bs) ≡ methods_named (drop n hs) (drop n bs)
drop-named zero hs bs = refl
drop-named (suc n) [] bs = refl
drop-named (suc n) (h ∷ hs) [] = sym (none (drop n hs))
  where
    none : (gs : List Head) → methods_named gs [] ≡ []
    none [] = refl
    none (g ∷ gs) = refl
drop-named (suc n) (h ∷ hs) (b ∷ bs) = drop-named n hs bs

classes-numbered : (k : ℕ) (ss : List Shape) (hs : List Head) (bs : List RaisedBody) →
    AreClassesNumbered k (classes_written k ss hs (methods_named hs bs))
classes-numbered k [] hs bs = tt
classes-numbered k (s ∷ ss) hs bs =
    let n = run k hs in (
      refl,
      members-numbered s.element s.fields (methods_written k 0 hs (methods_named hs bs)) (methods-numbered k 0 hs bs),
      subst (λ (xs : List Bodied). AreClassesNumbered (suc k) (classes_written (suc k) ss (drop n hs) xs)) (sym (drop-named n hs bs))
          (classes-numbered (suc k) ss (drop n hs) (drop n bs)),
    )

tree-numbered : (m : Parts) (x : Bodies) → IsNumbered (tree_named m x)
tree-numbered m x = record { classes = classes-numbered 0 m.classes m.methods x.methods; body = block-numbered false 0 x.main.block }

-- What is told

numbered_by : (m : Parts) (o : Option Bodies) (t : Tree) → option_map (tree_named m) o ≡ Some t → IsNumbered t
numbered_by m None t e = grind arith
numbered_by m (Some x) t e = let same : tree_named m x ≡ t = grind arith in subst IsNumbered same (tree-numbered m x)

pub told-numbered : (m : Parts) (t : Tree) → program_told m ≡ Some t → IsNumbered t
told-numbered m t e = numbered_by m (module_told m) t e
