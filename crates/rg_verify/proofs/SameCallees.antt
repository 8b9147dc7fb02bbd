-- The methods of a program, as calls need them, are those of the heads of its methods.
use Rattle.std.proofs.Common.{◌≡◌, refl, sym, ap, ◌∙◌, ℕ, suc, ◌+◌, List, [], ◌∷◌, ◌++◌, length, arith}
use Rattle.rg_tree.specs.Tree.{Member, field, method, Class}
use Rattle.rg_rules.specs.Types.{method_result}
use Rattle.rg_code.specs.Lowering.{methods_among}
use Rattle.rg_spell.specs.declared.rows.Head.{Head}
use Rattle.rg_build.specs.ModuleOf.{member_heads, class_heads, heads_of}
use Rattle.rg_verify_expressions.specs.declared.callee.Callee.{Callee}
use Rattle.rg_classes.specs.Order as order
use Rattle.rg_classes.specs.Order.{place_of, callees_of}
use Rattle.rg_fitted.specs.Callees.{class_callees, callees_from, callees}
use Rattle.rg_told.proofs.Places.{Fresh, other-class, own-class, first-class}

module _ (cs : List Class) where
  members-same : (n before place p c : ℕ) (ms : List Member) (hs : List Head) (tail : ℕ → List Callee) → place_of before place c ≡ p →
      Fresh before place (suc c) → ((m b q : ℕ) → Fresh b q (suc c) → order.callees_from m b q hs ≡ tail m) →
      order.callees_from n before place (member_heads cs c ms ++ hs) ≡ class_callees cs n p (methods_among ms) ++ tail (n + length (methods_among ms))
  members-same n before place p c [] hs tail e f rest = let none : n ≡ n + 0 = omega arith in rest n before place f ∙ ap tail none
  members-same n before place p c (field g ∷ ms) hs tail e f rest = members-same n before place p c ms hs tail e f rest
  members-same n before place p c (method m ∷ ms) hs tail e f rest =
      let more = member_heads cs c ms ++ hs in
      let result = method_result cs m in
      let own = class_callees cs (suc n) (suc p) (methods_among ms) in
      let first : Callee = record { number = n; place = p; result = result } in
      let next : suc n + length (methods_among ms) ≡ n + suc (length (methods_among ms)) = omega arith in
      ap (λ (k : ℕ). record { number = n; place = k; result = result } ∷ order.callees_from (suc n) c (suc k) more) e
      ∙ ap (λ (xs : List Callee). first ∷ xs)
      (members-same (suc n) c (suc p) (suc p) c ms hs tail (own-class c (suc p)) (other-class c (suc p)) rest
      ∙ ap (λ (k : ℕ). own ++ tail k) next)

  classes-same : (n before place c : ℕ) (ks : List Class) → Fresh before place c →
      order.callees_from n before place (class_heads cs c ks) ≡ callees_from cs n ks
  classes-same n before place c [] f = refl
  classes-same n before place c (k ∷ ks) f =
      members-same n before place 0 c k.members (class_heads cs (suc c) ks) (λ m. callees_from cs m ks) (f c (omega arith))
      (λ d l. f d (omega (arith, l))) (λ m b q g. classes-same m b q (suc c) ks g)

pub callees-same : (cs : List Class) → callees cs ≡ callees_of (heads_of cs)
callees-same cs = sym (classes-same cs 0 0 0 0 cs (λ d l. first-class d))
