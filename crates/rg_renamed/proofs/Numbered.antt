-- A program with numbers for names is numbered.
use Rattle.std.proofs.Common.{◌≡◌, refl, sym, ap, ◌∙◌, subst, ℕ, zero, suc, ◌+◌, Bool as Truth, true, false, List, [], ◌∷◌, ◌++◌, length}
use Rattle.std.proofs.Common.{filter_map, Option, Some, None, option_map, Ok, arith}
use Rattle.std.proofs.lemmas.List.{length-append}
use Rattle.rg_rules.specs.Answers.{test, at_line}
use Rattle.rg_rules.specs.Types.{type_of, field_member, method_member}
use Rattle.rg_rules.specs.Headers.{element_header, no_members, rest_header, class_names, class_members, judge_headers}
use Rattle.rg_rules.specs.Acceptance.{Accepted}
use Rattle.rg_base.specs.declared.ty.Ty.TheVariants.{Ref}
use Rattle.rg_base.specs.declared.fault.Code.TheVariants.{BadType}
use Rattle.rg_rules.proofs.Answers.{then-ok, test-ok, at_line-ok}
use Rattle.rg_rules.proofs.Header.{no_members-none}
use Rattle.rg_rules.proofs.Acceptance.{Accepted-parts}
use Rattle.rg_tree.specs.Tree.{Ty as Written, Param, Field, Method, Member, field, method, Class, Tree}
use Rattle.rg_code.specs.Lowering.{Scope, with_slot, with_params, method_scope}
use Rattle.rg_verify_expressions.specs.Statements.{Kind, declare, assign, write, write_element, call, swap, branch, while, enter, enter_field, print, collect}
use Rattle.rg_verify_expressions.specs.Statements.{return, Else, no_else, otherwise, Block, empty, next}
use Rattle.rg_verify_expressions.specs.Found.{slots_behind, kind_named, else_named, block_named}
use Rattle.rg_raised.specs.Raises.{slots_after, IsKindNumbered, IsElseNumbered, IsBlockNumbered, AreParamsNumbered, AreMethodsNumbered}
use Rattle.rg_raised.specs.Raises.{IsMethodNumbered, AreMembersNumbered, AreMembers, AreClassesNumbered, IsNumbered}
use Rattle.rg_numbered.specs.Numbered.{numbered_block}
use Rattle.rg_renamed.specs.Renamed.{renamed_type, renamed_params, renamed_method, renamed_field, renamed_from, renamed_members, renamed_class}
use Rattle.rg_renamed.specs.Renamed.{renamed_classes, renamed}

one-more : (n : ℕ) → n + 1 ≡ suc n
one-more n = omega arith

-- Blocks

behind-named : (m : Truth) (n : ℕ) (k : Kind) → slots_behind n k ≡ slots_after n (kind_named m n k)
behind-named m n (declare t r) = one-more n
behind-named m n (assign s r) = refl
behind-named m n (write s ks k r) = refl
behind-named m n (write_element s ks e r) = refl
behind-named m n (call c) = refl
behind-named m n (swap y s ks k) = refl
behind-named m n (branch e b other) = refl
behind-named m n (while e b) = refl
behind-named m n (enter s c b w) = refl
behind-named m n (enter_field s ks k c b w) = refl
behind-named m n (print e) = refl
behind-named m n collect = refl
behind-named m n (return e) = refl

mutual
  kind-numbered : (m : Truth) (n : ℕ) (k : Kind) → IsKindNumbered n (kind_named m n k)
  kind-numbered m n (declare t r) = refl
  kind-numbered m n (assign s r) = tt
  kind-numbered m n (write s ks k r) = tt
  kind-numbered m n (write_element s ks e r) = tt
  kind-numbered m n (call c) = tt
  kind-numbered m n (swap y s ks k) = tt
  kind-numbered m n (branch e b other) = (block-numbered m n b, else-numbered m n other)
  kind-numbered m n (while e b) = block-numbered m n b
  kind-numbered m n (enter s c b w) =
      (refl, subst (λ (k : ℕ). IsBlockNumbered k (block_named m (n + 1) b)) (one-more n) (block-numbered m (n + 1) b))
  kind-numbered m n (enter_field s ks k c b w) =
      (refl, subst (λ (j : ℕ). IsBlockNumbered j (block_named m (n + 1) b)) (one-more n) (block-numbered m (n + 1) b))
  kind-numbered m n (print e) = tt
  kind-numbered m n collect = tt
  kind-numbered m n (return e) = tt

  else-numbered : (m : Truth) (n : ℕ) (o : Else) → IsElseNumbered n (else_named m n o)
  else-numbered m n no_else = tt
  else-numbered m n (otherwise b) = block-numbered m n b

  block-numbered : (m : Truth) (n : ℕ) (b : Block) → IsBlockNumbered n (block_named m n b)
  block-numbered m n empty = tt
  block-numbered m n (next line k b) =
      let s = slots_behind n k in
      (kind-numbered m n k, subst (λ (j : ℕ). IsBlockNumbered j (block_named m s b)) (behind-named m n k) (block-numbered m s b))

-- Members

params-numbered : (cs : List Class) (s : ℕ) (ps : List Param) → AreParamsNumbered s (renamed_params cs s ps)
params-numbered cs s [] = tt
params-numbered cs s (p ∷ ps) = (refl, params-numbered cs (suc s) ps)

pub params-long : (cs : List Class) (s : ℕ) (ps : List Param) → length (renamed_params cs s ps) ≡ length ps
params-long cs s [] = refl
params-long cs s (p ∷ ps) = ap (λ (n : ℕ). suc n) (params-long cs (suc s) ps)

params-slots : (cs : List Class) (ss : Scope) (ps : List Param) → length (with_params cs ss ps) ≡ length ss + length ps
params-slots cs ss [] = omega arith
params-slots cs ss (p ∷ ps) =
    let rest = params-slots cs (with_slot ss (Some p.name) (type_of cs p.ty)) ps in
    let more = length-append ss (record { name = Some p.name; ty = type_of cs p.ty } ∷ []) in omega (arith, rest, more)

-- the variables in front of a method are `self` and its parameters
pub method-slots : (cs : List Class) (c : ℕ) (m : Method) → length (method_scope cs c m) ≡ suc (length m.params)
method-slots cs c m = let n = params-slots cs (with_slot [] None (Ref m.receiver c)) m.params in omega (arith, n)

method-numbered : (cs : List Class) (c k : ℕ) (m : Method) → IsMethodNumbered k (renamed_method cs c k m)
method-numbered cs c k m =
    let s = method_scope cs c m in
    let same : length s ≡ suc (length (renamed_params cs 1 m.params)) =
    method-slots cs c m ∙ ap (λ (n : ℕ). suc n) (sym (params-long cs 1 m.params)) in
    record {
      name = refl;
      params = params-numbered cs 1 m.params;
      body = subst (λ (n : ℕ). IsBlockNumbered n (block_named true (length s) (numbered_block cs s m.body))) same
          (block-numbered true (length s) (numbered_block cs s m.body));
    }

methods-numbered : (cs : List Class) (c k : ℕ) (ms : List Method) →
    AreMethodsNumbered k (renamed_from (λ j m. method (renamed_method cs c j m)) k ms)
methods-numbered cs c k [] = tt
methods-numbered cs c k (m ∷ ms) = (method-numbered cs c k m, methods-numbered cs c (suc k) ms)

-- methods alone are members
only-methods : (ms : List Member) → AreMethodsNumbered 0 ms → (k : ℕ) → AreMembersNumbered k ms
only-methods [] h k = tt
only-methods (m ∷ ms) h k = by m h
  where
    by : (m : Member) → AreMethodsNumbered 0 (m ∷ ms) → AreMembersNumbered k (m ∷ ms)
    by (field f) g = absurd g
    by (method q) g = g

fields-numbered : (cs : List Class) (k : ℕ) (fs : List Field) (ms : List Member) → AreMethodsNumbered 0 ms →
    AreMembersNumbered k (renamed_from (λ j f. field (renamed_field cs j f)) k fs ++ ms)
fields-numbered cs k [] ms h = only-methods ms h k
fields-numbered cs k (f ∷ fs) ms h = (refl, fields-numbered cs (suc k) fs ms h)

-- Classes

members-numbered : (cs : List Class) (c : ℕ) (d : Class) (e : Option Written) → rest_header cs d e ≡ Ok tt →
    AreMembers (option_map (renamed_type cs) e) (renamed_members cs c d.members)
members-numbered cs c d None h =
    fields-numbered cs 0 (filter_map field_member d.members) _ (methods-numbered cs c 0 (filter_map method_member d.members))
members-numbered cs c d (Some t) h =
    let p = then-ok (at_line d.line (element_header cs d t)) _ tt h in
    let n = test-ok (no_members d.members) BadType tt (at_line-ok d.line (test (no_members d.members) BadType) tt p.2) in
    ap (renamed_members cs c) (no_members-none d.members n)

classes-numbered : (cs : List Class) (k : ℕ) (ds : List Class) → class_members cs ds ≡ Ok tt →
    AreClassesNumbered k (renamed_from (renamed_class cs) k ds)
classes-numbered cs k [] h = tt
classes-numbered cs k (d ∷ ds) h =
    let p = then-ok (rest_header cs d d.element) _ tt h in
    (refl, members-numbered cs k d d.element p.1, classes-numbered cs (suc k) ds p.2)

pub renamed-numbered : (t : Tree) → Accepted t → IsNumbered (renamed t)
renamed-numbered t a =
    let p = then-ok (class_names [] t.classes) _ tt (Accepted-parts t a).headers in
    record {
      classes = classes-numbered t.classes 0 t.classes p.2;
      body = block-numbered false 0 (numbered_block t.classes [] t.body);
    }
