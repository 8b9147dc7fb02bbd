-- The tables of a program with few parts are such as raising takes: no more classes and fields than may be, and the methods in order.
use Rattle.std.proofs.Common.{◌≡◌, refl, sym, ap, ◌∙◌, subst, ℕ, zero, suc, ◌+◌, ◌≤◌, ◌&&◌, Bool as Truth, true, List, [], ◌∷◌, ◌++◌, map, length}
use Rattle.std.proofs.Common.{filter_map, slice_get, Option, Some, None, option_map, arith}
use Rattle.std.specs.Prelude.{nat_le, nat_lt}
use Rattle.std.specs.List.{AllByRecursion}
use Rattle.std.proofs.lemmas.Bool.Decides.{nat_tests}
use Rattle.std.proofs.lemmas.List.{length-map}
use Rattle.rg_base.specs.declared.limits.TheConstants.{CLASSES, CLASS_FIELDS, CLASS_METHODS, PARAMETERS}
use Rattle.rg_tree.specs.Tree.{Ty as Written, Param, Method, Member, field, method, Class, Tree}
use Rattle.rg_rules.specs.Types.{field_member, method_member, type_of, param_types}
use Rattle.rg_spell.specs.declared.rows.Shape.{Shape}
use Rattle.rg_spell.specs.declared.rows.Head.{Head}
use Rattle.rg_build.specs.ModuleOf.{field_types, shape_of, shapes_of, head_of, member_heads, class_heads, heads_of}
use Rattle.rg_classes.specs.Order.{place_of, takes_methods, may_follow, are_ordered, have_few_fields, are_tables}
use Rattle.rg_raised.specs.Raises.{AreMembers, AreClassesNumbered, IsNumbered}
use Rattle.rg_limits.specs.Parts.{HasFewMembers, HasFewParts}
use Rattle.rg_told.proofs.Places.{Fresh, other-class, own-class, first-class}

-- Tests

less : (a b : ℕ) → a ≤ b → nat_le a b ≡ true
less a b l = grind (arith, nat_tests)

below : (a b : ℕ) → suc a ≤ b → nat_lt a b ≡ true
below a b l = grind (arith, nat_tests)

four : (a b c d : Truth) → a ≡ true → b ≡ true → c ≡ true → d ≡ true → (a && b && c && d) ≡ true
four a b c d e f g h = rw (e, f, g, h) refl

three : (a b c : Truth) → a ≡ true → b ≡ true → c ≡ true → (a && b && c) ≡ true
three a b c e f g = rw (e, f, g) refl

two : (a b : Truth) → a ≡ true → b ≡ true → (a && b) ≡ true
two a b e f = rw (e, f) refl

-- Fields

fields-long : (cs : List Class) (ms : List Member) → length (field_types cs ms) ≡ length (filter_map field_member ms)
fields-long cs [] = refl
fields-long cs (field f ∷ ms) = ap (λ (n : ℕ). suc n) (fields-long cs ms)
fields-long cs (method m ∷ ms) = fields-long cs ms

few-fields : (cs ks : List Class) → AllByRecursion HasFewMembers ks → have_few_fields (map (shape_of cs) ks) ≡ true
few-fields cs [] h = refl
few-fields cs (k ∷ ks) h =
    let few : length (field_types cs k.members) ≤ CLASS_FIELDS = subst (λ (n : ℕ). n ≤ CLASS_FIELDS) (sym (fields-long cs k.members)) h.0.fields in
    two (nat_le (length (field_types cs k.members)) CLASS_FIELDS) (have_few_fields (map (shape_of cs) ks))
    (less (length (field_types cs k.members)) CLASS_FIELDS few) (few-fields cs ks h.1)

-- Methods

-- the parameters of these are few
abbrev FewParams : List Member → Type 0
FewParams ms = AllByRecursion (λ (m : Method). length m.params ≤ PARAMETERS) (filter_map method_member ms)

module _ (cs : List Class) (shapes : List Shape) where
  members-ordered : (before place p c : ℕ) (ms : List Member) (hs : List Head) → takes_methods (slice_get shapes c) ≡ true →
      place_of before place c ≡ p → before ≤ c → p + length (filter_map method_member ms) ≤ CLASS_METHODS → FewParams ms →
      Fresh before place (suc c) →
      ((b q : ℕ) → b ≤ c → Fresh b q (suc c) → are_ordered shapes b q hs ≡ true) →
      are_ordered shapes before place (member_heads cs c ms ++ hs) ≡ true
  members-ordered before place p c [] hs takes e l few params f rest = rest before place l f
  members-ordered before place p c (field g ∷ ms) hs takes e l few params f rest =
      members-ordered before place p c ms hs takes e l few params f rest
  members-ordered before place p c (method m ∷ ms) hs takes e l few params f rest =
      let h = head_of cs c m in
      let k = place_of before place c in
      let more = member_heads cs c ms ++ hs in
      let n = length (filter_map method_member ms) in
      let room : suc p ≤ CLASS_METHODS = omega (arith, few) in
      let short : length (param_types cs m) ≤ PARAMETERS =
      subst (λ (j : ℕ). j ≤ PARAMETERS) (sym (length-map m.params (λ (q : Param). type_of cs q.ty))) params.0 in
      let follows : may_follow shapes before k h ≡ true =
      four (nat_le before c) (takes_methods (slice_get shapes c)) (nat_lt k CLASS_METHODS) (nat_le (length (param_types cs m)) PARAMETERS)
      (less before c l) takes (ap (λ (j : ℕ). nat_lt j CLASS_METHODS) e ∙ below p CLASS_METHODS room)
      (less (length (param_types cs m)) PARAMETERS short) in
      let left : suc p + n ≤ CLASS_METHODS = omega (arith, few) in
      let same : c ≤ c = omega arith in
      let others : are_ordered shapes c (suc p) more ≡ true =
      members-ordered c (suc p) (suc p) c ms hs takes (own-class c (suc p)) same left params.1 (other-class c (suc p)) rest in
      two (may_follow shapes before k h) (are_ordered shapes c (suc k) more) follows
      (ap (λ (j : ℕ). are_ordered shapes c (suc j) more) e ∙ others)

  class-ordered : (before place c : ℕ) (k : Class) (e : Option Written) (ms : List Member) (hs : List Head) → AreMembers e ms →
      slice_get shapes c ≡ Some (shape_of cs (record k { element = e })) → Fresh before place c → before ≤ c →
      length (filter_map method_member ms) ≤ CLASS_METHODS → FewParams ms →
      ((b q : ℕ) → b ≤ c → Fresh b q (suc c) → are_ordered shapes b q hs ≡ true) →
      are_ordered shapes before place (member_heads cs c ms ++ hs) ≡ true
  class-ordered before place c k None ms hs n there f l few params rest =
      let same : c ≤ c = omega arith in
      let all : 0 + length (filter_map method_member ms) ≤ CLASS_METHODS = omega (arith, few) in
      members-ordered before place 0 c ms hs (ap takes_methods there) (f c same) l all params (λ d g. f d (omega (arith, g))) rest
  class-ordered before place c k (Some t) ms hs n there f l few params rest =
      subst (λ (qs : List Member). are_ordered shapes before place (member_heads cs c qs ++ hs) ≡ true) (sym n)
      (rest before place l (λ d g. f d (omega (arith, g))))

  classes-ordered : (before place c : ℕ) (ks : List Class) → AreClassesNumbered c ks → AllByRecursion HasFewMembers ks →
      ((i : ℕ) → slice_get shapes (c + i) ≡ option_map (shape_of cs) (slice_get ks i)) → Fresh before place c → before ≤ c →
      are_ordered shapes before place (class_heads cs c ks) ≡ true
  classes-ordered before place c [] n few there f l = refl
  classes-ordered before place c (k ∷ ks) n few there f l =
      let none : c ≡ c + 0 = omega arith in
      class-ordered before place c k k.element k.members (class_heads cs (suc c) ks) n.1 (ap (slice_get shapes) none ∙ there 0) f l few.0.methods
      few.0.params (λ b q le g.
      classes-ordered b q (suc c) ks n.2 few.1
      (λ i. let next : suc c + i ≡ c + suc i = omega arith in ap (slice_get shapes) next ∙ there (suc i)) g (omega (arith, le)))

shape-at : (cs ks : List Class) (i : ℕ) → slice_get (map (shape_of cs) ks) i ≡ option_map (shape_of cs) (slice_get ks i)
shape-at cs [] i = refl
shape-at cs (k ∷ ks) zero = refl
shape-at cs (k ∷ ks) (suc i) = shape-at cs ks i

pub few-tables : (t : Tree) → IsNumbered t → HasFewParts t → are_tables (shapes_of t.classes) (heads_of t.classes) ≡ true
few-tables t n h =
    let cs = t.classes in
    let shapes = shapes_of cs in
    let few : length shapes ≤ CLASSES = subst (λ (k : ℕ). k ≤ CLASSES) (sym (length-map cs (shape_of cs))) h.classes in
    let zero-more : (i : ℕ) → 0 + i ≡ i = λ i. omega arith in
    let same : 0 ≤ 0 = omega arith in
    three (nat_le (length shapes) CLASSES) (have_few_fields shapes) (are_ordered shapes 0 0 (heads_of cs)) (less (length shapes) CLASSES few)
    (few-fields cs cs h.members)
    (classes-ordered cs shapes 0 0 0 cs n.classes h.members (λ i. ap (slice_get shapes) (zero-more i) ∙ shape-at cs cs i) (λ d l. first-class d) same)
