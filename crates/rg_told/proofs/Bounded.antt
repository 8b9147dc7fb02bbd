-- The program that a module tells has no more parts than it may, and its blocks are no deeper than they may be: raising tests both.
use Rattle.std.proofs.Common.{◌≡◌, refl, sym, ap, ◌∙◌, subst, ℕ, zero, suc, ◌+◌, ◌==◌, ◌≤◌, ◌&&◌, max, Bool as Truth, true, false, if◌then◌else◌}
use Rattle.std.proofs.Common.{List, [], ◌∷◌, ◌++◌, drop, length, filter_map, slice_get, Option, Some, None, option_map, arith}
use Rattle.std.specs.Prelude.{nat_le, nat_lt}
use Rattle.std.specs.List.{AllByRecursion}
use Rattle.std.proofs.lemmas.Bool.Decides.{nat_tests}
use Rattle.rg_base.specs.declared.limits.TheConstants.{BRACKETS, CLASSES, CLASS_FIELDS, CLASS_METHODS, PARAMETERS}
use Rattle.rg_base.specs.declared.ty.Ty.{Ty}
use Rattle.rg_tree.specs.Tree.{Method, Member, method, Tree}
use Rattle.rg_rules.specs.Types.{field_member, method_member}
use Rattle.rg_spell.specs.declared.rows.Shape.{Shape}
use Rattle.rg_spell.specs.declared.rows.Head.{Head}
use Rattle.rg_module.specs.Parts.{Parts}
use Rattle.rg_verify_expressions.specs.Statements.{Kind, declare, assign, write, write_element, call, swap, branch, while, enter, enter_field, print, collect}
use Rattle.rg_verify_expressions.specs.Statements.{return, Else, no_else, otherwise, Block, empty, next}
use Rattle.rg_verify_expressions.specs.Standing.{kind_depth, else_depth, block_depth}
use Rattle.rg_verify_expressions.specs.Blocks.{◌>>◌, test}
use Rattle.rg_verify_expressions.specs.Found.{slots_behind, kind_named, else_named, block_named}
use Rattle.rg_classes.specs.Order.{place_of, takes_methods, may_follow, are_ordered, have_few_fields, are_tables, callees_of}
use Rattle.rg_classes.specs.Written.{Bodied, field_written, numbered, method_written, methods_written, run, members_written}
use Rattle.rg_classes.specs.Written.{classes_written}
use Rattle.rg_bodies.specs.Bodies.{RaisedBody, Bodies, bodies_told}
use Rattle.rg_bodies.specs.Rows.{given_by, method_named, methods_named}
use Rattle.rg_bodies.specs.Standing.{IsWithin, AreWithin, TellsBodies, BodiesAreTold}
use Rattle.rg_raised.specs.Told.{tree_named, program_told}
use Rattle.rg_limits.specs.Depth.{kind_levels, else_levels, block_levels, AreMembersShallow, AreClassesShallow, IsShallow}
use Rattle.rg_limits.specs.Parts.{HasFewMembers, HasFewParts}
use Rattle.rg_told.specs.Laws.{IsBounded}
use Rattle.rg_told.proofs.Places.{Fresh, other-class, own-class, first-class}
use Rattle.rg_told.proofs.Numbered.{params-long, drop-named}

-- Depth

mutual
  kind-levels : (m : Truth) (n : ℕ) (k : Kind) → kind_levels (kind_named m n k) ≡ kind_depth k
  kind-levels m n (declare t r) = refl
  kind-levels m n (assign s r) = refl
  kind-levels m n (write s ks k r) = refl
  kind-levels m n (write_element s ks e r) = refl
  kind-levels m n (call c) = refl
  kind-levels m n (swap y s ks k) = refl
  kind-levels m n (branch e b other) =
      ap (λ (q : ℕ). max q (else_levels (else_named m n other))) (block-levels m n b)
      ∙ ap (λ (q : ℕ). max (block_depth b) q) (else-levels m n other)
  kind-levels m n (while e b) = block-levels m n b
  kind-levels m n (enter s c b w) = block-levels m (n + 1) b
  kind-levels m n (enter_field s ks k c b w) = block-levels m (n + 1) b
  kind-levels m n (print e) = refl
  kind-levels m n collect = refl
  kind-levels m n (return e) = refl

  else-levels : (m : Truth) (n : ℕ) (o : Else) → else_levels (else_named m n o) ≡ else_depth o
  else-levels m n no_else = refl
  else-levels m n (otherwise b) = block-levels m n b

  block-levels : (m : Truth) (n : ℕ) (b : Block) → block_levels (block_named m n b) ≡ block_depth b
  block-levels m n empty = refl
  block-levels m n (next line k b) =
      ap (λ (q : ℕ). max (suc q) (block_levels (block_named m (slots_behind n k) b))) (kind-levels m n k)
      ∙ ap (λ (q : ℕ). max (suc (kind_depth k)) q) (block-levels m (slots_behind n k) b)

named-shallow : (most : ℕ) (m : Truth) (n : ℕ) (b : Block) → block_depth b ≤ most → block_levels (block_named m n b) ≤ most
named-shallow most m n b h = subst (λ (k : ℕ). k ≤ most) (sym (block-levels m n b)) h

methods-shallow : (most c k : ℕ) (hs : List Head) (bs : List RaisedBody) → AllByRecursion (IsWithin most) bs →
    AreMembersShallow most (methods_written c k hs (methods_named hs bs))
methods-shallow most c k [] bs w = tt
methods-shallow most c k (h ∷ hs) [] w = tt
methods-shallow most c k (h ∷ hs) (b ∷ bs) w =
    by (h.class == c) (methods-shallow most c (suc k) hs bs w.1) (named-shallow most true (suc (length h.params)) b.block w.0)
  where
    by : (t : Truth) → AreMembersShallow most (methods_written c (suc k) hs (methods_named hs bs)) →
        block_levels (block_named true (suc (length h.params)) b.block) ≤ most →
        AreMembersShallow most (if t then method (method_written k h (method_named h b)) ∷ methods_written c (suc k) hs (methods_named hs bs) else [])
    by true others own = (own, others)
    by false others own = tt

members-shallow : (most k : ℕ) (e : Option Ty) (ts : List Ty) (ms : List Member) → AreMembersShallow most ms →
    AreMembersShallow most (members_written e ts ms)
members-shallow most k (Some t) ts ms h = tt
members-shallow most k None ts ms h = fields 0 ts
  where
    fields : (j : ℕ) (us : List Ty) → AreMembersShallow most (numbered field_written j us ++ ms)
    fields j [] = h
    fields j (u ∷ us) = fields (suc j) us

all-drop : {A : Type 0} (P : A → Type 0) (n : ℕ) (xs : List A) → AllByRecursion P xs → AllByRecursion P (drop n xs)
all-drop P zero xs h = h
all-drop P (suc n) [] h = tt
all-drop P (suc n) (x ∷ xs) h = all-drop P n xs h.1

classes-shallow : (most k : ℕ) (ss : List Shape) (hs : List Head) (bs : List RaisedBody) → AllByRecursion (IsWithin most) bs →
    AreClassesShallow most (classes_written k ss hs (methods_named hs bs))
classes-shallow most k [] hs bs w = tt
classes-shallow most k (s ∷ ss) hs bs w =
    let n = run k hs in (
      members-shallow most 0 s.element s.fields (methods_written k 0 hs (methods_named hs bs)) (methods-shallow most k 0 hs bs w),
      subst (λ (xs : List Bodied). AreClassesShallow most (classes_written (suc k) ss (drop n hs) xs)) (sym (drop-named n hs bs))
          (classes-shallow most (suc k) ss (drop n hs) (drop n bs) (all-drop (IsWithin most) n bs w)),
    )

tree-shallow : (most : ℕ) (m : Parts) (x : Bodies) → AreWithin most x → IsShallow most (tree_named m x)
tree-shallow most m x w = record {
  main = named-shallow most false 0 x.main.block w.main;
  methods = classes-shallow most 0 m.classes m.methods x.methods w.methods;
}

-- Parts

both : (a b : Truth) → (a && b) ≡ true → (a ≡ true) × (b ≡ true)
both true b h = (refl, h)
both false b h = grind arith

not-more : (a b : ℕ) → nat_le a b ≡ true → a ≤ b
not-more a b h = grind (arith, nat_tests)

-- what methods that may follow say of the first one
follows : (shapes : List Shape) (before k : ℕ) (h : Head) → may_follow shapes before k h ≡ true →
    (suc k ≤ CLASS_METHODS) × (length h.params ≤ PARAMETERS)
follows shapes before k h e =
    let (first, params) = both (nat_le before h.class && takes_methods (slice_get shapes h.class) && nat_lt k CLASS_METHODS) _ e in
    let (second, few) = both (nat_le before h.class && takes_methods (slice_get shapes h.class)) _ first in
    let less : suc k ≤ CLASS_METHODS = grind (arith, nat_tests) in
    (less, not-more (length h.params) PARAMETERS params)

-- methods of a class that are taken from those that come next, the first of which has this number, and what is left for the classes behind it
record Taken (shapes : List Shape) (c k : ℕ) (left : List Head) (ms : List Member) : Type 0 where
  before : ℕ
  place : ℕ
  ordered : are_ordered shapes before place left ≡ true
  fresh : Fresh before place (suc c)
  few : k + length (filter_map method_member ms) ≤ CLASS_METHODS
  params : AllByRecursion (λ (m : Method). length m.params ≤ PARAMETERS) (filter_map method_member ms)

same-class : (a b : ℕ) → (a == b) ≡ true → a ≡ b
same-class a b e = grind (arith, nat_tests)

-- what comes behind a method of the class
record Behind (shapes : List Shape) (before place c k : ℕ) (h : Head) (hs : List Head) : Type 0 where
  short : length h.params ≤ PARAMETERS
  ordered : are_ordered shapes h.class (suc (place_of before place h.class)) hs ≡ true
  next : h.class ≡ c → place_of h.class (suc (place_of before place h.class)) c ≡ suc k
  room : h.class ≡ c → suc k ≤ CLASS_METHODS
  fresh : h.class ≡ c → Fresh h.class (suc (place_of before place h.class)) (suc c)

behind : (shapes : List Shape) (before place c k : ℕ) (h : Head) (hs : List Head) → are_ordered shapes before place (h ∷ hs) ≡ true →
    place_of before place c ≡ k → Behind shapes before place c k h hs
behind shapes before place c k h hs e p =
    let j = place_of before place h.class in
    let (first, others) = both (may_follow shapes before j h) (are_ordered shapes h.class (suc j) hs) e in
    let (room, short) = follows shapes before j h first in
    record {
      short = short;
      ordered = others;
      next = λ same.
          ap (λ (q : ℕ). place_of q (suc j) c) same ∙ own-class c (suc j)
          ∙ ap (λ (q : ℕ). suc q) (ap (place_of before place) same ∙ p);
      room = λ same. subst (λ (q : ℕ). suc q ≤ CLASS_METHODS) (ap (place_of before place) same ∙ p) room;
      fresh = λ same d l. ap (λ (q : ℕ). place_of q (suc j) d) same ∙ other-class c (suc j) d l;
    }

none-more : (k : ℕ) → k ≤ CLASS_METHODS → k + 0 ≤ CLASS_METHODS
none-more k few = omega (arith, few)

without : (shapes : List Shape) (before place c k : ℕ) (h : Head) (hs : List Head) (t : Truth) → (h.class == c) ≡ t →
    are_ordered shapes before place (h ∷ hs) ≡ true → k ≤ CLASS_METHODS → Fresh before place (suc c) →
    (h.class ≡ c → Taken shapes c (suc k) (drop (run c hs) hs) (methods_written c (suc k) hs [])) →
    Taken shapes c k (drop (if t then suc (run c hs) else 0) (h ∷ hs)) []
without shapes before place c k h hs false g e few f rest =
    record { before = before; place = place; ordered = e; fresh = f; few = none-more k few; params = tt }
without shapes before place c k h hs true g e few f rest =
    let r = rest (same-class h.class c g) in
    record { before = r.before; place = r.place; ordered = r.ordered; fresh = r.fresh; few = none-more k few; params = tt }

with-body : (shapes : List Shape) (before place c k : ℕ) (h : Head) (hs : List Head) (b : Bodied) (bs : List Bodied) (t : Truth) →
    (h.class == c) ≡ t → are_ordered shapes before place (h ∷ hs) ≡ true → k ≤ CLASS_METHODS → Fresh before place (suc c) →
    length h.params ≤ PARAMETERS → (h.class ≡ c → Taken shapes c (suc k) (drop (run c hs) hs) (methods_written c (suc k) hs bs)) →
    Taken shapes c k (drop (if t then suc (run c hs) else 0) (h ∷ hs))
    (if t then method (method_written k h b) ∷ methods_written c (suc k) hs bs else [])
with-body shapes before place c k h hs b bs false g e few f short rest =
    record { before = before; place = place; ordered = e; fresh = f; few = none-more k few; params = tt }
with-body shapes before place c k h hs b bs true g e few f short rest =
    let r = rest (same-class h.class c g) in
    let n = length (filter_map method_member (methods_written c (suc k) hs bs)) in
    let all : k + suc n ≤ CLASS_METHODS = omega (arith, r.few) in
    record {
      before = r.before;
      place = r.place;
      ordered = r.ordered;
      fresh = r.fresh;
      few = all;
      params = (subst (λ (q : ℕ). q ≤ PARAMETERS) (sym (params-long 1 h.params)) short, r.params);
    }

taken : (shapes : List Shape) (before place c k : ℕ) (hs : List Head) (bs : List Bodied) → are_ordered shapes before place hs ≡ true →
    place_of before place c ≡ k → k ≤ CLASS_METHODS → Fresh before place (suc c) →
    Taken shapes c k (drop (run c hs) hs) (methods_written c k hs bs)
taken shapes before place c k [] bs e p few f =
    record { before = before; place = place; ordered = e; fresh = f; few = none-more k few; params = tt }
taken shapes before place c k (h ∷ hs) [] e p few f =
    let q = behind shapes before place c k h hs e p in
    without shapes before place c k h hs (h.class == c) refl e few f (λ same.
    taken shapes h.class (suc (place_of before place h.class)) c (suc k) hs [] q.ordered (q.next same) (q.room same) (q.fresh same))
taken shapes before place c k (h ∷ hs) (b ∷ bs) e p few f =
    let q = behind shapes before place c k h hs e p in
    with-body shapes before place c k h hs b bs (h.class == c) refl e few f q.short (λ same.
    taken shapes h.class (suc (place_of before place h.class)) c (suc k) hs bs q.ordered (q.next same) (q.room same) (q.fresh same))

-- Members

no-fields : (c k : ℕ) (hs : List Head) (bs : List Bodied) → filter_map field_member (methods_written c k hs bs) ≡ []
no-fields c k [] bs = refl
no-fields c k (h ∷ hs) [] = refl
no-fields c k (h ∷ hs) (b ∷ bs) = by (h.class == c) (no-fields c (suc k) hs bs)
  where
    by : (t : Truth) → filter_map field_member (methods_written c (suc k) hs bs) ≡ [] →
        filter_map field_member (if t then method (method_written k h b) ∷ methods_written c (suc k) hs bs else []) ≡ []
    by true others = others
    by false others = refl

fields-then : (k : ℕ) (ts : List Ty) (ms : List Member) → filter_map field_member ms ≡ [] →
    length (filter_map field_member (numbered field_written k ts ++ ms)) ≡ length ts
fields-then k [] ms h = ap length h
fields-then k (t ∷ ts) ms h = ap (λ (n : ℕ). suc n) (fields-then (suc k) ts ms h)

methods-then : (k : ℕ) (ts : List Ty) (ms : List Member) →
    filter_map method_member (numbered field_written k ts ++ ms) ≡ filter_map method_member ms
methods-then k [] ms = refl
methods-then k (t ∷ ts) ms = methods-then (suc k) ts ms

-- the members of a class have no more parts than they may
record FewMembers (ms : List Member) : Type 0 where
  fields : length (filter_map field_member ms) ≤ CLASS_FIELDS
  methods : length (filter_map method_member ms) ≤ CLASS_METHODS
  params : AllByRecursion (λ (m : Method). length m.params ≤ PARAMETERS) (filter_map method_member ms)

few-written : (e : Option Ty) (ts : List Ty) (ms : List Member) → filter_map field_member ms ≡ [] → length ts ≤ CLASS_FIELDS →
    length (filter_map method_member ms) ≤ CLASS_METHODS →
    AllByRecursion (λ (m : Method). length m.params ≤ PARAMETERS) (filter_map method_member ms) → FewMembers (members_written e ts ms)
few-written (Some t) ts ms none thin few short = record { fields = omega arith; methods = omega arith; params = tt }
few-written None ts ms none thin few short = record {
  fields = subst (λ (n : ℕ). n ≤ CLASS_FIELDS) (sym (fields-then 0 ts ms none)) thin;
  methods = subst (λ (ns : List Method). length ns ≤ CLASS_METHODS) (sym (methods-then 0 ts ms)) few;
  params = subst (λ (ns : List Method). AllByRecursion (λ (m : Method). length m.params ≤ PARAMETERS) ns) (sym (methods-then 0 ts ms)) short;
}

-- Classes

few-classes : (shapes : List Shape) (before place c : ℕ) (ss : List Shape) (hs : List Head) (bs : List Bodied) →
    are_ordered shapes before place hs ≡ true → Fresh before place c → have_few_fields ss ≡ true →
    AllByRecursion HasFewMembers (classes_written c ss hs bs)
few-classes shapes before place c [] hs bs e f thin = tt
few-classes shapes before place c (s ∷ ss) hs bs e f thin =
    let same : c ≤ c = omega arith in
    let room : 0 ≤ CLASS_METHODS = omega arith in
    let t = taken shapes before place c 0 hs bs e (f c same) room (λ d l. f d (omega (arith, l))) in
    let (one, others) = both (nat_le (length s.fields) CLASS_FIELDS) (have_few_fields ss) thin in
    let ms = methods_written c 0 hs bs in
    let few : length (filter_map method_member ms) ≤ CLASS_METHODS = omega (arith, t.few) in
    let m = few-written s.element s.fields ms (no-fields c 0 hs bs) (not-more (length s.fields) CLASS_FIELDS one) few t.params in (
      record { fields = m.fields; methods = m.methods; params = m.params },
      few-classes shapes t.before t.place (suc c) ss (drop (run c hs) hs) (drop (run c hs) bs) t.ordered t.fresh others,
    )

as-many : (k : ℕ) (ss : List Shape) (hs : List Head) (bs : List Bodied) → length (classes_written k ss hs bs) ≡ length ss
as-many k [] hs bs = refl
as-many k (s ∷ ss) hs bs = ap (λ (n : ℕ). suc n) (as-many (suc k) ss (drop (run k hs) hs) (drop (run k hs) bs))

pub few-parts : (m : Parts) (x : Bodies) → are_tables m.classes m.methods ≡ true → HasFewParts (tree_named m x)
few-parts m x e =
    let bs = methods_named m.methods x.methods in
    let (first, ordered) = both (nat_le (length m.classes) CLASSES && have_few_fields m.classes) (are_ordered m.classes 0 0 m.methods) e in
    let (few, thin) = both (nat_le (length m.classes) CLASSES) (have_few_fields m.classes) first in
    record {
      classes = subst (λ (n : ℕ). n ≤ CLASSES) (sym (as-many 0 m.classes m.methods bs)) (not-more (length m.classes) CLASSES few);
      members = few-classes m.classes 0 0 0 m.classes m.methods bs ordered (λ d l. first-class d) thin;
    }

-- What is told

bounded_by : BodiesAreTold → (m : Parts) (t : Truth) (r : Tree) → are_tables m.classes m.methods ≡ t →
    option_map (tree_named m) (◌>>◌ (test t) (bodies_told (given_by m (callees_of m.methods)) BRACKETS m.methods)) ≡ Some r → IsBounded r
bounded_by law m false r e h = grind arith
bounded_by law m true r e h =
    let g = given_by m (callees_of m.methods) in
    by (bodies_told g BRACKETS m.methods) (law g BRACKETS m.methods) h
  where
    by : (o : Option Bodies) → TellsBodies (given_by m (callees_of m.methods)) BRACKETS m.methods o → option_map (tree_named m) o ≡ Some r →
        IsBounded r
    by None tells q = grind arith
    by (Some x) tells q =
        let same : tree_named m x ≡ r = grind arith in
        subst IsBounded same (record { parts = few-parts m x e; depth = tree-shallow BRACKETS m x tells.1 })

pub told-bounded : BodiesAreTold → (m : Parts) (r : Tree) → program_told m ≡ Some r → IsBounded r
told-bounded law m r h = bounded_by law m (are_tables m.classes m.methods) r refl h
