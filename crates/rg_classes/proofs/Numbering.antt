-- Methods numbered in order of their classes.
use Rattle.std.proofs.Common.{◌≡◌, ◌==◌, ◌&&◌, ℕ, suc, ◌+◌, ◌*◌, ◌<◌, ◌≤◌, Bool as Truth, true, false, if◌then◌else◌, List, [], ◌∷◌, ◌++◌}
use Rattle.std.proofs.Common.{length, drop, slice_get, Option, Some, None, Result, Ok, Err, Vec, refl, sym, ◌∙◌, ap, subst, append_assoc, arith}
use Rattle.std.specs.Prelude.{nat_le, nat_lt}
use Rattle.std.proofs.lemmas.List.{append-nil, drop_all, length_push}
use Rattle.std.proofs.lemmas.Option.{slice_get_within}
use Rattle.std.proofs.lemmas.Bool.Decides.{nat_tests}
use Rattle.std.specs.declared.alloc.Global.{Global}
use Rattle.rg_base.specs.declared.limits.TheConstants.{CLASSES, CLASS_FIELDS, CLASS_METHODS}
use Rattle.rg_spell.specs.declared.rows.Shape.{Shape}
use Rattle.rg_spell.specs.declared.rows.Head.{Head}
use Rattle.rg_verify_expressions.specs.declared.callee.Callee.{Callee}
use Rattle.rg_verify_expressions.specs.declared.refusal.Refusal.{Refusal}
use Rattle.rg_verify_expressions.specs.declared.refusal.Refusal.TheVariants as refusal
use Rattle.rg_classes.specs.Order.{place_of, callees_from, callees_of, takes_methods, may_follow, are_ordered, have_few_fields, are_tables}
use Rattle.rg_classes.specs.Order.{NumbersCallees, FindsCallees}

both : (a b : Truth) → (a && b) ≡ true → (a ≡ true) × (b ≡ true)
both true b h = (refl, h)
both false b h = absurd cc

-- Fields

pub few-more : (shapes : List Shape) (i : ℕ) (s : Shape) → drop i shapes ≡ s ∷ drop (i + 1) shapes → length s.fields ≤ CLASS_FIELDS
    → have_few_fields (drop i shapes) ≡ have_few_fields (drop (i + 1) shapes)
few-more shapes i s rest few =
    let fits : nat_le (length s.fields) CLASS_FIELDS ≡ true = grind (arith, nat_tests) in
    ap have_few_fields rest ∙ ap (λ (b : Truth). b && have_few_fields (drop (i + 1) shapes)) fits

pub few-not : (shapes : List Shape) (i : ℕ) (s : Shape) → drop i shapes ≡ s ∷ drop (i + 1) shapes → CLASS_FIELDS < length s.fields
    → have_few_fields (drop i shapes) ≡ false
few-not shapes i s rest many =
    let fits : nat_le (length s.fields) CLASS_FIELDS ≡ false = grind (arith, nat_tests) in
    ap have_few_fields rest ∙ ap (λ (b : Truth). b && have_few_fields (drop (i + 1) shapes)) fits

-- Order

-- so many methods are numbered, the last ones of a class
pub record CalleesSoFar (shapes : List Shape) (heads : List Head) (done : List Callee) (i before next : ℕ) : Type 0 where
  pub few : next ≤ 64
  pub class : before ≤ 1024
  pub counted : length done ≤ before * 64 + next
  pub told : done ++ callees_from (length done) before next (drop i heads) ≡ callees_of heads
  pub ordered : are_ordered shapes before next (drop i heads) ≡ are_ordered shapes 0 0 heads

pub callees-none : (shapes : List Shape) (heads : List Head) → CalleesSoFar shapes heads [] 0 0 0
callees-none shapes heads = record { few = omega arith; class = omega arith; counted = omega arith; told = refl; ordered = refl }

class-there : (shapes : List Shape) (c : ℕ) (o : Option Shape) → slice_get shapes c ≡ o → takes_methods o ≡ true → c < length shapes
class-there shapes c None e h = absurd cc
class-there shapes c (Some s) e h = slice_get_within shapes c s e

place-bound : (before next c n : ℕ) (same : Truth) → (c == before) ≡ same → before ≤ c → next ≤ 64 → n ≤ before * 64 + next
    → n ≤ c * 64 + (if same then next else 0)
place-bound before next c n true e le few h =
    let is : c ≡ before = grind (arith, nat_tests) in
    subst (λ (k : ℕ). n ≤ k * 64 + next) (sym is) h
place-bound before next c n false e le few h =
    let other : before < c = grind (arith, nat_tests) in
    omega arith

module _ (shapes : List Shape) (heads : List Head) (most : length shapes ≤ CLASSES) (done : List Callee) (i before next : ℕ)
    (s : CalleesSoFar shapes heads done i before next) (h : Head) (rest : drop i heads ≡ h ∷ drop (i + 1) heads) where
  -- the next method may not follow
  pub callees-not : may_follow shapes before (place_of before next h.class) h ≡ false → are_ordered shapes 0 0 heads ≡ false
  callees-not stops =
      let k = place_of before next h.class in
      sym s.ordered ∙ ap (are_ordered shapes before next) rest
      ∙ ap (λ (b : Truth). b && are_ordered shapes h.class (suc k) (drop (i + 1) heads)) stops

  module _ (yes-follows : may_follow shapes before (place_of before next h.class) h ≡ true) where
    -- it is of a class that is there, and has a number in it
    bounds : (before ≤ h.class) × (h.class < 1024) × (place_of before next h.class < 64)
    bounds =
        let k = place_of before next h.class in
        let (first, params) = both (nat_le before h.class && takes_methods (slice_get shapes h.class) && nat_lt k CLASS_METHODS) _ yes-follows in
        let (second, few) = both (nat_le before h.class && takes_methods (slice_get shapes h.class)) _ first in
        let (later, takes) = both (nat_le before h.class) _ second in
        let there = class-there shapes h.class (slice_get shapes h.class) refl takes in
        let up : before ≤ h.class = grind (arith, nat_tests) in
        let less : k < 64 = grind (arith, nat_tests) in
        (up, omega (arith, there, most), less)

    pub callees-place : place_of before next h.class < 64
    callees-place = bounds.2

    pub callees-more : (more : List Callee)
        → more ≡ done ++ record { number = length done; place = place_of before next h.class; result = h.result } ∷ []
        → CalleesSoFar shapes heads more (i + 1) h.class (place_of before next h.class + 1)
    callees-more more is =
        let k = place_of before next h.class in
        let (up, there, less) = bounds in
        let one : Callee = record { number = length done; place = k; result = h.result } in
        let longer : length more ≡ length done + 1 = ap length is ∙ omega (arith, length_push done one) in
        let suc-is : suc k ≡ k + 1 = omega arith in
        let suc-done : suc (length done) ≡ length more = omega (arith, longer) in
        let bound = place-bound before next h.class (length done) (h.class == before) refl up s.few s.counted in
        let left : callees_from (length done) before next (drop i heads) ≡ one ∷ callees_from (length more) h.class (k + 1) (drop (i + 1) heads) =
        ap (callees_from (length done) before next) rest
        ∙ ap (λ (n : ℕ). one ∷ callees_from n h.class (suc k) (drop (i + 1) heads)) suc-done
        ∙ ap (λ (n : ℕ). one ∷ callees_from (length more) h.class n (drop (i + 1) heads)) suc-is in
        record {
          few = omega (arith, less);
          class = omega (arith, there);
          counted = omega (arith, longer, bound);
          told = ap (λ (cs : List Callee). cs ++ callees_from (length more) h.class (k + 1) (drop (i + 1) heads)) is
              ∙ append_assoc done (one ∷ []) (callees_from (length more) h.class (k + 1) (drop (i + 1) heads))
              ∙ ap (λ (cs : List Callee). done ++ cs) (sym left) ∙ s.told;
          ordered = ap (λ (n : ℕ). are_ordered shapes h.class n (drop (i + 1) heads)) (sym suc-is)
              ∙ sym (ap (λ (b : Truth). b && are_ordered shapes h.class (suc k) (drop (i + 1) heads)) yes-follows)
              ∙ sym (ap (are_ordered shapes before next) rest) ∙ s.ordered;
        }

-- all are numbered
pub callees-all : (shapes : List Shape) (heads : List Head) (done : Vec Callee Global) (i before next : ℕ)
    → CalleesSoFar shapes heads done.items i before next → length heads ≤ i → NumbersCallees shapes heads (Ok done)
callees-all shapes heads done i before next s past =
    let none = drop_all i heads past in (
      sym s.ordered ∙ ap (are_ordered shapes before next) none,
      sym (append-nil done.items) ∙ ap (λ (hs : List Head). done.items ++ callees_from (length done.items) before next hs) (sym none) ∙ s.told,
    )

-- Tables

pub tables-many : (shapes : List Shape) (heads : List Head) → CLASSES < length shapes → are_tables shapes heads ≡ false
tables-many shapes heads many =
    let fits : nat_le (length shapes) CLASSES ≡ false = grind (arith, nat_tests) in
    ap (λ (b : Truth). b && have_few_fields shapes && are_ordered shapes 0 0 heads) fits

pub tables-wide : (shapes : List Shape) (heads : List Head) → length shapes ≤ CLASSES → have_few_fields shapes ≡ false
    → are_tables shapes heads ≡ false
tables-wide shapes heads few wide =
    let fits : nat_le (length shapes) CLASSES ≡ true = grind (arith, nat_tests) in
    ap (λ (b : Truth). b && have_few_fields shapes && are_ordered shapes 0 0 heads) fits
    ∙ ap (λ (b : Truth). b && are_ordered shapes 0 0 heads) wide

tables-are : (shapes : List Shape) (heads : List Head) → length shapes ≤ CLASSES → have_few_fields shapes ≡ true
    → are_tables shapes heads ≡ are_ordered shapes 0 0 heads
tables-are shapes heads few thin =
    let fits : nat_le (length shapes) CLASSES ≡ true = grind (arith, nat_tests) in
    ap (λ (b : Truth). b && have_few_fields shapes && are_ordered shapes 0 0 heads) fits
    ∙ ap (λ (b : Truth). b && are_ordered shapes 0 0 heads) thin

pub tables-found : (shapes : List Shape) (heads : List Head) (r : Result (Vec Callee Global) Refusal) → length shapes ≤ CLASSES
    → have_few_fields shapes ≡ true → NumbersCallees shapes heads r → FindsCallees shapes heads r
tables-found shapes heads (Ok v) few thin n = (tables-are shapes heads few thin ∙ n.0, n.1)
tables-found shapes heads (Err refusal.NotRaised) few thin n = tables-are shapes heads few thin ∙ n
tables-found shapes heads (Err refusal.Memory) few thin n = tt
