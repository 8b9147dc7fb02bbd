-- Tables of a program have no more parts than can be numbered.
use Rattle.std.proofs.Common.{◌≡◌, ◌==◌, ◌&&◌, ℕ, suc, ◌+◌, ◌*◌, ◌<◌, ◌≤◌, ◌^◌, Bool as Truth, true, false, if◌then◌else◌, List, [], ◌∷◌, All, length}
use Rattle.std.proofs.Common.{slice_get, Option, Some, None, refl, subst, arith}
use Rattle.std.specs.Prelude.{nat_le, nat_lt}
use Rattle.std.proofs.lemmas.Bool.Decides.{nat_tests}
use Rattle.std.proofs.lemmas.List.Elements.{All-nil, All-cons}
use Rattle.std.proofs.lemmas.Option.{slice_get_within}
use Rattle.rg_base.specs.declared.limits.TheConstants.{CLASSES, CLASS_FIELDS, CLASS_METHODS}
use Rattle.rg_spell.specs.declared.rows.Shape.{Shape}
use Rattle.rg_spell.specs.declared.rows.Head.{Head}
use Rattle.rg_classes.specs.Order.{place_of, takes_methods, may_follow, are_ordered, have_few_fields, are_tables}

both : (a b : Truth) → (a && b) ≡ true → (a ≡ true) × (b ≡ true)
both true b h = (refl, h)
both false b h = absurd cc

-- the parts of the test
pub tables-parts : (shapes : List Shape) (heads : List Head) → are_tables shapes heads ≡ true
    → (length shapes ≤ 1024) × (have_few_fields shapes ≡ true) × (are_ordered shapes 0 0 heads ≡ true)
tables-parts shapes heads e =
    let (first, ordered) = both (nat_le (length shapes) CLASSES && have_few_fields shapes) _ e in
    let (few, thin) = both (nat_le (length shapes) CLASSES) _ first in
    let less : length shapes ≤ 1024 = grind (arith, nat_tests) in
    (less, thin, ordered)

pub few-classes : (shapes : List Shape) (heads : List Head) → are_tables shapes heads ≡ true → length shapes < 2 ^ 32
few-classes shapes heads e =
    let (few, thin, ordered) = tables-parts shapes heads e in
    omega (arith, few)

pub few-fields : (shapes : List Shape) → have_few_fields shapes ≡ true → All (λ (s : Shape). length s.fields < 2 ^ 32) shapes
few-fields [] e = All-nil (λ (s : Shape). length s.fields < 2 ^ 32)
few-fields (s ∷ ss) e =
    let (one, others) = both (nat_le (length s.fields) CLASS_FIELDS) _ e in
    let less : length s.fields < 2 ^ 32 = grind (arith, nat_tests) in
    All-cons (λ (s : Shape). length s.fields < 2 ^ 32) s ss less (few-fields ss others)

class-there : (shapes : List Shape) (c : ℕ) (o : Option Shape) → slice_get shapes c ≡ o → takes_methods o ≡ true → c < length shapes
class-there shapes c None e h = absurd cc
class-there shapes c (Some s) e h = slice_get_within shapes c s e

follow-bounds : (shapes : List Shape) (before k : ℕ) (h : Head) → length shapes ≤ 1024 → may_follow shapes before k h ≡ true
    → (before ≤ h.class) × (h.class < 1024) × (k < 64) × (length h.params ≤ 16)
follow-bounds shapes before k h most e =
    let (first, params) = both (nat_le before h.class && takes_methods (slice_get shapes h.class) && nat_lt k CLASS_METHODS) _ e in
    let (second, few) = both (nat_le before h.class && takes_methods (slice_get shapes h.class)) _ first in
    let (later, takes) = both (nat_le before h.class) _ second in
    let there = class-there shapes h.class (slice_get shapes h.class) refl takes in
    let up : before ≤ h.class = grind (arith, nat_tests) in
    let less : k < 64 = grind (arith, nat_tests) in
    let short : length h.params ≤ 16 = grind (arith, nat_tests) in
    (up, omega (arith, there, most), less, short)

place-room : (before next c n : ℕ) (same : Truth) → (c == before) ≡ same → before ≤ c → next ≤ 64
    → c * 64 + ((if same then next else 0) + 1) + n ≤ 65600 → before * 64 + next + (1 + n) ≤ 65600
place-room before next c n true e le few h =
    let is : c ≡ before = grind (arith, nat_tests) in
    let h = subst (λ (k : ℕ). k * 64 + (next + 1) + n ≤ 65600) is h in
    omega (arith, h)
place-room before next c n false e le few h =
    let other : before < c = grind (arith, nat_tests) in
    omega (arith, h, other, few)

few-heads : (shapes : List Shape) (before next : ℕ) (hs : List Head) → length shapes ≤ 1024 → before ≤ 1024 → next ≤ 64
    → are_ordered shapes before next hs ≡ true → before * 64 + next + length hs ≤ 65600
few-heads shapes before next [] most class few e = omega arith
few-heads shapes before next (h ∷ hs) most class few e =
    let k = place_of before next h.class in
    let (follows, others) = both (may_follow shapes before k h) _ e in
    let (up, there, less, short) = follow-bounds shapes before k h most follows in
    let one : suc k ≡ k + 1 = omega arith in
    let rest = few-heads shapes h.class (suc k) hs most (omega (arith, there)) (omega (arith, less)) others in
    let rest = subst (λ (n : ℕ). h.class * 64 + n + length hs ≤ 65600) one rest in
    let all = place-room before next h.class (length hs) (h.class == before) refl up few rest in
    omega (arith, all)

pub few-methods : (shapes : List Shape) (heads : List Head) → length shapes ≤ 1024 → are_ordered shapes 0 0 heads ≡ true → length heads < 2 ^ 32
few-methods shapes heads most e =
    let all = few-heads shapes 0 0 heads most (omega arith) (omega arith) e in
    omega (arith, all)

pub few-params : (shapes : List Shape) (before next : ℕ) (hs : List Head) → length shapes ≤ 1024 → are_ordered shapes before next hs ≡ true
    → All (λ (h : Head). length h.params + 1 < 2 ^ 32) hs
few-params shapes before next [] most e = All-nil (λ (h : Head). length h.params + 1 < 2 ^ 32)
few-params shapes before next (h ∷ hs) most e =
    let k = place_of before next h.class in
    let (follows, others) = both (may_follow shapes before k h) _ e in
    let (up, there, less, short) = follow-bounds shapes before k h most follows in
    All-cons (λ (h : Head). length h.params + 1 < 2 ^ 32) h hs (omega (arith, short)) (few-params shapes h.class (suc k) hs most others)
