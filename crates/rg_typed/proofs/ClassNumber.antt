-- The number of a class that no name has.
use Rattle.std.proofs.Common.{◌≡◌, refl, ap, ℕ, suc, Bool, true, false, if◌then◌else◌, bytes_eq, List, [], ◌∷◌, length, Option, None, Some}
use Rattle.std.proofs.lemmas.Slice.Eq.{bytes_eq-Decides}
use Rattle.std.proofs.Common.{option_map, ◌≢◌, ◌<◌, ◌∙◌, sym, map, zero, slice_get, slice_index_or, arith}
use Rattle.rg_tree.specs.Tree.{Name, Class}
use Rattle.rg_tree.specs.Rows.Tables.{AreDistinct}
use Rattle.rg_rules.specs.Types.{class_number, class_named}
use Rattle.rg_names.specs.TreeAnswers.{class_place}

none-of : {A B : Type 0} (o : Option A) (f : A → B) → option_map f o ≡ None → o ≡ None
none-of None f h = refl
none-of (Some a) f h = cc

number_by : (b : Bool) (c : Class) (rest : Option Class) (n k : ℕ) → (if b then Some c else rest) ≡ None → (rest ≡ None → n ≡ k)
    → (if b then 0 else suc n) ≡ suc k
number_by true c rest n k h e = cc
number_by false c rest n k h e = ap suc (e h)

class_number-none : (classes : List Class) (x : Name) → class_named classes x ≡ None → class_number classes x ≡ length classes
class_number-none [] x h = refl
class_number-none (c ∷ cs) x h = number_by (bytes_eq c.name x) c (class_named cs x) (class_number cs x) (length cs) h (class_number-none cs x)

-- a class that isn't there has the number of classes
pub class_number-unnamed : (classes : List Class) (x : Name) → class_place classes x ≡ None → class_number classes x ≡ length classes
class_number-unnamed classes x h = class_number-none classes x (none-of (class_named classes x) _ h)

-- of classes whose names differ, the one at a place has its number
named-later : (classes : List Class) (k : ℕ) (c : Class) (z : Name) → slice_get classes k ≡ Some c
    → (k < length (map (λ (d : Class). d.name) classes)) × (slice_index_or (map (λ (d : Class). d.name) classes) k z ≡ c.name)
named-later [] zero c z e = absurd cc
named-later [] (suc k) c z e = absurd cc
named-later (d ∷ ds) zero c z e = let same : d ≡ c = grind arith in (omega arith, ap (λ (b : Class). b.name) same)
named-later (d ∷ ds) (suc k) c z e = let l = named-later ds k c z e in (omega (arith, l.0), l.1)

pub class_number-named : (classes : List Class) (x : Name) (k : ℕ) (c : Class) → AreDistinct (map (λ (d : Class). d.name) classes)
    → slice_get classes k ≡ Some c → bytes_eq c.name x ≡ true → class_number classes x ≡ k
class_number-named [] x zero c a e h = absurd cc
class_number-named [] x (suc k) c a e h = absurd cc
class_number-named (d ∷ ds) x zero c a e h = by (bytes_eq d.name x) (ap (λ (b : Class). bytes_eq b.name x) same ∙ h)
  where
    same : d ≡ c
    same = grind arith

    by : (b : Bool) → b ≡ true → (if b then 0 else suc (class_number ds x)) ≡ 0
    by true e = refl
    by false e = absurd cc
class_number-named (d ∷ ds) x (suc k) c a e h = by (bytes_eq d.name x) refl
    (class_number-named ds x k c (λ i j z l within. a (suc i) (suc j) z (omega arith) (omega arith)) e h)
  where
    later : (k < length (map (λ (b : Class). b.name) ds)) × (slice_index_or (map (λ (b : Class). b.name) ds) k [] ≡ c.name)
    later = named-later ds k c [] e

    apart : d.name ≢ c.name
    apart same = a zero (suc k) [] (omega arith) (omega (arith, later.0)) (same ∙ sym later.1)

    by : (b : Bool) → bytes_eq d.name x ≡ b → class_number ds x ≡ k → (if b then 0 else suc (class_number ds x)) ≡ suc k
    by true t rest = absurd (apart ((bytes_eq-Decides d.name x).0 t ∙ sym ((bytes_eq-Decides c.name x).0 h)))
    by false t rest = ap suc rest
