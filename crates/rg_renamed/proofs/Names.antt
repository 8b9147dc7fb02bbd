-- Names of numbers differ, so what is named in order is found by the name of its number.
use Rattle.std.proofs.Common.{◌≡◌, refl, sym, ap, ◌∙◌, subst, ℕ, zero, suc, ◌+◌, ◌<◌, ◌≤◌, ◌^◌, Bool as Truth, true, false, if◌then◌else◌, bytes_eq}
use Rattle.std.proofs.Common.{List, [], ◌∷◌, length, find, drop, slice_get, Option, Some, None, option_map, arith}
use Rattle.std.specs.Fmt.{decimal}
use Rattle.std.proofs.lemmas.Fmt.{decimal_injective}
use Rattle.std.proofs.lemmas.Slice.Eq.{bytes_eq-Decides}
use Rattle.rg_tree.specs.Tree.{Name, Variable, Field, Method, Class}
use Rattle.rg_rules.specs.Types.{class_number, field_place}
use Rattle.rg_rules.specs.Environment.{same_variable}
use Rattle.rg_sound.proofs.Frames.Entry.{same_variable-true, same_variable-same}
use Rattle.rg_code.specs.Lowering.{method_place}
use Rattle.rg_verify_expressions.specs.Naming.{variable_name, field_name, class_name, method_name, variable_in}
use Rattle.rg_numbered.specs.ModuleNames.{AreNamed}
use Rattle.rg_numbered.proofs.Classes.{some-is, none-some}
use Rattle.rg_renamed.specs.Renamed.{renamed_from}

-- numbers below 2 ^ 64 that have one name are one
abbrev pub AreApart : (name : ℕ → Name) → Type 0
AreApart name = (i j : ℕ) → i < 2 ^ 64 → j < 2 ^ 64 → name i ≡ name j → i ≡ j

pub variables-apart : AreApart variable_name
variables-apart i j p q h = let e : decimal i ≡ decimal j = ap (λ (x : Name). drop 1 x) h in decimal_injective i j p q e

pub fields-apart : AreApart field_name
fields-apart i j p q h = let e : decimal i ≡ decimal j = ap (λ (x : Name). drop 1 x) h in decimal_injective i j p q e

pub classes-apart : AreApart class_name
classes-apart i j p q h = let e : decimal i ≡ decimal j = ap (λ (x : Name). drop 1 x) h in decimal_injective i j p q e

pub methods-apart : AreApart method_name
methods-apart i j p q h = let e : decimal i ≡ decimal j = ap (λ (x : Name). drop 1 x) h in decimal_injective i j p q e

pub same-bytes : (x y : Name) → x ≡ y → bytes_eq x y ≡ true
same-bytes x y e = (bytes_eq-Decides x y).1 e

pub other-bytes : (x y : Name) → (x ≡ y → ⊥) → bytes_eq x y ≡ false
other-bytes x y n = by (bytes_eq x y) refl
  where
    by : (b : Truth) → bytes_eq x y ≡ b → bytes_eq x y ≡ false
    by true e = absurd (n ((bytes_eq-Decides x y).0 e))
    by false e = e

-- the name of a number, against that of an earlier one
earlier : (name : ℕ → Name) → AreApart name → (x : Name) (k n : ℕ) → x ≡ name k → k < n → n < 2 ^ 64 → bytes_eq x (name n) ≡ false
earlier name apart x k n e l r =
    other-bytes x (name n) (λ h. let same : k ≡ n = apart k n (omega (arith, l, r)) r (sym e ∙ h) in omega (arith, l, same))

this : (name : ℕ → Name) (x : Name) (k n : ℕ) → x ≡ name k → k ≡ n → bytes_eq x (name n) ≡ true
this name x k n e l = same-bytes x (name n) (e ∙ ap name l)

-- Things in order that are named in order, of which the first one has a number

module _ {A : Type 0} (of : A → Name) (name : ℕ → Name) (apart : AreApart name) where
  -- that of number n is found, which stands at place p; none is, if p is behind the last
  pub find-named : (xs : List A) (k p n : ℕ) → AreNamed of name k xs → n ≡ k + p → p ≤ length xs → k + length xs < 2 ^ 64 →
      find (λ (x : A). bytes_eq (of x) (name n)) xs ≡ slice_get xs p
  find-named [] k p n h e l r = refl
  find-named (x ∷ xs) k zero n h e l r =
      ap (λ (b : Truth). if b then Some x else find (λ (y : A). bytes_eq (of y) (name n)) xs) (this name (of x) k n h.0 (omega (arith, e)))
  find-named (x ∷ xs) k (suc p) n h e l r =
      ap (λ (b : Truth). if b then Some x else find (λ (y : A). bytes_eq (of y) (name n)) xs)
      (earlier name apart (of x) k n h.0 (omega (arith, e)) (omega (arith, e, l, r)))
      ∙ find-named xs (suc k) p n h.1 (omega (arith, e)) (omega (arith, l)) (omega (arith, r))

pub number-named : (cs : List Class) (k p n : ℕ) → AreNamed (λ (c : Class). c.name) class_name k cs → n ≡ k + p → p ≤ length cs →
    k + length cs < 2 ^ 64 → class_number cs (class_name n) ≡ p
number-named [] k p n h e l r = omega (arith, l)
number-named (c ∷ cs) k zero n h e l r =
    ap (λ (b : Truth). if b then 0 else suc (class_number cs (class_name n))) (this class_name c.name k n h.0 (omega (arith, e)))
number-named (c ∷ cs) k (suc p) n h e l r =
    ap (λ (b : Truth). if b then 0 else suc (class_number cs (class_name n)))
    (earlier class_name classes-apart c.name k n h.0 (omega (arith, e)) (omega (arith, e, l, r)))
    ∙ ap (λ (q : ℕ). suc q) (number-named cs (suc k) p n h.1 (omega (arith, e)) (omega (arith, l)) (omega (arith, r)))

pub field-named : (fs : List Field) (k p n : ℕ) → AreNamed (λ (f : Field). f.name) field_name k fs → n ≡ k + p → p < length fs →
    k + length fs < 2 ^ 64 → field_place fs (field_name n) ≡ Some p
field-named [] k p n h e l r = absurd (omega (arith, l))
field-named (f ∷ fs) k zero n h e l r =
    ap (λ (b : Truth). if b then Some 0 else option_map suc (field_place fs (field_name n))) (this field_name f.name k n h.0 (omega (arith, e)))
field-named (f ∷ fs) k (suc p) n h e l r =
    ap (λ (b : Truth). if b then Some 0 else option_map suc (field_place fs (field_name n)))
    (earlier field_name fields-apart f.name k n h.0 (omega (arith, e)) (omega (arith, e, l, r)))
    ∙ ap (option_map suc) (field-named fs (suc k) p n h.1 (omega (arith, e)) (omega (arith, l)) (omega (arith, r)))

pub method-named : (ms : List Method) (k p n : ℕ) → AreNamed (λ (m : Method). m.name) method_name k ms → n ≡ k + p → p ≤ length ms →
    k + length ms < 2 ^ 64 → method_place ms (method_name n) ≡ p
method-named [] k p n h e l r = omega (arith, l)
method-named (m ∷ ms) k zero n h e l r =
    ap (λ (b : Truth). if b then 0 else suc (method_place ms (method_name n))) (this method_name m.name k n h.0 (omega (arith, e)))
method-named (m ∷ ms) k (suc p) n h e l r =
    ap (λ (b : Truth). if b then 0 else suc (method_place ms (method_name n)))
    (earlier method_name methods-apart m.name k n h.0 (omega (arith, e)) (omega (arith, e, l, r)))
    ∙ ap (λ (q : ℕ). suc q) (method-named ms (suc k) p n h.1 (omega (arith, e)) (omega (arith, l)) (omega (arith, r)))

-- Variables

variable-is : (m : Truth) (i j : ℕ) → i < 2 ^ 64 → j < 2 ^ 64 → variable_in m i ≡ variable_in m j → i ≡ j
variable-is false i j p q h = variables-apart i j p q (some-is h)
variable-is true zero zero p q h = refl
variable-is true zero (suc j) p q h = absurd (none-some h)
variable-is true (suc i) zero p q h = absurd (none-some (sym h))
variable-is true (suc i) (suc j) p q h = variables-apart (suc i) (suc j) p q (some-is h)

pub same-slot : (m : Truth) (i j : ℕ) → i ≡ j → same_variable (variable_in m i) (variable_in m j) ≡ true
same-slot m i j e = ap (λ (k : ℕ). same_variable (variable_in m i) (variable_in m k)) (sym e) ∙ same_variable-same (variable_in m i)

pub other-slot : (m : Truth) (i j : ℕ) → (i ≡ j → ⊥) → i < 2 ^ 64 → j < 2 ^ 64 → same_variable (variable_in m i) (variable_in m j) ≡ false
other-slot m i j n p q = by (same_variable (variable_in m i) (variable_in m j)) refl
  where
    by : (b : Truth) → same_variable (variable_in m i) (variable_in m j) ≡ b → same_variable (variable_in m i) (variable_in m j) ≡ false
    by true e = absurd (n (variable-is m i j p q (same_variable-true (variable_in m i) (variable_in m j) e)))
    by false e = e

-- Lists that are made in order

pub from-long : {A B : Type 0} (each : ℕ → A → B) (k : ℕ) (xs : List A) → length (renamed_from each k xs) ≡ length xs
from-long each k [] = refl
from-long each k (x ∷ xs) = ap (λ (n : ℕ). suc n) (from-long each (suc k) xs)

pub from-at : {A B : Type 0} (each : ℕ → A → B) (xs : List A) (k p n : ℕ) → n ≡ k + p →
    slice_get (renamed_from each k xs) p ≡ option_map (each n) (slice_get xs p)
from-at each [] k p n e = refl
from-at each (x ∷ xs) k zero n e = let same : k ≡ n = omega (arith, e) in ap (λ (j : ℕ). Some (each j x)) same
from-at each (x ∷ xs) k (suc p) n e = from-at each xs (suc k) p n (omega (arith, e))

pub from-named : {A B : Type 0} (each : ℕ → A → B) (of : B → Name) (name : ℕ → Name) → ((k : ℕ) (x : A) → of (each k x) ≡ name k) →
    (k : ℕ) (xs : List A) → AreNamed of name k (renamed_from each k xs)
from-named each of name is k [] = tt
from-named each of name is k (x ∷ xs) = (is k x, from-named each of name is (suc k) xs)
