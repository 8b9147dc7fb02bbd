-- The method of a name in a class is the one of its number among all methods.
use Rattle.std.proofs.Common.{◌≡◌, refl, sym, ap, ◌∙◌, subst, ℕ, zero, suc, ◌+◌, Bool as Truth, true, false, if◌then◌else◌, bytes_eq, List, [], ◌∷◌}
use Rattle.std.proofs.Common.{◌++◌}
use Rattle.std.proofs.Common.{length, filter_map, find, Option, None, Some, option_map, slice_get, arith}
use Rattle.std.proofs.lemmas.Option.{same_Some}
use Rattle.rg_tree.specs.Tree.{Name, Method, Class}
use Rattle.rg_rules.specs.Types.{method_member, methods_of, method_named}
use Rattle.rg_names.specs.MethodNumbers.{first_place, methods_before, method_number as place_of_method}
use Rattle.rg_code.specs.Lowering.{method_place, method_number}
use Rattle.rg_code.proofs.Method.{methods_among-is}
use Rattle.rg_sched_atomic.specs.Behaviours.{all_methods}

none-some : {A : Type 0} {B : Type 0} {a : A} → None ≡ Some a → B
none-some e = grind arith

some-of : {A B : Type 0} (o : Option A) (f : A → B) (b : B) → option_map f o ≡ Some b → (a : A) × (o ≡ Some a) × (f a ≡ b)
some-of None f b h = none-some h
some-of (Some a) f b h = (a, refl, same_Some (f a) b h)

-- the first that passes stands at the first place where one does
found-at : {A : Type 0} (test : A → Truth) (xs : List A) (a : A) (k : ℕ) → find test xs ≡ Some a → first_place test xs ≡ Some k
    → slice_get xs k ≡ Some a
found-at test [] a k f p = none-some f
found-at test (x ∷ xs) a k f p = by (test x) f p (found-at test xs a)
  where
    by : (b : Truth) → (if b then Some x else find test xs) ≡ Some a → (if b then Some 0 else option_map suc (first_place test xs)) ≡ Some k
        → ((n : ℕ) → find test xs ≡ Some a → first_place test xs ≡ Some n → slice_get xs n ≡ Some a) → slice_get (x ∷ xs) k ≡ Some a
    by true g q rest = subst (λ n. slice_get (x ∷ xs) n ≡ Some a) (same_Some 0 k q) g
    by false g q rest =
        let n = some-of (first_place test xs) suc k q in subst (λ m. slice_get (x ∷ xs) m ≡ Some a) n.2 (rest n.0 g n.1)

in-front : {A : Type 0} (xs ys : List A) (k : ℕ) (a : A) → slice_get xs k ≡ Some a → slice_get (xs ++ ys) k ≡ Some a
in-front [] ys k a h = none-some h
in-front (x ∷ xs) ys zero a h = h
in-front (x ∷ xs) ys (suc k) a h = in-front xs ys k a h

behind : {A : Type 0} (xs ys : List A) (k : ℕ) → slice_get (xs ++ ys) (length xs + k) ≡ slice_get ys k
behind [] ys k = let e : 0 + k ≡ k = omega arith in ap (slice_get ys) e
behind (x ∷ xs) ys k = let e : suc (length xs) + k ≡ suc (length xs + k) = omega arith in ap (slice_get (x ∷ xs ++ ys)) e ∙ behind xs ys k

among-all : (classes : List Class) (c k : ℕ) (m : Method) → slice_get (methods_of classes c) k ≡ Some m
    → slice_get (all_methods classes) (methods_before classes c + k) ≡ Some m
among-all [] c k m h = none-some h
among-all (d ∷ ds) zero k m h =
    let e : 0 + k ≡ k = omega arith in
    ap (slice_get (all_methods (d ∷ ds))) e ∙ in-front (filter_map method_member d.members) (all_methods ds) k m h
among-all (d ∷ ds) (suc c) k m h =
    let n = length (filter_map method_member d.members) in
    let e : n + methods_before ds c + k ≡ n + (methods_before ds c + k) = omega arith in
    ap (slice_get (all_methods (d ∷ ds))) e ∙ behind (filter_map method_member d.members) (all_methods ds) (methods_before ds c + k)
    ∙ among-all ds c k m h

pub method-among : (classes : List Class) (c : ℕ) (x : Name) (m : Method) (n : ℕ) → method_named classes c x ≡ Some m
    → place_of_method classes c x ≡ Some n → slice_get (all_methods classes) n ≡ Some m
method-among classes c x m n named place =
    let k = some-of (first_place (λ (m : Method). bytes_eq m.name x) (methods_of classes c)) (λ place. methods_before classes c + place) n place in
    ap (slice_get (all_methods classes)) (sym k.2)
    ∙ among-all classes c k.0 m (found-at (λ (m : Method). bytes_eq m.name x) (methods_of classes c) m k.0 named k.1)

-- The number by which code calls it is the same

place_by : (b : Truth) (rest : Option ℕ) (n k : ℕ) → (if b then Some 0 else option_map suc rest) ≡ Some k → ((j : ℕ) → rest ≡ Some j → n ≡ j)
    → (if b then 0 else suc n) ≡ k
place_by true rest n k h e = same_Some 0 k h
place_by false rest n k h e = let s = some-of rest suc k h in ap suc (e s.0 s.1) ∙ s.2

method_place-first : (ms : List Method) (x : Name) (k : ℕ) → first_place (λ (m : Method). bytes_eq m.name x) ms ≡ Some k → method_place ms x ≡ k
method_place-first [] x k h = none-some h
method_place-first (m ∷ ms) x k h =
    place_by (bytes_eq m.name x) (first_place (λ (m : Method). bytes_eq m.name x) ms) (method_place ms x) k h (λ j e. method_place-first ms x j e)

number-first : (classes : List Class) (c : ℕ) (x : Name) (k : ℕ) → first_place (λ (m : Method). bytes_eq m.name x) (methods_of classes c) ≡ Some k
    → method_number classes c x ≡ methods_before classes c + k
number-first [] c x k h = none-some h
number-first (d ∷ ds) zero x k h =
    let z : 0 + k ≡ k = omega arith in
    rw (methods_among-is d.members, z) (method_place-first (filter_map method_member d.members) x k h)
number-first (d ∷ ds) (suc c) x k h = let e = number-first ds c x k h in rw (methods_among-is d.members, e) (omega arith)

pub number-of_method : (classes : List Class) (c : ℕ) (x : Name) (n : ℕ) → place_of_method classes c x ≡ Some n → method_number classes c x ≡ n
number-of_method classes c x n h =
    let s = some-of (first_place (λ (m : Method). bytes_eq m.name x) (methods_of classes c)) (λ place. methods_before classes c + place) n h in
    number-first classes c x s.0 s.1 ∙ s.2
