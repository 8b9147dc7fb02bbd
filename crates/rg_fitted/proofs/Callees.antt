-- Each method that a class has stands at its number among the methods of the program.
use Rattle.std.proofs.Common.{◌≡◌, refl, sym, ap, ◌∙◌, ℕ, zero, suc, ◌+◌, Bool as Truth, true, false, if◌then◌else◌, bytes_eq, List, [], ◌∷◌}
use Rattle.std.proofs.Common.{◌++◌, length, find, filter_map, slice_get, Option, Some, None, arith}
use Rattle.rg_tree.specs.Tree.{Name, Member, field, method, Method, Class}
use Rattle.rg_rules.specs.Types.{method_member, members_of, methods_of, method_result}
use Rattle.rg_code.specs.Lowering.{methods_among, method_place, method_number, number_called}
use Rattle.rg_verify_expressions.specs.declared.callee.Callee.{Callee}
use Rattle.rg_numbered.proofs.Classes.{none-some, some-is}
use Rattle.rg_fitted.specs.Callees.{class_callees, callees_from, callees}
use Rattle.rg_fitted.specs.Laws.{AreMethodsOf}

pub among : (ms : List Member) → methods_among ms ≡ filter_map method_member ms
among [] = refl
among (field f ∷ ms) = among ms
among (method m ∷ ms) = ap (λ (q : List Method). m ∷ q) (among ms)

in-front : {A : Type 0} (xs ys : List A) (n : ℕ) (x : A) → slice_get xs n ≡ Some x → slice_get (xs ++ ys) n ≡ Some x
in-front [] ys n x h = absurd (none-some h)
in-front (z ∷ zs) ys zero x h = h
in-front (z ∷ zs) ys (suc n) x h = in-front zs ys n x h

behind : {A : Type 0} (xs ys : List A) (n : ℕ) → slice_get (xs ++ ys) (length xs + n) ≡ slice_get ys n
behind [] ys n = let e : 0 + n ≡ n = omega arith in ap (slice_get ys) e
behind (x ∷ xs) ys n =
    let e : suc (length xs) + n ≡ suc (length xs + n) = omega arith in ap (slice_get (x ∷ (xs ++ ys))) e ∙ behind xs ys n

callees-long : (cs : List Class) (n p : ℕ) (ms : List Method) → length (class_callees cs n p ms) ≡ length ms
callees-long cs n p [] = refl
callees-long cs n p (m ∷ ms) = ap suc (callees-long cs (suc n) (suc p) ms)

abbrev one : List Class → (number place : ℕ) → Method → Callee
one cs n p m = record { number = n; place = p; result = method_result cs m }

-- in its class
placed : (cs : List Class) (n p : ℕ) (ms : List Method) (x : Name) (m : Method) → find (λ (q : Method). bytes_eq q.name x) ms ≡ Some m →
    slice_get (class_callees cs n p ms) (method_place ms x) ≡ Some (one cs (n + method_place ms x) (p + method_place ms x) m)
placed cs n p [] x m h = absurd (none-some h)
placed cs n p (q ∷ qs) x m h = by (bytes_eq q.name x) (placed cs (suc n) (suc p) qs x m) h
  where
    by : (b : Truth) → (find (λ (o : Method). bytes_eq o.name x) qs ≡ Some m →
        slice_get (class_callees cs (suc n) (suc p) qs) (method_place qs x) ≡ Some (one cs (suc n + method_place qs x)
        (suc p + method_place qs x) m)) →
        (if b then Some q else find (λ (o : Method). bytes_eq o.name x) qs) ≡ Some m →
        slice_get (one cs n p q ∷ class_callees cs (suc n) (suc p) qs) (if b then 0 else suc (method_place qs x))
        ≡ Some (one cs (n + (if b then 0 else suc (method_place qs x))) (p + (if b then 0 else suc (method_place qs x))) m)
    by true rest g =
        let e : n ≡ n + 0 = omega arith in
        let f : p ≡ p + 0 = omega arith in
        ap (λ (o : Method). Some (one cs n p o)) (some-is g) ∙ ap (λ (k : ℕ). Some (one cs k p m)) e ∙ ap (λ (k : ℕ). Some (one cs (n + 0) k m)) f
    by false rest g =
        let i = method_place qs x in
        let e : suc n + i ≡ n + suc i = omega arith in
        let f : suc p + i ≡ p + suc i = omega arith in
        rest g ∙ ap (λ (k : ℕ). Some (one cs k (suc p + i) m)) e ∙ ap (λ (k : ℕ). Some (one cs (n + suc i) k m)) f

-- through the program
numbered-method : (cs : List Class) (n : ℕ) (ks : List Class) (c : ℕ) (x : Name) (m : Method) →
    find (λ (q : Method). bytes_eq q.name x) (filter_map method_member (members_of (slice_get ks c))) ≡ Some m →
    slice_get (callees_from cs n ks) (method_number ks c x)
    ≡ Some (one cs (n + method_number ks c x) (method_place (filter_map method_member (members_of (slice_get ks c))) x) m)
numbered-method cs n [] c x m h = absurd (none-some h)
numbered-method cs n (k ∷ ks) zero x m h =
    let own = methods_among k.members in
    let same = among k.members in
    let found : find (λ (q : Method). bytes_eq q.name x) own ≡ Some m = ap (find (λ (q : Method). bytes_eq q.name x)) same ∙ h in
    let zero_more : 0 + method_place own x ≡ method_place own x = omega arith in
    in-front (class_callees cs n 0 own) (callees_from cs (n + length own) ks) (method_place own x) _ (placed cs n 0 own x m found)
    ∙ ap (λ (q : ℕ). Some (one cs (n + method_place own x) q m)) (zero_more ∙ ap (λ (q : List Method). method_place q x) same)
numbered-method cs n (k ∷ ks) (suc c) x m h =
    let own = methods_among k.members in
    let first = class_callees cs n 0 own in
    let i = method_number ks c x in
    let place = method_place (filter_map method_member (members_of (slice_get ks c))) x in
    let e : (n + length own) + i ≡ n + (length own + i) = omega arith in
    ap (λ (q : ℕ). slice_get (first ++ callees_from cs (n + length own) ks) (q + i)) (sym (callees-long cs n 0 own))
    ∙ behind first (callees_from cs (n + length own) ks) i ∙ numbered-method cs (n + length own) ks c x m h
    ∙ ap (λ (q : ℕ). Some (one cs q place m)) e

pub callees-stand : (classes : List Class) → AreMethodsOf classes (callees classes)
callees-stand classes c x m h =
    let called : number_called classes c x ≡ method_number classes c x =
    ap (λ (o : Option Method). elim o [ None ↦ 0 | Some q ↦ method_number classes c x ]) h in
    let place = method_place (methods_of classes c) x in
    let e : 0 + method_number classes c x ≡ number_called classes c x =
    let z : 0 + method_number classes c x ≡ method_number classes c x = omega arith in z ∙ sym called in
    ap (slice_get (callees classes)) called ∙ numbered-method classes 0 classes c x m h ∙ ap (λ (q : ℕ). Some (one classes q place m)) e
